-- The results of calls on files and on an output, and the state after them.
use Rattle.std.specs.Prelude.{◌≡◌, ◌≢◌, ℕ, ◌+◌, ◌-◌, ◌^◌, ◌≤◌, ◌<◌, min, List, ◌++◌, length, take, Option, Some, Result, Ok, Err}
use Rattle.ksi_ports.specs.declared.counts.Counts.{Counts}
use Rattle.ksi_ports.specs.declared.files.LoadRefusal.{LoadRefusal}
use Rattle.ksi_ports.specs.declared.files.LoadRefusal.TheVariants.{Failed, TooLong, NoMemory}
use Rattle.ksi_ports.specs.declared.files.SaveRefusal.{SaveRefusal}
use Rattle.ksi_ports.specs.declared.files.SaveRefusal.TheVariants as saves
use Rattle.ksi_ports.specs.Stored.{Held, with_file}

-- a count that goes up by so much, and stops at 2 ^ 64 - 1
abbrev pub count_up : ℕ → ℕ → ℕ
count_up n before = min (before + n) (2 ^ 64 - 1)

-- no call so far
abbrev pub no_calls : Counts
no_calls = record { calls = 0; saves = 0; faults = 0; load_faults = 0; taken = 0; last_taken = 0 }

-- A count has risen by n or more. A count of 2 ^ 64 - 1 counts as risen by any number.
abbrev pub RoseBy : ℕ → ℕ → ℕ → Type 0
RoseBy n before now = count_up n before ≤ now

-- the same, by one
abbrev pub Rose : ℕ → ℕ → Type 0
Rose before now = RoseBy 1 before now

-- a count did not fall, and has risen
pub record Raises (before now : ℕ) : Type 0 where
  pub later : before ≤ now
  pub rose : Rose before now

-- a load's count of calls: it rises by one, and by at most one if memory ran out
abbrev pub LoadCalls : {T : Type 0} → ℕ → ℕ → Result T LoadRefusal → Type 0
LoadCalls before now (Ok bytes) = now ≡ count_up 1 before
LoadCalls before now (Err Failed) = now ≡ count_up 1 before
LoadCalls before now (Err TooLong) = now ≡ count_up 1 before
LoadCalls before now (Err NoMemory) = now ≤ count_up 1 before

-- a load's count of faults or of failed loads: it rises where the load failed, and stays where it did not
abbrev pub LoadCounts : {T : Type 0} → ℕ → ℕ → Result T LoadRefusal → Type 0
LoadCounts before now (Ok bytes) = now ≡ before
LoadCounts before now (Err Failed) = Raises before now
LoadCounts before now (Err TooLong) = now ≡ before
LoadCounts before now (Err NoMemory) = now ≡ before

-- a count has risen by exactly this number, up to 2 ^ 64 - 1
pub record TakesExactly (n before now : ℕ) : Type 0 where
  pub later : before ≤ now
  pub rose : RoseBy n before now
  pub no_more : now ≤ before + n

-- a count did not fall, and has risen by at most this number
pub record TakesUpTo (n before now : ℕ) : Type 0 where
  pub later : before ≤ now
  pub no_more : now ≤ before + n

-- a load's tally of bytes taken: a load takes the bytes that it gives, or one byte more than `most` where the file was
-- too long; one that failed or lacked memory takes no more than that
abbrev pub LoadTakes : ℕ → ℕ → ℕ → Result (List ℕ) LoadRefusal → Type 0
LoadTakes most before now (Ok bytes) = TakesExactly (length bytes) before now
LoadTakes most before now (Err Failed) = TakesUpTo (most + 1) before now
LoadTakes most before now (Err TooLong) = TakesExactly (most + 1) before now
LoadTakes most before now (Err NoMemory) = TakesUpTo (most + 1) before now

-- what a load answers, by what is held under the name: the bytes where they are at most `most`, too long where they are more
abbrev pub LoadTells : ℕ → Option (List ℕ) → Result (List ℕ) LoadRefusal → Type 0
LoadTells most held (Ok bytes) = (held ≡ Some bytes) × (length bytes ≤ most)
LoadTells most held (Err Failed) = Unit {0}
LoadTells most held (Err TooLong) = (bytes : List ℕ) × (held ≡ Some bytes) × (most < length bytes)
LoadTells most held (Err NoMemory) = Unit {0}

-- a load that lacked memory, of what is held under the name: the file has at most `most` bytes, and the call is not counted
abbrev pub LoadLacks : ℕ → Option (List ℕ) → ℕ → ℕ → Result (List ℕ) LoadRefusal → Type 0
LoadLacks most held before now (Ok bytes) = Unit {0}
LoadLacks most held before now (Err Failed) = Unit {0}
LoadLacks most held before now (Err TooLong) = Unit {0}
LoadLacks most held before now (Err NoMemory) = (now ≡ before) × (bytes : List ℕ) × (held ≡ Some bytes) × (length bytes ≤ most)

-- a save's count of calls, as a load's
abbrev pub SaveCalls : ℕ → ℕ → Result (Unit {0}) SaveRefusal → Type 0
SaveCalls before now (Ok u) = now ≡ count_up 1 before
SaveCalls before now (Err saves.Failed) = now ≡ count_up 1 before
SaveCalls before now (Err saves.NoMemory) = now ≤ count_up 1 before

-- the count of saves after a save: it rises by one, and stays if memory ran out
abbrev pub SavesCounted : ℕ → ℕ → Result (Unit {0}) SaveRefusal → Type 0
SavesCounted before now (Ok u) = now ≡ count_up 1 before
SavesCounted before now (Err saves.Failed) = now ≡ count_up 1 before
SavesCounted before now (Err saves.NoMemory) = now ≡ before

-- a save's count of faults
abbrev pub SaveCounts : ℕ → ℕ → Result (Unit {0}) SaveRefusal → Type 0
SaveCounts before now (Ok u) = now ≡ before
SaveCounts before now (Err saves.Failed) = Raises before now
SaveCounts before now (Err saves.NoMemory) = now ≡ before

-- all names but this one have the same content as before
abbrev pub OthersStay : List ℕ → Held → Held → Type 0
OthersStay name old new = (other : List ℕ) → other ≢ name → new other ≡ old other

-- the state after a save: the bytes under the name, or an unknown content under this name alone, or no change
abbrev pub SaveLeaves : List ℕ → List ℕ → Held → Held → Result (Unit {0}) SaveRefusal → Type 0
SaveLeaves name bytes old new (Ok u) = new ≡ with_file old name bytes
SaveLeaves name bytes old new (Err saves.Failed) = OthersStay name old new
SaveLeaves name bytes old new (Err saves.NoMemory) = new ≡ old

-- the second is the first with a prefix of the piece appended, possibly empty or the whole piece
abbrev pub ExtendsByFront : List ℕ → List ℕ → List ℕ → Type 0
ExtendsByFront old piece new = (k : ℕ) × (new ≡ old ++ take k piece)
