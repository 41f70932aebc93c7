-- What is known of files and output of the system: how many calls there were, how many of them failed,
-- how many bytes were taken, and where output goes.
use Rattle.std.specs.Prelude.{ℕ, ◌+◌, List, length, take, Option, Result, Ok, Err}
use Rattle.std.specs.Io.KnownBytes.{Appends}
use Rattle.ksi_ports.specs.declared.files.LoadRefusal.{LoadRefusal}
use Rattle.ksi_ports.specs.declared.files.LoadRefusal.TheVariants.{Failed, TooLong, NoMemory}
use Rattle.ksi_ports.specs.Outside.{count_up, Rose, TakesExactly, TakesUpTo}

-- the count of faults after a load with this answer
abbrev pub faults_after : {T : Type 0} → ℕ → Result T LoadRefusal → ℕ
faults_after before (Ok bytes) = before
faults_after before (Err Failed) = count_up 1 before
faults_after before (Err TooLong) = before
faults_after before (Err NoMemory) = before

-- the tally after a source was read: each byte that it gave is counted, it gave at most `most` bytes before it failed,
-- and memory wants only for bytes that it gave
abbrev pub ReadTakes : ℕ → ℕ → ℕ → Result (List ℕ) LoadRefusal → Type 0
ReadTakes most before now (Ok bytes) = TakesExactly (length bytes) before now
ReadTakes most before now (Err Failed) = TakesUpTo most before now
ReadTakes most before now (Err TooLong) = TakesExactly (most + 1) before now
ReadTakes most before now (Err NoMemory) = Rose before now × TakesUpTo (most + 1) before now

-- where output goes, how many puts there were, how many bytes were given to them, and how many of them failed
pub record CountedOutput (W : Type 0) : Type 0 where
  pub writer : W
  pub puts : ℕ
  pub given : ℕ
  pub faults : ℕ

-- known bytes have grown by a beginning of the piece
abbrev pub AppendsFront : Option (List ℕ) → Option (List ℕ) → List ℕ → Type 0
AppendsFront old new piece = (k : ℕ) × Appends old new (take k piece)
