-- Files and output in memory, and what each call of theirs answers and leaves.
use Rattle.std.specs.Prelude.{◌≡◌, ℕ, ◌+◌, Bool, IsTrue, IsFalse, IsOk, nat_le, nat_lt, ◌==◌, List, [], ◌∷◌, ◌++◌, length, take, Option, Some, None, Result, Ok, Err, if◌then◌else◌, bytes_eq}
use Rattle.std.specs.List.{list_any}
use Rattle.ksi_ports.specs.declared.counts.Counts.{Counts}
use Rattle.ksi_ports.specs.declared.entries.Entry.{Entry}
use Rattle.ksi_ports.specs.declared.files.LoadRefusal.{LoadRefusal}
use Rattle.ksi_ports.specs.declared.files.LoadRefusal.TheVariants.{Failed, TooLong, NoMemory}
use Rattle.ksi_ports.specs.declared.files.SaveRefusal.{SaveRefusal}
use Rattle.ksi_ports.specs.declared.files.SaveRefusal.TheVariants as saves
use Rattle.ksi_ports.specs.declared.mem_sink.Cut.{Cut}
use Rattle.ksi_ports.specs.Stored.{Held}
use Rattle.ksi_ports.specs.Outside.{count_up, no_calls}

-- the number of a call is one of those that are to fail
abbrev pub is_listed : List ℕ → ℕ → Bool
is_listed failing call = list_any (λ listed. listed == call) failing

-- files in memory: the files, the newest first; the numbers of the calls that are to fail, counted from 0; and what was
-- counted of the calls
pub record StoredFiles : Type 0 where
  pub entries : List Entry
  pub failing : List ℕ
  pub counts : Counts

-- no files, and no call so far
abbrev pub no_files : List ℕ → StoredFiles
no_files failing = record { entries = []; failing = failing; counts = no_calls }

-- the bytes of the newest file of each name
abbrev pub held_in : List Entry → Held
held_in [] = λ name. None
held_in (e ∷ es) = λ name. if bytes_eq e.name name then Some e.bytes else held_in es name

-- the bytes where they are at most `most`
abbrev pub up_to : ℕ → Option (List ℕ) → Result (List ℕ) LoadRefusal
up_to most None = Err Failed
up_to most (Some bytes) = if nat_le (length bytes) most then Ok bytes else Err TooLong

-- what a load answers with ample memory: it fails exactly where the call is listed or the name is not held
abbrev pub load_answer : StoredFiles → List ℕ → ℕ → Result (List ℕ) LoadRefusal
load_answer files name most = if is_listed files.failing files.counts.calls then Err Failed else up_to most (held_in files.entries name)

-- the counts after a load with this answer: if memory ran out, no call is counted and nothing is taken
abbrev pub counts_after_load : Counts → ℕ → Result (List ℕ) LoadRefusal → Counts
counts_after_load c most (Ok bytes) = record c { calls = count_up 1 c.calls; taken = count_up (length bytes) c.taken; last_taken = length bytes }
counts_after_load c most (Err Failed) = record c { calls = count_up 1 c.calls; faults = count_up 1 c.faults; load_faults = count_up 1 c.load_faults; last_taken = 0 }
counts_after_load c most (Err TooLong) = record c { calls = count_up 1 c.calls; taken = count_up (most + 1) c.taken; last_taken = count_up (most + 1) 0 }
counts_after_load c most (Err NoMemory) = record c { last_taken = 0 }

-- the files after a load with this answer
abbrev pub after_load : StoredFiles → ℕ → Result (List ℕ) LoadRefusal → StoredFiles
after_load files most answer = record files { counts = counts_after_load files.counts most answer }

-- the answer with ample memory, or out of memory in place of bytes
abbrev pub LoadAnswers : Result (List ℕ) LoadRefusal → Result (List ℕ) LoadRefusal → Type 0
LoadAnswers ample (Ok bytes) = ample ≡ Ok bytes
LoadAnswers ample (Err Failed) = ample ≡ Err Failed
LoadAnswers ample (Err TooLong) = ample ≡ Err TooLong
LoadAnswers ample (Err NoMemory) = IsOk ample

-- a save fails exactly where the call is listed, and lacks memory only where it is not
abbrev pub SaveAnswers : Bool → Result (Unit {0}) SaveRefusal → Type 0
SaveAnswers listed (Ok u) = IsFalse listed
SaveAnswers listed (Err saves.Failed) = IsTrue listed
SaveAnswers listed (Err saves.NoMemory) = IsFalse listed

-- the files with one more, which is the newest
abbrev pub with_newest : StoredFiles → List ℕ → List ℕ → StoredFiles
with_newest files name bytes = record files { entries = record { name = name; bytes = bytes } ∷ files.entries }

-- one call more, which is a save
abbrev pub one_save : Counts → Counts
one_save c = record c { calls = count_up 1 c.calls; saves = count_up 1 c.saves }

-- the files after a save with this answer: one that fails leaves the name's content too
abbrev pub after_save : StoredFiles → List ℕ → List ℕ → Result (Unit {0}) SaveRefusal → StoredFiles
after_save files name bytes (Ok u) = record (with_newest files name bytes) { counts = one_save files.counts }
after_save files name bytes (Err saves.Failed) = record files { counts = record (one_save files.counts) { faults = count_up 1 files.counts.faults } }
after_save files name bytes (Err saves.NoMemory) = files

-- output in memory: what was written; for how many bytes there is room; the cuts, the newest first; how many puts there
-- were; how many bytes were given to them; how many of them failed
pub record StoredOutput : Type 0 where
  pub written : List ℕ
  pub room : ℕ
  pub cuts : List Cut
  pub puts : ℕ
  pub given : ℕ
  pub faults : ℕ

-- nothing written, no cut, and no put so far
abbrev pub no_output : ℕ → StoredOutput
no_output room = record { written = []; room = room; cuts = []; puts = 0; given = 0; faults = 0 }

-- the same, and the put of this number, counted from 0, is to fail after this many bytes
abbrev pub with_cut : StoredOutput → ℕ → ℕ → StoredOutput
with_cut output call after = record output { cuts = record { call = call; after = after } ∷ output.cuts }

-- after how many bytes the put of this number is to fail, by the newest cut of it
abbrev pub cut_at : List Cut → ℕ → Option ℕ
cut_at [] call = None
cut_at (c ∷ cs) call = if c.call == call then Some c.after else cut_at cs call

-- After how many bytes of its piece a put fails: after none where the piece passes the room, else by the newest cut of it.
abbrev pub put_cut : StoredOutput → List ℕ → Option ℕ
put_cut output piece = if nat_lt output.room (length output.written + length piece) then Some 0 else cut_at output.cuts output.puts

-- the output after a put that fails after this many bytes of its piece, or does not fail
abbrev pub put_until : StoredOutput → List ℕ → Option ℕ → StoredOutput
put_until output piece None = record output { puts = count_up 1 output.puts; given = count_up (length piece) output.given; written = output.written ++ piece }
put_until output piece (Some k) = record output { puts = count_up 1 output.puts; given = count_up (length piece) output.given; written = output.written ++ take k piece; faults = count_up 1 output.faults }

-- the output after a put
abbrev pub after_put : StoredOutput → List ℕ → StoredOutput
after_put output piece = put_until output piece (put_cut output piece)
