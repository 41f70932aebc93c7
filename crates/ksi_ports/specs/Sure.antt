-- Files and output in memory whose calls do not fail, and what each call of theirs leaves.
use Rattle.std.specs.Prelude.{ℕ, ◌-◌, List, [], ◌∷◌, ◌++◌, length, Some, Result, Ok, Err, unwrap_or}
use Rattle.ksi_ports.specs.declared.counts.Counts.{Counts}
use Rattle.ksi_ports.specs.declared.entries.Entry.{Entry}
use Rattle.ksi_ports.specs.declared.files.LoadRefusal.{LoadRefusal}
use Rattle.ksi_ports.specs.declared.files.SaveRefusal.{SaveRefusal}
use Rattle.ksi_ports.specs.Stored.{Held}
use Rattle.ksi_ports.specs.Outside.{count_up, no_calls}
use Rattle.ksi_ports.specs.Memory.{counts_after_load, held_in, one_save}

-- files in memory: the files, the newest first, and what was counted of the calls
pub record SureStored : Type 0 where
  pub entries : List Entry
  pub counts : Counts

-- no files, and no call so far
abbrev pub no_sure_files : SureStored
no_sure_files = record { entries = []; counts = no_calls }

-- the bytes of the newest file of each name, and no bytes if there is none
abbrev pub empty_where_none : List Entry → Held
empty_where_none entries = λ name. Some (unwrap_or (held_in entries name) [])

-- the files with one more, which is the newest
abbrev pub with_newest_sure : SureStored → List ℕ → List ℕ → SureStored
with_newest_sure files name bytes = record files { entries = record { name = name; bytes = bytes } ∷ files.entries }

-- the files after a load with this answer
abbrev pub after_sure_load : SureStored → ℕ → Result (List ℕ) LoadRefusal → SureStored
after_sure_load files most answer = record files { counts = counts_after_load files.counts most answer }

-- the files after a save with this answer
abbrev pub after_sure_save : SureStored → List ℕ → List ℕ → Result (Unit {0}) SaveRefusal → SureStored
after_sure_save files name bytes (Ok u) = record (with_newest_sure files name bytes) { counts = one_save files.counts }
after_sure_save files name bytes (Err refusal) = files

-- output in memory: what was written; how many bytes may still be put; how many puts there were; how many bytes were given
-- to them
pub record SureOutput : Type 0 where
  pub written : List ℕ
  pub free : ℕ
  pub puts : ℕ
  pub given : ℕ

-- nothing written, and no put so far
abbrev pub sure_output : ℕ → SureOutput
sure_output room = record { written = []; free = room; puts = 0; given = 0 }

-- the output after a put
abbrev pub after_sure_put : SureOutput → List ℕ → SureOutput
after_sure_put output piece = record { written = output.written ++ piece; free = output.free - length piece; puts = count_up 1 output.puts; given = count_up (length piece) output.given }
