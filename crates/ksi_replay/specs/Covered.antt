-- The greatest covered second of a journal.
use Rattle.std.specs.Prelude.{ℕ, zero, suc, ◌+◌, List, [], ◌∷◌, length, Option, Some, None}
use Rattle.ksi_calendar.specs.Covered.{covered_root}
use Rattle.ksi_journal.specs.Journal.{Contents, root_at}
use Rattle.ksi_journal.specs.Calendar.{calendar_of}

-- the last of this many seconds from the start on, or none
abbrev pub last_from : (start count : ℕ) → Option ℕ
last_from start zero = None
last_from start (suc before) = Some (start + before)

-- the last second of the journal's calendar, none where no second is covered
unfoldable pub greatest_covered : Contents → Option ℕ
greatest_covered journal = last_from journal.start (length (calendar_of journal).roots)

-- one publication: the second, with the root of the journal's calendar to it
abbrev pub published : (List ℕ → List ℕ) → Contents → ℕ → List (ℕ × List ℕ)
published image journal p = (p, covered_root image (root_at journal) journal.start p) ∷ []
