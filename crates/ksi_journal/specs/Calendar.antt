-- The calendar of the covered seconds.
use Rattle.std.specs.Prelude.{ℕ, ◌+◌, ◌==◌, List, [], ◌∷◌, if◌then◌else◌}
use Rattle.ksi_calendar.specs.Calendar.{Seconds}
use Rattle.ksi_aggtree.specs.declared.second.Second.{Second}
use Rattle.ksi_journal.specs.Journal.{Contents}

-- the roots of a second and of those that follow it without a gap
abbrev pub roots_from : ℕ → List Second → List (List ℕ)
roots_from t [] = []
roots_from t (kept ∷ others) = if kept.second == t then kept.root ∷ roots_from (t + 1) others else []

-- The calendar of the covered seconds. The law `calendar_is_covered` says that its seconds are those that are covered,
-- and that it is their calendar by the roots that the journal keeps.
unfoldable pub calendar_of : Contents → Seconds
calendar_of journal = record { start = journal.start; roots = roots_from journal.start journal.seconds }
