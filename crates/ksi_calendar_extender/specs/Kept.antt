-- The journal that keeps the roots of seconds, without items.
use Rattle.std.specs.Prelude.{ℕ, suc, List, [], ◌∷◌}
use Rattle.ksi_calendar.specs.Calendar.{Seconds}
use Rattle.ksi_aggtree.specs.declared.second.Second.{Second}
use Rattle.ksi_journal.specs.Journal.{Contents}

abbrev pub kept_from : ℕ → List (List ℕ) → List Second
kept_from second [] = []
kept_from second (root ∷ roots) = record { second = second; root = root; items = [] } ∷ kept_from (suc second) roots

abbrev pub journal_of : Seconds → Contents
journal_of seconds = record { start = seconds.start; voters = []; seconds = kept_from seconds.start seconds.roots; issued = []; publications = [] }
