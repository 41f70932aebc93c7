-- The journal that keeps the roots of seconds, each with the items that another journal keeps for it.
use Rattle.std.specs.Prelude.{ℕ, suc, List, [], ◌∷◌}
use Rattle.ksi_calendar.specs.Calendar.{Seconds}
use Rattle.ksi_aggtree.specs.declared.second.Second.{Second}
use Rattle.ksi_journal.specs.Journal.{Contents, items_at}

abbrev pub kept_with : Contents → ℕ → List (List ℕ) → List Second
kept_with items second [] = []
kept_with items second (root ∷ roots) = record { second = second; root = root; items = items_at items second } ∷ kept_with items (suc second) roots

abbrev pub journal_with : Seconds → Contents → Contents
journal_with seconds items = record { start = seconds.start; voters = []; seconds = kept_with items seconds.start seconds.roots; issued = []; publications = [] }
