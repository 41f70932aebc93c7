use Rattle.std.proofs.Common.{◌≡◌, ◌++◌, ℕ, drop}
use Rattle.ksi_calendar.specs.Calendar.{Seconds, calendar_path}
use Rattle.ksi_aggtree.specs.Entries.{items_of}
use Rattle.ksi_corenode.specs.Rows.{responses_from, above_item}
use Rattle.ksi_corenode.proofs.responding.responses_along.Given as goal

abbrev pub invariant-answering : goal.invariant-answering
invariant-answering g l = (seconds : Seconds) (second : ℕ) → l.links ≡ calendar_path g.C.Compress.image seconds second second →
    l.sends.items ++ responses_from (above_item g.C.Compress.image seconds second l.root (items_of l.entries)) l.k (drop l.k l.entries)
    ≡ responses_from (above_item g.C.Compress.image seconds second l.root (items_of l.entries)) 0 l.entries
