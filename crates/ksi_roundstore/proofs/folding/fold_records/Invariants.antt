use Rattle.std.proofs.Common.{◌≡◌, ◌+◌, length, take}
use Rattle.ksi_disk.specs.Gates.{records_text}
use Rattle.ksi_roundstore.specs.Folds.{IsAggregatorOf}
use Rattle.ksi_roundstore.proofs.folding.fold_records.Given as goal

-- so many records were folded, and the next one's gate stands at this place
abbrev pub invariant-folding : goal.invariant-folding
invariant-folding g l = record {
  so_far : IsAggregatorOf l.plan l.me (take l.k l.records) l.aggregator;
  here : l.place ≡ 20 + length (records_text (take l.k l.records));
}
