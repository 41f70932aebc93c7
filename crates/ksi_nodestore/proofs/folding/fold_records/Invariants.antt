use Rattle.std.proofs.Common.{◌≡◌, ◌+◌, length, take}
use Rattle.ksi_disk.specs.Gates.{records_text}
use Rattle.ksi_nodestore.specs.Stores.{IsCoreOf}
use Rattle.ksi_nodestore.proofs.folding.fold_records.Given as goal

-- so many records were folded, and the next one's gate stands at this place
abbrev pub invariant-folding : goal.invariant-folding
invariant-folding g l = record {
  so_far : IsCoreOf g.C.Compress.image l.me l.plan (take l.k l.records) l.core;
  here : l.place ≡ 18 + length (records_text (take l.k l.records));
}
