use Rattle.std.proofs.Common.{◌≡◌, ◌++◌, ◌-◌}
use Rattle.std.specs.List.{AllByRecursion}
use Rattle.ksi_world.specs.Histories.{world_of}
use Rattle.ksi_world.specs.Records.{issued_all, issued_among}
use Rattle.ksi_journal.specs.Journal.{IsIssued}
use Rattle.ksi_replay.proofs.journal.issued.Given as goal

abbrev pub invariant-numbers : goal.invariant-numbers
invariant-numbers g l = record {
  listing : l.issued.items ++ issued_among g.C.Compress.image (world_of g.C.Compress.image l.world) l.number (l.number-end - l.number)
      ≡ issued_all g.C.Compress.image (world_of g.C.Compress.image l.world);
  lawful : AllByRecursion IsIssued l.issued.items;
}
