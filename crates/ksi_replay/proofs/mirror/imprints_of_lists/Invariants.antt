use Rattle.std.proofs.Common.{take}
use Rattle.std.specs.List.{AllByRecursion}
use Rattle.ksi_replay.specs.Mirrors.{HasSealedImprints}
use Rattle.ksi_replay.proofs.mirror.imprints_of_lists.Given as goal

abbrev pub invariant-lists : goal.invariant-lists
invariant-lists l = AllByRecursion HasSealedImprints (take l.one-index l.lists)
