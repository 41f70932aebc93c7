use Rattle.std.proofs.Common.{take}
use Rattle.std.specs.List.{AllByRecursion}
use Rattle.ksi_world.specs.Validity.{HasImprints}
use Rattle.ksi_replay.proofs.journal.imprints_of.Given as goal

abbrev pub invariant-seconds : goal.invariant-seconds
invariant-seconds l = AllByRecursion HasImprints (take l.one-index l.seconds)
