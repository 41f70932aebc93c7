use Rattle.std.proofs.Common.{take}
use Rattle.std.specs.List.{AllByRecursion}
use Rattle.ksi_imprint.specs.Imprints.{IsImprint}
use Rattle.ksi_replay.proofs.mirror.imprints_of_roots.Given as goal

abbrev pub invariant-roots : goal.invariant-roots
invariant-roots l = AllByRecursion (λ one. IsImprint one.1) (take l.one-index l.roots)
