use Rattle.std.proofs.Common.{take}
use Rattle.std.specs.Prelude.{IfSome}
use Rattle.std.specs.List.{AllByRecursion}
use Rattle.ksi_imprint.specs.Imprints.{IsImprint}
use Rattle.ksi_aggtree.specs.Names.{IsName}
use Rattle.ksi_replay.proofs.journal.imprints_in.Given as goal

abbrev pub invariant-items : goal.invariant-items
invariant-items l = AllByRecursion (λ item. IsImprint item.imprint × IfSome item.name IsName) (take l.item-index l.items)
