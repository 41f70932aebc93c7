use Rattle.std.proofs.Common.{length, sym, ap, ◌∙◌, arith}
use Rattle.ksi_beside.proofs.Bits.{way_length}
use Rattle.ksi_beside.proofs.place.Place.depth.Goals as goal

pub returns-clause-depth : goal.returns-clause-depth
returns-clause-depth c =
    let w = c.one_way.ensures in
    sym (way_length c.one_split.ensures.split w.one_leaf w.left w.right c.self.inside.depth c.self.inside.bits c.self.invariant.0) ∙ ap length c.self.view_is

pub returns-clause-few : goal.returns-clause-few
returns-clause-few c = let depth = returns-clause-depth c in let few = c.self.invariant.1 in omega (arith, depth, few)
