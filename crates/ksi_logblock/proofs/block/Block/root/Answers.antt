use Rattle.ksi_logblock.proofs.Roots.{root_is}
use Rattle.std.proofs.Common.{length, sym, arith}
use Rattle.std.proofs.lemmas.Bool.{eqb-false}
use Rattle.ksi_logblock.proofs.block.Block.root.Goals as goal

pub returns-else-is_empty : goal.returns-else-is_empty
returns-else-is_empty g c =
    root_is g.C.Compress.image c.leaves-leaves.result.now c.args.self.now c.tree_over.result c.leaves-leaves.ensures.leaves c.enough_levels.ensures.tree (let ne = eqb-false (length c.leaves-leaves.result.now) 0 (sym c.if-is_empty.ensures) in omega (arith, ne)) c.leaves-leaves.ensures.few c.tree_over.ensures.tree
