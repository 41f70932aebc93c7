use Rattle.std.proofs.Common.{length, refl, arith}
use Rattle.ksi_split.specs.Powers.{split_of}
use Rattle.ksi_aggtree.specs.Rounds.{leaf_of_place}
use Rattle.ksi_aggtree.proofs.Capped.{capped_tree, capped_node, capped_path}
use Rattle.ksi_aggtree.proofs.laws.no_cap.Goals as goal

pub returns-clause-root : goal.returns-clause-root
returns-clause-root c = λ image items round. capped_tree image c.enough_levels.ensures.tree (leaf_of_place image items) round.low 0 (length items) round.few

pub returns-clause-node : goal.returns-clause-node
returns-clause-node c = λ image items last sides round count.
    capped_node image c.enough_levels.ensures.tree (leaf_of_place image items) round.low (λ n some. (c.one_split.ensures.split n (split_of n) some).1 refl) last sides
    (let few = round.few in omega (arith, few))

pub returns-clause-path : goal.returns-clause-path
returns-clause-path c = λ image items k round. capped_path image c.enough_levels.ensures.tree (leaf_of_place image items) round.low c.enough_levels.ensures.path 0 k (length items) round.few
