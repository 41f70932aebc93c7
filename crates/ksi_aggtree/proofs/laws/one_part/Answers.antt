use Rattle.std.proofs.Common.{refl, subst, sym}
use Rattle.ksi_split.specs.Powers.{split_of}
use Rattle.ksi_split.specs.Ways.{LeadsTo}
use Rattle.ksi_aggtree.proofs.Nodes.{node_some, node_item, node_only, node_way, node_level}
use Rattle.ksi_aggtree.proofs.laws.one_part.Goals as goal

pub returns-clause-some : goal.returns-clause-some
returns-clause-some c = λ image items last first count sides n leads.
    node_some c.parts.ensures.only c.parts.ensures.leaves c.one_way.ensures.way image items first count sides (subst (λ n. LeadsTo n sides first count) (sym n) leads)

pub returns-clause-item : goal.returns-clause-item
returns-clause-item c = node_item c.parts.ensures.only c.parts.ensures.leaves c.one_way.ensures.way

pub returns-clause-way : goal.returns-clause-way
returns-clause-way c = λ image items. node_way c.parts.ensures.only c.parts.ensures.leaves c.one_way.ensures.way image items c.one_answer.ensures.second c.one_tree.ensures.one_leaf

pub returns-clause-only : goal.returns-clause-only
returns-clause-only c = node_only c.parts.ensures.only c.parts.ensures.leaves c.one_way.ensures.way

pub returns-clause-level : goal.returns-clause-level
returns-clause-level c = λ image items. node_level c.parts.ensures.only c.parts.ensures.leaves c.one_way.ensures.way image items c.enough_levels.ensures.tree (λ n some. (c.one_split.ensures.split n (split_of n) some).1 refl) c.one_node.ensures.some
