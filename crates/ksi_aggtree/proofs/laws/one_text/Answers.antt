use Rattle.std.proofs.Common.{refl, ap, ◌∙◌}
use Rattle.ksi_split.specs.Powers.{split_of}
use Rattle.ksi_aggtree.specs.Rounds.{item_at}
use Rattle.ksi_aggtree.specs.Nodes.{leaf_text}
use Rattle.ksi_aggtree.proofs.Nodes.{text_some, text_parts, text_only, text_node}
use Rattle.ksi_aggtree.proofs.Halves.{above_one}
use Rattle.ksi_aggtree.proofs.laws.one_text.Goals as goal

pub returns-clause-parts : goal.returns-clause-parts
returns-clause-parts c = λ image items first count k sides leads split.
    text_some c.parts.ensures.only c.parts.ensures.leaves c.one_way.ensures.way image items first count sides leads
    ∙ text_parts c.parts.ensures.only c.parts.ensures.leaves c.one_way.ensures.way image items first count k ((c.one_split.ensures.split count k (above_one count k split)).0 split) (above_one count k split)

pub returns-clause-named : goal.returns-clause-named
returns-clause-named c = λ image items k name sides leads named.
    text_some c.parts.ensures.only c.parts.ensures.leaves c.one_way.ensures.way image items k 1 sides leads ∙ ap (leaf_text (item_at items k)) named

pub returns-clause-unnamed : goal.returns-clause-unnamed
returns-clause-unnamed c = λ image items k sides leads none.
    text_some c.parts.ensures.only c.parts.ensures.leaves c.one_way.ensures.way image items k 1 sides leads ∙ ap (leaf_text (item_at items k)) none

pub returns-clause-only : goal.returns-clause-only
returns-clause-only c = text_only c.parts.ensures.only c.parts.ensures.leaves c.one_way.ensures.way

pub returns-clause-hashed : goal.returns-clause-hashed
returns-clause-hashed c = λ image items sides text is.
    text_node c.parts.ensures.only c.parts.ensures.leaves c.one_way.ensures.way image items (λ n some. (c.one_split.ensures.split n (split_of n) some).1 refl) c.one_tree.ensures.one_leaf c.one_tree.ensures.cut sides text is
