use Rattle.std.proofs.Common.{List, length, ap, ◌∙◌, subst}
use Rattle.ksi_split.specs.Ways.{LeadsTo}
use Rattle.ksi_aggtree.specs.declared.item.Item.{Item}
use Rattle.ksi_aggtree.specs.Nodes.{node_of}
use Rattle.ksi_aggtree.proofs.Nodes.{none_exactly, count_of}
use Rattle.ksi_aggtree.proofs.tree.Tree.node.Goals as goal

pub returns-clause-some : goal.returns-clause-some
returns-clause-some g c = λ first count leads.
    let image = g.C.Compress.image in
    let items = c.args.self.now in
    let sides = c.args.sides.now in
    let n = count_of c.self.inside.others.now c.self.inside.last.now items c.self.view_is in
    c.node_with.ensures ∙ ap (λ (items : List Item). node_of image items sides) c.self.view_is
    ∙ c.one_part.ensures.some image items (length c.self.inside.others.now) first count sides n (subst (λ n. LeadsTo n sides first count) n leads)

pub returns-clause-none : goal.returns-clause-none
returns-clause-none g c =
    let image = g.C.Compress.image in
    let items = c.args.self.now in
    let sides = c.args.sides.now in
    let n = count_of c.self.inside.others.now c.self.inside.last.now items c.self.view_is in
    none_exactly image items sides (record {
      some = λ first count leads. c.one_part.ensures.some image items (length c.self.inside.others.now) first count sides n (subst (λ n. LeadsTo n sides first count) n leads);
      item = λ k. c.one_part.ensures.item image items k sides;
      only = c.one_part.ensures.only image items sides;
    }) c.node_with.result (c.node_with.ensures ∙ ap (λ (items : List Item). node_of image items sides) c.self.view_is)
