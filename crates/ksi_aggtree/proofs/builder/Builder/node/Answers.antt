use Rattle.std.proofs.Common.{◌-◌, ◌∙◌, List, Some, sym, ap, arith}
use Rattle.ksi_aggtree.specs.declared.item.Item.{Item}
use Rattle.ksi_aggtree.specs.declared.reached.Reached.{Reached}
use Rattle.ksi_aggtree.specs.Nodes.{node_of}
use Rattle.ksi_aggtree.proofs.Kept.{leaves_count, round_node}
use Rattle.ksi_aggtree.proofs.Nodes.{node_kept}
use Rattle.ksi_aggtree.proofs.builder.Builder.node.Goals as goal

pub returns-in-Items : goal.returns-in-Items
returns-in-Items g c =
    let image = g.C.Compress.image in
    let items = c.self.inside.items.items in
    let last = c.count-count.result - 1 in
    let sides = c.args.sides.now in
    let all = leaves_count image c.self.inside.rows items c.self.invariant.0 in
    let reached = sym c.reach.ensures.reached ∙ c.in_ok-reach.was ∙ ap (λ (reached : Reached). Some reached) c.in-Items.is in
    c.node.ensures
    ∙ round_node image c.self.inside.rows items c.self.invariant.0 last sides (node_of image items sides)
    (c.no_cap.ensures.node image items last sides c.self.invariant.1 (omega (arith, all, c.count-count.ensures, c.if-count-eq0.false))
    ∙ node_kept image items c.count-count.result last c.in-Items.field-0 c.in-Items.field-1 sides (omega (arith, all, c.count-count.ensures)) (omega (arith, c.if-count-eq0.false)) reached)
    ∙ ap (λ (items : List Item). node_of image items sides) c.self.view_is
