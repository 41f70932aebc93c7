use Rattle.std.proofs.Common.{◌+◌, ◌-◌, ◌∙◌, List, length, Some, ap, arith}
use Rattle.ksi_aggtree.specs.declared.chains.node.Node.{Node}
use Rattle.ksi_aggtree.specs.declared.item.Item.{Item}
use Rattle.ksi_aggtree.specs.Rounds.{tree_of, root_of}
use Rattle.ksi_aggtree.proofs.Kept.{leaves_count, round_root, no_root}
use Rattle.ksi_aggtree.proofs.builder.Builder.root.Goals as goal

pub returns-then-count-eq0 : goal.returns-then-count-eq0
returns-then-count-eq0 g c =
    let inside = c.self.inside in
    let size = ap (λ (items : List Item). length items) c.self.view_is in
    no_root (length c.args.self.now) (tree_of g.C.Compress.image c.args.self.now)
    (omega (arith, size, leaves_count g.C.Compress.image inside.rows inside.items.items c.self.invariant.0, c.count-count.ensures, c.if-count-eq0.true))

pub returns-else-count-eq0 : goal.returns-else-count-eq0
returns-else-count-eq0 g c =
    let inside = c.self.inside in
    let items = inside.items.items in
    ap (λ (root : Node). Some root) c.root.ensures
    ∙ round_root g.C.Compress.image inside.rows items c.self.invariant.0 (c.no_cap.ensures.root g.C.Compress.image items c.self.invariant.1) (c.count-count.result - 1 + 1)
    (omega (arith, leaves_count g.C.Compress.image inside.rows items c.self.invariant.0, c.count-count.ensures, c.if-count-eq0.false)) (omega arith)
    ∙ ap (root_of g.C.Compress.image) c.self.view_is
