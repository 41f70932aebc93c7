use Rattle.std.proofs.Common.{◌≡◌, ◌++◌, ◌∷◌, [], ◌∙◌, List, ap, sym, subst, arith}
use Rattle.ksi_split.specs.Leaves.{Leaves}
use Rattle.ksi_aggtree.specs.declared.chains.node.Node.{Node}
use Rattle.ksi_aggtree.specs.declared.item.Item.{Item}
use Rattle.ksi_aggtree.specs.Rounds.{leaf, AreLeaves, IsRound}
use Rattle.ksi_aggtree.proofs.Kept.{leaves_more, round_more}
use Rattle.ksi_aggtree.proofs.builder.Builder.add.Goals as goal

pub invariant_of-self-2 : goal.invariant_of-self-2
invariant_of-self-2 g c =
    let image = g.C.Compress.image in
    let rows = c.self.inside.rows in
    let items = c.self.inside.items.items in
    let x = c.args.item in
    let more : c.push_reserved.new.self.items ≡ items ++ x ∷ [] = c.push_reserved.ensures.items ∙ ap (λ (before : List Item). before ++ x ∷ []) c.reserve_one.ensures.items in
    let leaves : c.append.new.self ≡ record rows { items = rows.items ++ leaf image x ∷ [] }
    = c.in_ok-append.ensures.added ∙ ap (λ (node : Node). record rows { items = rows.items ++ node ∷ [] }) c.leaf.ensures.leaf in (
      subst (λ (after : Leaves Node). AreLeaves image after c.push_reserved.new.self.items) (sym leaves)
          (subst (AreLeaves image (record rows { items = rows.items ++ leaf image x ∷ [] })) (sym more) (leaves_more image rows items x c.self.invariant.0)),
      subst IsRound (sym more) (round_more items x c.self.invariant.1 (omega (arith, c.len-place.ensures, c.if-place-ge-MOST_ITEMS.false)) c.requires),
    )
