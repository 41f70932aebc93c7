use Rattle.std.proofs.Common.{◌∙◌, ◌<◌, ◌++◌, ◌∷◌, [], List, length, refl, sym, ap, subst, arith}
use Rattle.ksi_aggtree.specs.declared.item.Item.{Item}
use Rattle.ksi_aggtree.specs.Rounds.{most_items}
use Rattle.ksi_aggtree.proofs.Nodes.{count_of}
use Rattle.ksi_aggtree.proofs.Again.{next_few, next_more}
use Rattle.ksi_aggtree.proofs.rebuilt.rebuilt.Goals as goal

pub add-requires-clause-few : goal.add-requires-clause-few
add-requires-clause-few g c =
    let n = count_of c.args.items.now c.args.last.now (c.args.items.now ++ c.args.last.now ∷ []) refl in
    subst (λ (items : List Item). length items < most_items) (sym c.adding.invariant) (next_few c.args.items.now c.args.last.now c.adding.k n c.requires.few (omega arith))

pub adding-preserved : goal.adding-preserved
adding-preserved g c =
    let n = count_of c.args.items.now c.args.last.now (c.args.items.now ++ c.args.last.now ∷ []) refl in
    c.in_ok-add.ensures ∙ ap (λ (items : List Item). items ++ c.item_or-item.result ∷ []) c.adding.invariant
    ∙ next_more (c.args.items.now ++ c.args.last.now ∷ []) c.adding.k c.item_or-item.result (subst (λ m. c.adding.k < m) (sym n) (omega arith)) c.item_or-item.ensures.item
