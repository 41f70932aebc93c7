use Rattle.std.proofs.Common.{◌∙◌, ◌<◌, ◌++◌, ◌∷◌, [], List, length, sym, ap, subst}
use Rattle.ksi_aggtree.specs.declared.item.Item.{Item}
use Rattle.ksi_aggtree.specs.Rounds.{most_items}
use Rattle.ksi_corenode.proofs.Responses.{round_next}
use Rattle.ksi_corenode.proofs.responding.round_of.Goals as goal

pub add-requires-clause-level : goal.add-requires-clause-level
add-requires-clause-level g c = (round_next c.args.entries.now c.adding.k c.entry_at-entry.result c.requires c.entry_at-entry.ensures).level

pub add-requires-clause-few : goal.add-requires-clause-few
add-requires-clause-few g c = subst (λ (items : List Item). length items < most_items) (sym c.adding.invariant) (round_next c.args.entries.now c.adding.k c.entry_at-entry.result c.requires c.entry_at-entry.ensures).few

pub adding-preserved : goal.adding-preserved
adding-preserved g c =
    c.in_ok-add.ensures ∙ ap (λ (items : List Item). items ++ c.entry_at-entry.result.item ∷ []) c.adding.invariant
    ∙ (round_next c.args.entries.now c.adding.k c.entry_at-entry.result c.requires c.entry_at-entry.ensures).more
