use Rattle.std.proofs.Common.{◌≡◌, ◌∙◌, List, length, slice_get, Some, ap, sym, subst, arith}
use Rattle.ksi_aggtree.specs.declared.item.Item.{Item}
use Rattle.ksi_aggtree.specs.declared.entries.Entry.{Entry}
use Rattle.ksi_aggtree.proofs.Beside.{beside, beside_count, beside_entry}
use Rattle.ksi_aggtree.proofs.entries.Entries.entry.Goals as goal

pub index-requires : goal.index-requires
index-requires g c =
    let inside = c.self.inside in
    let count = ap (λ (entries : List Entry). length entries) c.self.view_is in
    omega (arith, c.requires, count, beside_count inside.origins.items inside.round c.self.invariant.count, c.self.invariant.count, inside.origins.ok.0)

pub item-requires : goal.item-requires
item-requires g c =
    let inside = c.self.inside in
    let count = ap (λ (entries : List Entry). length entries) c.self.view_is in
    omega (arith, c.requires, count, beside_count inside.origins.items inside.round c.self.invariant.count)

pub returns : goal.returns
returns g c =
    let inside = c.self.inside in
    let k = c.args.k in
    let origin = c.index.result.now in
    let count = ap (λ (entries : List Entry). length entries) c.self.view_is in
    subst (λ (entries : List Entry). slice_get entries k ≡ Some (record { origin = origin; item = c.item.result })) c.self.view_is
    (beside_entry inside.origins.items inside.round k origin c.self.invariant.count
    (omega (arith, c.requires, count, beside_count inside.origins.items inside.round c.self.invariant.count)) c.index.ensures
    ∙ ap (λ (item : Item). Some (beside origin item)) (sym c.item.ensures.item))
