use Rattle.std.proofs.Common.{◌++◌, ◌∷◌, [], ◌∙◌, List, length, ap, arith}
use Rattle.ksi_aggtree.specs.declared.item.Item.{Item}
use Rattle.ksi_aggtree.specs.declared.entries.Origin.{Origin}
use Rattle.ksi_aggtree.specs.declared.entries.Entry.{Entry}
use Rattle.ksi_aggtree.specs.Entries.{entries_of}
use Rattle.ksi_aggtree.proofs.Beside.{beside_count, beside_more}
use Rattle.ksi_aggtree.proofs.entries.Entries.add.Goals as goal

pub returns-in-Ok-clause-added : goal.returns-in-Ok-clause-added
returns-in-Ok-clause-added g c =
    let inside = c.self.inside in
    let o = c.args.entry.origin in
    let x = c.args.entry.item in
    ap (λ (origins : List Origin). entries_of origins c.add.new.self) (c.push_reserved.ensures.items ∙ ap (λ (origins : List Origin). origins ++ o ∷ []) c.reserve_one.ensures.items)
    ∙ ap (λ (items : List Item). entries_of (inside.origins.items ++ o ∷ []) items) c.in-Ok.ensures.added
    ∙ beside_more inside.origins.items inside.round o x c.self.invariant.count
    ∙ ap (λ (entries : List Entry). entries ++ c.args.entry ∷ []) c.self.view_is

pub returns-in-Err-clause-full : goal.returns-in-Err-clause-full
returns-in-Err-clause-full g c =
    let inside = c.self.inside in
    let count = ap (λ (entries : List Entry). length entries) c.self.view_is in
    let same = beside_count inside.origins.items inside.round c.self.invariant.count in
    (λ e. omega (arith, count, same, c.add.ensures.full.0 (c.in-Err.is ∙ e)), λ n. absurd (c.if-place-eq-MOST_ITEMS.false (c.count-place.ensures ∙ n)))
