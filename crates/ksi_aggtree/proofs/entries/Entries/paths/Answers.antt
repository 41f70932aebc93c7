use Rattle.std.proofs.Common.{◌∙◌, List, length, ap, sym, arith}
use Rattle.std.proofs.lemmas.Result.{IfOk-weaker}
use Rattle.ksi_aggtree.specs.declared.entries.Entry.{Entry}
use Rattle.ksi_aggtree.specs.Entries.{items_of}
use Rattle.ksi_aggtree.proofs.Beside.{beside_items, beside_count}
use Rattle.ksi_aggtree.proofs.entries.Entries.paths.Goals as goal

pub paths-requires : goal.paths-requires
paths-requires g c =
    let inside = c.self.inside in
    let count = ap (λ (entries : List Entry). length entries) c.self.view_is in
    omega (arith, c.requires, count, beside_count inside.origins.items inside.round c.self.invariant.count)

pub returns : goal.returns
returns g c =
    let inside = c.self.inside in
    IfOk-weaker c.paths.result _ _ (λ paths h. h ∙ sym (beside_items inside.origins.items inside.round c.self.invariant.count) ∙ ap items_of c.self.view_is) c.paths.ensures
