use Rattle.std.proofs.Common.{◌∙◌, List, length, ap, sym}
use Rattle.ksi_aggtree.specs.declared.entries.Entry.{Entry}
use Rattle.ksi_aggtree.proofs.Beside.{beside_count}
use Rattle.ksi_aggtree.proofs.entries.Entries.count.Goals as goal

pub returns : goal.returns
returns g c =
    let inside = c.self.inside in
    c.count.ensures.count ∙ sym (beside_count inside.origins.items inside.round c.self.invariant.count) ∙ ap (λ (entries : List Entry). length entries) c.self.view_is
