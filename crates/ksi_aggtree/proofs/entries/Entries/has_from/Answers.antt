use Rattle.std.proofs.Common.{◌∙◌, List, ap, sym}
use Rattle.ksi_aggtree.specs.declared.entries.Entry.{Entry}
use Rattle.ksi_aggtree.specs.Entries.{has_from}
use Rattle.ksi_aggtree.proofs.Beside.{beside_from}
use Rattle.ksi_aggtree.proofs.entries.Entries.has_from.Goals as goal

pub returns : goal.returns
returns g c =
    let inside = c.self.inside in
    c.contains.ensures
    ∙ c.self.invariant.senders c.args.aggregator
    ∙ sym (beside_from c.args.aggregator inside.origins.items inside.round c.self.invariant.count)
    ∙ ap (λ (entries : List Entry). has_from c.args.aggregator entries) c.self.view_is
