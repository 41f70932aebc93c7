use Rattle.std.proofs.Common.{◌∙◌, sym}
use Rattle.ksi_corenode.proofs.Fitting.{fit_round}
use Rattle.ksi_corenode.proofs.lawful.is_round.Goals as goal

pub returns-then-items-le-MOST_ITEMS : goal.returns-then-items-le-MOST_ITEMS
returns-then-items-le-MOST_ITEMS c =
    let both = fit_round c.args.items.now c.if-items-le-MOST_ITEMS.true in
    (λ is. both.0 (sym c.are_fit.ensures ∙ is), λ are. c.are_fit.ensures ∙ both.1 are)
