use Rattle.std.proofs.Common.{◌++◌, ◌∷◌, [], List, ℕ, sym, ap, subst, ◌∙◌}
use Rattle.ksi_synod.proofs.Planning.{AreBelow, flagged_cores-more}
use Rattle.ksi_synod.proofs.voters.Voters.with.Goals as goal

pub returns : goal.returns
returns c =
    flagged_cores-more c.self.inside.flags c.args.core c.self.invariant c.requires.few (subst (AreBelow c.args.core) (sym c.self.view_is) c.requires.above)
    ∙ ap (λ (voters : List ℕ). voters ++ c.args.core ∷ []) c.self.view_is
