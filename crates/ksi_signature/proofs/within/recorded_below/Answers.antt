use Rattle.std.proofs.Common.{ℕ, List, ◌<◌, ◌^◌, sym, subst}
use Rattle.ksi_tlv.specs.Views.{view_placed}
use Rattle.ksi_signature.proofs.Limits.{recorded_below}
use Rattle.ksi_signature.proofs.within.recorded_below.Goals as goal

pub returns-clause-below : goal.returns-clause-below
returns-clause-below c =
    subst (λ (pair : ℕ × List ℕ). pair.0 < 2 ^ 63) (sym c.recorded.ensures) (recorded_below c.inside_is_whole.ensures (view_placed c.args.at.now) c.requires)
