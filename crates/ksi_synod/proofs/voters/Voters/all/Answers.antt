use Rattle.std.proofs.Common.{◌≡◌, ap, ◌∙◌, arith}
use Rattle.ksi_synod.specs.Voters.{cores_below}
use Rattle.ksi_synod.proofs.FlagLemmas.{flagged_cores-all}
use Rattle.ksi_synod.proofs.voters.Voters.all.Goals as goal

pub returns : goal.returns
returns c =
    let ended : c.loop-core.core ≡ c.args.members = omega arith in
    flagged_cores-all c.loop-core.flags c.loop-core.core (omega (arith, c.requires)) c.loop-core.invariant.set ∙ ap cores_below ended
