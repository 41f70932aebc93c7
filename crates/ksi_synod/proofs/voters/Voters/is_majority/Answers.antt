use Rattle.std.proofs.Common.{◌≡◌, ◌*◌, ltb, length, ap, ◌∙◌, arith}
use Rattle.std.specs.List.{count_by}
use Rattle.ksi_synod.specs.Voters.{is_flagged}
use Rattle.ksi_synod.specs.Flags.{flagged_below, flagged_cores}
use Rattle.ksi_synod.proofs.voters.Voters.is_majority.Goals as goal

pub returns : goal.returns
unfolding flagged_cores
returns c =
    let ended : c.loop-core.core ≡ 9 = omega arith in
    let all : flagged_below c.self.inside.flags c.loop-core.core ≡ c.args.self.now = ap (flagged_below c.self.inside.flags) ended ∙ c.self.view_is in
    ap (λ n. ltb n (2 * c.loop-core.among)) (c.loop-core.invariant.voters ∙ ap length all)
    ∙ ap (λ n. ltb (length c.args.self.now) (2 * n)) (c.loop-core.invariant.among ∙ ap (λ voters. count_by (is_flagged c.args.flags.now) voters) all)
