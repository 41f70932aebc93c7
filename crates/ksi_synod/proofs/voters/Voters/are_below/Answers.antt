use Rattle.std.proofs.Common.{◌≡◌, List, ℕ, sym, ap, ◌∙◌, arith, ltb, add-one}
use Rattle.std.specs.List.{list_all}
use Rattle.ksi_synod.specs.Flags.{flagged_below, flagged_cores}
use Rattle.ksi_synod.proofs.Planning.{not_below, still_below}
use Rattle.ksi_synod.proofs.voters.Voters.are_below.Goals as goal
use Rattle.ksi_synod.proofs.voters.Voters.are_below.Goals.{else-self-other-via-then-self-other+else-other-core, else-self-other-via-else-self-other}

pub returns-then-other-core : goal.returns-then-other-core
unfolding flagged_cores
returns-then-other-core c =
    sym (not_below c.self.inside.flags c.args.core c.loop-other.other 9 c.if-self-other.true (omega arith) (omega arith))
    ∙ ap (λ (voters : List ℕ). list_all (λ voter. ltb voter c.args.core) voters) c.self.view_is

pub loop-other-preserved : goal.loop-other-preserved
loop-other-preserved c =
    rw add-one (still_below c.self.inside.flags c.args.core c.loop-other.other c.loop-other.invariant (λ set. elim c.else-self-other.branch [
      | else-self-other-via-then-self-other+else-other-core w ↦ omega arith
      | else-self-other-via-else-self-other w ↦ absurd cc
    ]))

pub returns : goal.returns
unfolding flagged_cores
returns c =
    let ended : c.loop-other.other ≡ 9 = omega arith in
    sym c.loop-other.invariant ∙ ap (λ n. list_all (λ voter. ltb voter c.args.core) (flagged_below c.self.inside.flags n)) ended
    ∙ ap (λ (voters : List ℕ). list_all (λ voter. ltb voter c.args.core) voters) c.self.view_is
