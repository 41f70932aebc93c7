use Rattle.ksi_corenode.proofs.Following.{IsRest}
use Rattle.ksi_corenode.proofs.stable_parts.next_unsettled.Given as goal

abbrev pub invariant-following : goal.invariant-following
invariant-following l = IsRest l.unsettled.entries l.t-iterator l.from
