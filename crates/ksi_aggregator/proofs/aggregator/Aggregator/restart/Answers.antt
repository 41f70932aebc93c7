use Rattle.std.proofs.Common.{nat_cmp}
use Rattle.std.specs.BTreeMap.{get}
use Rattle.ksi_aggregator.specs.Rounds.{round_at}
use Rattle.ksi_aggregator.proofs.Found.{found_restarted}
use Rattle.ksi_aggregator.proofs.aggregator.Aggregator.restart.Goals as goal

pub invariant_of-self : goal.invariant_of-self
invariant_of-self g c =
    (found_restarted (round_at c.self.inside.rounds) (round_at c.restart.new.self) (get nat_cmp c.self.inside.requests) c.self.invariant.0 c.restart.ensures, c.self.invariant.1)
