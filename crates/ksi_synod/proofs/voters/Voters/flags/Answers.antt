use Rattle.std.proofs.Common.{subst}
use Rattle.ksi_synod.specs.CorePlans.{AreRising}
use Rattle.ksi_synod.proofs.Planning.{AreBelow, flagged_cores-low, flagged_cores-rising}
use Rattle.ksi_synod.proofs.voters.Voters.flags.Goals as goal

pub returns-clause-rising : goal.returns-clause-rising
returns-clause-rising c = subst AreRising c.self.view_is (flagged_cores-rising c.self.inside.flags)

pub returns-clause-few : goal.returns-clause-few
returns-clause-few c = subst (AreBelow 9) c.self.view_is (flagged_cores-low c.self.inside.flags)
