use Rattle.std.proofs.Common.{◌+◌}
use Rattle.std.proofs.Math.ListN.{set}
use Rattle.ksi_synod.specs.CorePlanFields.{IsFilled}
use Rattle.ksi_synod.proofs.Planning.{filled_with}
use Rattle.ksi_synod.proofs.core_plan.CorePlan.add_voters.Goals as goal

pub invariant_of-self : goal.invariant_of-self
invariant_of-self c =
    filled_with c.self.inside c.args.self.now c.args.second c.args.voters.now c.self.view_is c.self.invariant c.requires.room c.requires.early c.requires.late c.requires.cores

pub returns-clause-limits : goal.returns-clause-limits
returns-clause-limits c =
    let filled : IsFilled (record c.self.inside { count = c.self.inside.count + 1; voters = set c.self.inside.voters c.self.inside.count (record { second = c.args.second; voters = c.args.voters.now }) }) =
    filled_with c.self.inside c.args.self.now c.args.second c.args.voters.now c.self.view_is c.self.invariant c.requires.room c.requires.early c.requires.late c.requires.cores in
    filled.plan
