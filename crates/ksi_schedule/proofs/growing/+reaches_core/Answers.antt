use Rattle.std.proofs.Common.{ap, ◌∙◌, ℕ, ltb}
use Rattle.ksi_schedule.proofs.Next.{at_core, one_up, no_step}
use Rattle.ksi_schedule.proofs.growing.+reaches_core.Goals as goal

pub returns-in-Core : goal.returns-in-Core
returns-in-Core t c = ap (λ (n : ℕ). ltb c.in-Core.j n) c.cores.ensures.cores ∙ at_core c.args.plan.now c.args.steps c.in-Core.j c.args.actor c.in-Core.is

pub returns-then-steps-gt0 : goal.returns-then-steps-gt0
returns-then-steps-gt0 t c = one_up c.args.plan.now c.args.steps c.in-Aggregator.k c.args.actor c.parent_of.result c.reaches_core.result c.in-Aggregator.is c.if-steps-gt0.true c.parent_of.ensures c.reaches_core.ensures

pub returns-else-steps-gt0 : goal.returns-else-steps-gt0
returns-else-steps-gt0 t c = no_step c.args.plan.now c.args.steps c.in-Aggregator.k c.args.actor c.in-Aggregator.is c.if-steps-gt0.false
