use Rattle.std.proofs.Common.{ap, sym, subst}
use Rattle.ksi_synod.specs.CorePlans.{CorePlanState}
use Rattle.ksi_corenode.specs.Owners.{BringsOwned}
use Rattle.ksi_node.proofs.core_node.take_asked.Goals as goal

pub take_or_refuse-requires-clause-may : goal.take_or_refuse-requires-clause-may
take_or_refuse-requires-clause-may g c = let may = rw c.in-Event.is at c.requires.may in (may c.args.store.now.core c.requires.start).0

pub take_or_refuse-requires-clause-asked : goal.take_or_refuse-requires-clause-asked
take_or_refuse-requires-clause-asked g c = let may = rw c.in-Event.is at c.requires.may in (may c.args.store.now.core c.requires.start).1

pub take_or_refuse-requires-clause-owned : goal.take_or_refuse-requires-clause-owned
take_or_refuse-requires-clause-owned g c = let owned = rw c.in-Event.is at c.requires.owned in subst (λ n. BringsOwned n c.in-Event.event) (sym (ap (λ (plan : CorePlanState). plan.cores) c.requires.plan)) owned

pub returns-in-Held-clause-counted : goal.returns-in-Held-clause-counted
returns-in-Held-clause-counted g c = c.tell.ensures.calm (g.D.Disk.faults c.args.store.now.log.disk)

pub returns-in-Chain-clause-counted : goal.returns-in-Chain-clause-counted
returns-in-Chain-clause-counted g c = c.tell_chain.ensures.calm (g.D.Disk.faults c.args.store.now.log.disk)
