use Rattle.ksi_node.proofs.ServeLemmas.{passed_on}
use Rattle.ksi_node.proofs.core_node.take_or_refuse.Goals as goal

pub returns-in_err-put_refusal-clause-counted : goal.returns-in_err-put_refusal-clause-counted
returns-in_err-put_refusal-clause-counted g c = passed_on c.from_residual.result _ _ c.from_residual.ensures.1 (c.in_err-put_refusal.ensures.calm (g.D.Disk.faults c.args.store.now.log.disk))
