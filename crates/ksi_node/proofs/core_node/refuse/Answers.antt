use Rattle.ksi_node.proofs.ServeLemmas.{passed_on}
use Rattle.ksi_node.proofs.core_node.refuse.Goals as goal

pub returns-in_err-put_refusal-clause-calm : goal.returns-in_err-put_refusal-clause-calm
returns-in_err-put_refusal-clause-calm g c = λ n. passed_on c.from_residual.result _ n c.from_residual.ensures.1 (c.in_err-put_refusal.ensures.calm n)
