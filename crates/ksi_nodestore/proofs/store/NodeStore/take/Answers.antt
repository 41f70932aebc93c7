use Rattle.std.proofs.Common.{rules}
use Rattle.std.proofs.lemmas.Result.{IfOk-weaker}
use Rattle.ksi_nodestore.proofs.store.NodeStore.take.Goals as goal

pub returns-else-self-clause-stored : goal.returns-else-self-clause-stored
returns-else-self-clause-stored g c = λ me plan facts is. IfOk-weaker c.take_on.result _ _ (λ step has. has.stored) (c.take_on.ensures.stored me plan facts is)

pub returns-else-self-clause-exact : goal.returns-else-self-clause-exact
returns-else-self-clause-exact g c = λ me plan facts is file_is. IfOk-weaker c.take_on.result _ _ (λ step has. has.exact file_is) (c.take_on.ensures.stored me plan facts is)

pub take_on-requires-clause-fresh : goal.take_on-requires-clause-fresh
take_on-requires-clause-fresh g c = search rules

pub returns-else-self-clause-spent : goal.returns-else-self-clause-spent
returns-else-self-clause-spent g c = search rules
