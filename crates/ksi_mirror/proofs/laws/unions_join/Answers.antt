use Rattle.ksi_mirror.proofs.Joining.{union_same, union_either, union_agree, union_on, union_back, union_absorbs}
use Rattle.ksi_mirror.proofs.laws.unions_join.Goals as goal

pub returns-clause-same : goal.returns-clause-same
returns-clause-same g c = union_same

pub returns-clause-either : goal.returns-clause-either
returns-clause-either g c = union_either

pub returns-clause-any_order : goal.returns-clause-any_order
returns-clause-any_order g c = λ f h k fg gh all u v. (union_on f h k fg gh all u v, union_back f h k fg gh all u v)

pub returns-clause-agree : goal.returns-clause-agree
returns-clause-agree g c = union_agree

pub returns-clause-absorbs : goal.returns-clause-absorbs
returns-clause-absorbs g c = union_absorbs
