use Rattle.ksi_mirror.proofs.JoiningMirrors.{may_merge, not_refused, one_reason}
use Rattle.ksi_mirror.proofs.laws.merged_or_refused.Goals as goal

pub returns-clause-may : goal.returns-clause-may
returns-clause-may c = may_merge

pub returns-clause-not_both : goal.returns-clause-not_both
returns-clause-not_both c = not_refused

pub returns-clause-one_reason : goal.returns-clause-one_reason
returns-clause-one_reason c = one_reason
