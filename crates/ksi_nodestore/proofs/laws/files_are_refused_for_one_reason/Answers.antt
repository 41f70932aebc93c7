use Rattle.ksi_nodestore.proofs.Reasons.{one_reason}
use Rattle.ksi_nodestore.proofs.laws.files_are_refused_for_one_reason.Goals as goal

pub returns : goal.returns
returns c = one_reason
