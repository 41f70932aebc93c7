use Rattle.ksi_roundstore.proofs.Reasons.{one_reason}
use Rattle.ksi_roundstore.proofs.laws.files_are_refused_for_one_reason.Goals as goal

pub returns : goal.returns
returns c = λ me plan file one other is another inside within. one_reason plan me file one other is another inside within
