use Rattle.ksi_roundstore.proofs.Reasons.{always_opened}
use Rattle.ksi_roundstore.proofs.laws.files_of_facts_are_opened.Goals as goal

pub returns : goal.returns
returns c = λ me plan facts file refusal is refused. always_opened plan me facts file refusal is refused
