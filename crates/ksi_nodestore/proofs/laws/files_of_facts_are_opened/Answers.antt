use Rattle.ksi_nodestore.proofs.Tellings.{always_opened}
use Rattle.ksi_nodestore.proofs.laws.files_of_facts_are_opened.Goals as goal

pub returns : goal.returns
returns c = always_opened
