use Rattle.ksi_roundstore.proofs.Spelled.{one_file}
use Rattle.ksi_roundstore.proofs.laws.a_file_is_of_one_list_of_facts.Goals as goal

pub returns : goal.returns
returns c = one_file
