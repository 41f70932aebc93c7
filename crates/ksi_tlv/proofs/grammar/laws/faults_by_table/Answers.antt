use Rattle.ksi_tlv.proofs.Naming.{fault_named}
use Rattle.ksi_tlv.proofs.grammar.laws.faults_by_table.Goals as goal

pub returns : goal.returns
returns c = fault_named
