use Rattle.std.proofs.Common.{rules}
use Rattle.ksi_node_file.proofs.making.node_file.Goals as goal

pub returns-clause-records : goal.returns-clause-records
returns-clause-records g c = search rules
