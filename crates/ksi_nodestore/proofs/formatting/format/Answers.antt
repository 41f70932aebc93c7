use Rattle.std.proofs.Common.{rules}
use Rattle.ksi_nodestore.proofs.formatting.format.Goals as goal

pub returns-clause-durable : goal.returns-clause-durable
returns-clause-durable g c = search rules
