use Rattle.ksi_nodestore.specs.Spelling.{node_text}
use Rattle.ksi_node_file.proofs.stores.formatted.Goals as goal

pub returns-clause-text : goal.returns-clause-text
unfolding node_text
returns-clause-text c = c.in-Ok.ensures.written
