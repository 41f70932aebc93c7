use Rattle.ksi_wire.proofs.AboveSaid.{decoded_few, decoded_links}
use Rattle.ksi_wire.proofs.above.above_said.Goals as goal

pub returns-clause-few : goal.returns-clause-few
returns-clause-few c = decoded_few c.as_slice.result.now c.above_in.result c.above_in.ensures

pub returns-clause-links : goal.returns-clause-links
returns-clause-links c = decoded_links c.as_slice.result.now c.above_in.result c.above_in.ensures
