use Rattle.ksi_aggregator.proofs.Storing.{turn_stores}
use Rattle.ksi_aggregator.proofs.laws.steps_store_their_facts.Goals as goal

pub returns : goal.returns
returns c = turn_stores
