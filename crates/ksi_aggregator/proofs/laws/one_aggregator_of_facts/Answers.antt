use Rattle.ksi_aggregator.proofs.Returning.{none_of_facts, next_of_facts, stable_is}
use Rattle.ksi_aggregator.proofs.Lasting.{has_facts, comes_back}
use Rattle.ksi_aggregator.proofs.laws.one_aggregator_of_facts.Goals as goal

pub returns : goal.returns
returns c = record {
  none = none_of_facts;
  next = next_of_facts;
  stored = stable_is;
  has = has_facts;
  restarted = comes_back;
}
