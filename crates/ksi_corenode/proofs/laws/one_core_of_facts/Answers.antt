use Rattle.ksi_corenode.proofs.Returning.{none_of_facts, next_of_facts, stable_is}
use Rattle.ksi_corenode.proofs.Lasting.{has_facts, comes_back, of_facts_same}
use Rattle.ksi_corenode.proofs.laws.one_core_of_facts.Goals as goal

pub returns : goal.returns
returns c = record {
  none = none_of_facts;
  next = next_of_facts;
  same = of_facts_same;
  stored = stable_is;
  has = has_facts;
  restarted = comes_back;
}
