use Rattle.ksi_aggregator.proofs.Returning.{more_lawful, lawful_before, last_lawful, one_more}
use Rattle.ksi_aggregator.proofs.laws.facts_one_by_one.Goals as goal

pub returns : goal.returns
returns c = record {
  none = λ k fact is. absurd (cc is);
  more = more_lawful;
  before = lawful_before;
  last = last_lawful;
  stored = one_more;
}
