use Rattle.ksi_corenode.proofs.Lasting.{event_good, fact_lawful, facts_last, has_facts_same}
use Rattle.ksi_corenode.proofs.laws.steps_are_lawful.Goals as goal

pub returns : goal.returns
returns c = record {
  fact = fact_lawful;
  well = λ image core event may well. (event_good image core event may well).well;
  facts = facts_last;
  same = has_facts_same;
}
