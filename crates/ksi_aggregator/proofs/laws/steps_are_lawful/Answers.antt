use Rattle.ksi_aggregator.proofs.StoredLaws.{fact_lawful, event_well}
use Rattle.ksi_aggregator.proofs.Lasting.{facts_last, has_facts_same, has_facts_restarted}
use Rattle.ksi_aggregator.proofs.laws.steps_are_lawful.Goals as goal

pub returns : goal.returns
returns c = record {
  fact = fact_lawful;
  well = event_well;
  facts = facts_last;
  same = has_facts_same;
  restart = has_facts_restarted;
}
