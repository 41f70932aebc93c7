use Rattle.ksi_laws_facts.proofs.Storing.{core_steps_add, round_steps_add}
use Rattle.ksi_laws_facts.proofs.laws.steps_add_what_they_store.Goals as goal

pub returns : goal.returns
returns c = record { core = core_steps_add; aggregator = round_steps_add }
