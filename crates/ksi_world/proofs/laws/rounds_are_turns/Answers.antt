use Rattle.ksi_world.proofs.AskedMay.{round_issues, round_may}
use Rattle.ksi_world.proofs.AskedOuts.{core_no_round, round_no_core, round_not_this, round_sent}
use Rattle.ksi_world.proofs.AskedRounds.{round_left, round_restarts, round_turned_so}
use Rattle.ksi_world.proofs.laws.rounds_are_turns.Goals as goal

pub returns : goal.returns
returns c = record {
  may = λ image plan before is are aggregator event one event_is asked. round_may image plan (c.one_round.ensures.level image) before is are aggregator event one event_is asked;
  rounds = round_turned_so;
  sends = round_sent;
  others = λ w aggregator other event one asked apart. round_not_this aggregator other w event one asked apart;
  cores = λ w aggregator core event one asked. round_no_core aggregator core w event one asked;
  aggregators = λ w core aggregator event one asked. core_no_round aggregator core w event one asked;
  still = round_left;
  restarted = round_restarts;
  issued = round_issues;
}
