use Rattle.ksi_world.proofs.AskedCores.{asked_may, core_turned_so, event_restarted, event_still, event_turned}
use Rattle.ksi_world.proofs.AskedSends.{event_not_mine, event_sent}
use Rattle.ksi_world.proofs.Fitting.{core_turn_is}
use Rattle.ksi_world.proofs.AskedOwners.{asked_owned}
use Rattle.ksi_world.proofs.laws.events_are_turns.Goals as goal

pub returns : goal.returns
returns c = record {
  owned = λ image plan before is are core event one asked. asked_owned image (c.one_round.ensures.level image) plan before is are core event one asked;
  may = λ image plan before is are core event one may asked it start. asked_may image (c.one_round.ensures.level image) plan before is are core event one may asked it start;
  row = λ image plan w core it one is. core_turn_is plan w core it is image one;
  turn = core_turned_so;
  seconds = event_turned;
  sends = event_sent;
  others = λ w core other event one asked apart. event_not_mine core other w.wire event one asked apart;
  still = event_still;
  restarted = event_restarted;
}
