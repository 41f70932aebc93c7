use Rattle.ksi_aggregator.proofs.Settling.{restart_still, event_still, answered_settles, empty_settles}
use Rattle.ksi_aggregator.proofs.laws.settled_rounds_stay.Goals as goal

pub returns : goal.returns
returns c = record {
  row = event_still;
  restart = restart_still;
  answered = answered_settles;
  empty = empty_settles;
}
