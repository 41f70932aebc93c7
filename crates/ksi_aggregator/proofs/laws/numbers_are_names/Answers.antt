use Rattle.ksi_aggregator.proofs.Renaming.{items_same, restart_row, may_renamed, event_row}
use Rattle.ksi_aggregator.proofs.laws.numbers_are_names.Goals as goal

pub returns : goal.returns
returns c = record {
  row = event_row;
  restart = restart_row;
  items = items_same;
  may = may_renamed;
}
