use Rattle.ksi_aggregator.proofs.Storing.{request_stores, submission_stores, close_stores, response_stores, restart_leaves}
use Rattle.ksi_aggregator.proofs.laws.rows_store_their_facts.Goals as goal

pub returns : goal.returns
returns c = record {
  request = request_stores;
  submission = submission_stores;
  close = close_stores;
  response = response_stores;
  restart = restart_leaves;
}
