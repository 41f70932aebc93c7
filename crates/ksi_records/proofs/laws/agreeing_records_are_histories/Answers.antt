use Rattle.ksi_records.proofs.HistoryLemmas.{verdict_history}
use Rattle.ksi_records.proofs.laws.agreeing_records_are_histories.Goals as goal

pub returns : goal.returns
returns c = verdict_history
