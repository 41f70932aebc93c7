use Rattle.ksi_mirror.proofs.MergedOf.{joined_same, joined_either, joined_any_order, joined_again}
use Rattle.ksi_mirror.proofs.laws.merged_is_a_join.Goals as goal

pub returns-clause-same : goal.returns-clause-same
returns-clause-same c = joined_same

pub returns-clause-either : goal.returns-clause-either
returns-clause-either c = joined_either

pub returns-clause-any_order : goal.returns-clause-any_order
returns-clause-any_order c = joined_any_order

pub returns-clause-again : goal.returns-clause-again
returns-clause-again c = joined_again
