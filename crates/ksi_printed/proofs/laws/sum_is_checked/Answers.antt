use Rattle.ksi_printed.proofs.Sums.{changed, exchanged}
use Rattle.ksi_printed.proofs.laws.sum_is_checked.Goals as goal

pub returns-clause-changed : goal.returns-clause-changed
returns-clause-changed c = changed

pub returns-clause-exchanged : goal.returns-clause-exchanged
returns-clause-exchanged c = exchanged
