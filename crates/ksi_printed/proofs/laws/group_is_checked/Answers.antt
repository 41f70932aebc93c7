use Rattle.ksi_printed.proofs.Checks.{changed, exchanged}
use Rattle.ksi_printed.proofs.laws.group_is_checked.Goals as goal

pub returns-clause-changed : goal.returns-clause-changed
returns-clause-changed c = λ one two place n m lt is_one is_two same. changed one two n m is_one is_two place lt same

pub returns-clause-exchanged : goal.returns-clause-exchanged
returns-clause-exchanged c = λ one two low high n m less lt is_one is_two same low_is high_is. exchanged one two n m is_one is_two low high less lt same low_is high_is
