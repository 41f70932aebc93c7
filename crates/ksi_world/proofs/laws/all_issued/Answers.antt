use Rattle.ksi_world.proofs.IssuedAll.{all_are, all_there, all_rising}
use Rattle.ksi_world.proofs.laws.all_issued.Goals as goal

pub returns-clause-are : goal.returns-clause-are
returns-clause-are c = all_are

pub returns-clause-there : goal.returns-clause-there
returns-clause-there c = all_there

pub returns-clause-rising : goal.returns-clause-rising
returns-clause-rising c = all_rising
