use Rattle.ksi_split.proofs.Seconds.{some_goes_on, front_above}
use Rattle.ksi_split.proofs.laws.proper_fronts.Goals as goal

pub returns-clause-goes_on : goal.returns-clause-goes_on
returns-clause-goes_on c = λ p rest sides h. some_goes_on p rest sides h

pub returns-clause-ends_above : goal.returns-clause-ends_above
returns-clause-ends_above c = λ p t side sides more way. front_above p t side sides more way
