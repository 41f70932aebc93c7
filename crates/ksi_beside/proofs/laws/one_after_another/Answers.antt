use Rattle.ksi_beside.proofs.Going.{laid_none, laid_append}
use Rattle.ksi_beside.proofs.laws.one_after_another.Goals as goal

pub returns-clause-none : goal.returns-clause-none
returns-clause-none c = laid_none

pub returns-clause-together : goal.returns-clause-together
returns-clause-together c = laid_append
