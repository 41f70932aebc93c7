use Rattle.ksi_calendar.proofs.Missing.{missing_some, missing_none, all_known}
use Rattle.ksi_calendar.proofs.laws.one_first_missing.Goals as goal

pub returns-clause-some : goal.returns-clause-some
returns-clause-some c = missing_some

pub returns-clause-none : goal.returns-clause-none
returns-clause-none c = λ roots start last. (missing_none roots start last, all_known roots start last)
