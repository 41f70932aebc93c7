use Rattle.ksi_schedule.proofs.Within.{spelled_within}
use Rattle.ksi_schedule.proofs.Asking.{spelled_asks, spelled_history}
use Rattle.ksi_schedule.proofs.laws.spelled_is_schedule.Goals as goal

pub returns-clause-schedule : goal.returns-clause-schedule
returns-clause-schedule c = spelled_within c.voters_are_cores.ensures.more

pub returns-clause-imprints : goal.returns-clause-imprints
returns-clause-imprints c = spelled_asks

pub returns-clause-history : goal.returns-clause-history
returns-clause-history c = spelled_history c.voters_are_cores.ensures.more
