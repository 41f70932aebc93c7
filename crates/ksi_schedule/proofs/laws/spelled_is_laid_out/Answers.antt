use Rattle.ksi_schedule.proofs.Laying.{laid_out}
use Rattle.ksi_schedule.proofs.laws.spelled_is_laid_out.Goals as goal

pub returns : goal.returns
returns c = laid_out
