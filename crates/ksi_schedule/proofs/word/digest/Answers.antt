use Rattle.ksi_schedule.proofs.Digests.{no_text}
use Rattle.ksi_schedule.proofs.word.digest.Goals as goal

pub returns-in_default : goal.returns-in_default
returns-in_default c = no_text c.args.word.now c.in_default.ensures.cases.0
