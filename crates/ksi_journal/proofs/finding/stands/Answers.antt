use Rattle.ksi_journal.proofs.Run.{got}
use Rattle.ksi_journal.proofs.finding.stands.Goals as goal

pub returns : goal.returns
returns c = got _ _ _ c.get.ensures.lookup.0 c.get.ensures.lookup.1
