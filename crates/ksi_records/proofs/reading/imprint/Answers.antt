use Rattle.std.proofs.Common.{sym}
use Rattle.ksi_records.proofs.HeadLemmas.{no_imprint}
use Rattle.ksi_records.proofs.reading.imprint.Goals as goal

pub returns-in_default : goal.returns-in_default
returns-in_default c = sym (no_imprint c.args.word.now c.in_default.ensures.cases.0)
