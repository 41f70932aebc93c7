use Rattle.ksi_auditor.proofs.Keeping.{items_are}
use Rattle.ksi_auditor.proofs.laws.kept_items.Goals as goal

pub returns : goal.returns
returns c = items_are
