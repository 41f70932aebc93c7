use Rattle.ksi_mirror.proofs.Ordered.{is_mirror, in_order}
use Rattle.ksi_mirror.proofs.laws.file_is_mirror.Goals as goal

pub returns-clause-mirror : goal.returns-clause-mirror
returns-clause-mirror c = is_mirror (record { early = c.values_are_bounded.ensures.early; imprint = c.values_are_bounded.ensures.imprint })

pub returns-clause-kinds : goal.returns-clause-kinds
returns-clause-kinds c = in_order (record { early = c.values_are_bounded.ensures.early; imprint = c.values_are_bounded.ensures.imprint })
