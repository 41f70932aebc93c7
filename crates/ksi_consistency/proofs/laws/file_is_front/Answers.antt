use Rattle.ksi_consistency.proofs.Ordered.{is_front, in_order}
use Rattle.ksi_consistency.proofs.laws.file_is_front.Goals as goal

pub returns-clause-front : goal.returns-clause-front
returns-clause-front c = is_front (record { early = c.values_are_bounded.ensures.early; imprint = c.values_are_bounded.ensures.imprint })

pub returns-clause-kinds : goal.returns-clause-kinds
returns-clause-kinds c = in_order (record { early = c.values_are_bounded.ensures.early; imprint = c.values_are_bounded.ensures.imprint })
