use Rattle.ksi_split.proofs.Fronts.{part_leaves, part_is}
use Rattle.ksi_split.proofs.laws.parts.Goals as goal

pub returns-clause-leaves : goal.returns-clause-leaves
returns-clause-leaves c = λ n sides part some e. part_leaves n sides part some e

pub returns-clause-only : goal.returns-clause-only
returns-clause-only c = λ n first count sides h. part_is n first count sides h
