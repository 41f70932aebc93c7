use Rattle.std.proofs.Common.{refl, true, false, arith}
use Rattle.ksi_consistency.proofs.Cases.{parts_of}
use Rattle.ksi_consistency.proofs.Fronts.{front_all, front_left, front_right}
use Rattle.ksi_consistency.proofs.laws.one_front.Goals as goal

pub returns-clause-given : goal.returns-clause-given
returns-clause-given g c = λ join leaf lo n some. front_all c.one_split.ensures.split join leaf n lo n true some refl

pub returns-clause-all : goal.returns-clause-all
returns-clause-all g c = λ join leaf lo n some. front_all c.one_split.ensures.split join leaf n lo n false some refl

pub returns-clause-left : goal.returns-clause-left
returns-clause-left g c = λ join leaf m lo n k given some split most.
    let h = parts_of n k split in
    front_left c.one_split.ensures.split join leaf m lo n k given some ((c.one_split.ensures.split n k (omega (arith, h.some, h.below))).0 split) most (omega (arith, h.some, h.below))

pub returns-clause-right : goal.returns-clause-right
returns-clause-right g c = λ join leaf m lo n k given split above below.
    let h = parts_of n k split in
    front_right c.one_split.ensures.split join leaf m lo n k given ((c.one_split.ensures.split n k (omega (arith, h.some, h.below))).0 split) above below
