use Rattle.std.proofs.Common.{sym, subst}
use Rattle.ksi_split.specs.Ways.{IsWay}
use Rattle.ksi_split.proofs.Ways.{way_one, way_left, way_right}
use Rattle.ksi_split.proofs.Leaves.{word_is, way_is}
use Rattle.ksi_split.proofs.laws.one_way.Goals as goal

pub returns-clause-way : goal.returns-clause-way
returns-clause-way c = λ t n sides. (λ h. (let w = word_is sides t n h in (w.within, sym w.word)), λ h. subst (IsWay t n) (sym h.1) (way_is t n h.0))

pub returns-clause-one_leaf : goal.returns-clause-one_leaf
returns-clause-one_leaf c = way_one 0

pub returns-clause-left : goal.returns-clause-left
returns-clause-left c = λ t n some lt. way_left t n some lt

pub returns-clause-right : goal.returns-clause-right
returns-clause-right c = λ t n some le. way_right t n some le
