use Rattle.std.proofs.Common.{◌≡◌, ◌+◌, ◌<◌, arith, Option, Some}
use Rattle.ksi_split.specs.Upward.{node, halves}
use Rattle.ksi_split.proofs.Powers.{halves_quotient}
use Rattle.ksi_split.specs.Leaves.{leaf_of}
use Rattle.ksi_split.proofs.rows.Rows.raise_behind.Goals as goal

some_is : {A : Type 0} → (o : Option A) (x y : A) → o ≡ Some x → o ≡ Some y → x ≡ y
some_is o x y is wanted = cc (is, wanted)

pub returns-then-at-last-clause-border : goal.returns-then-at-last-clause-border
returns-then-at-last-clause-border g c lt = absurd (omega (arith, lt, halves_quotient (c.args.level + 1) c.args.last, c.if-at-last.true))

pub raise-requires-clause-border : goal.raise-requires-clause-border
raise-requires-clause-border g c =
    let behind : c.args.at < halves (c.args.level + 1) c.args.last = omega (arith, halves_quotient (c.args.level + 1) c.args.last, c.if-at-last.false) in
    some_is c.args.border c.in-Some.part (node g.J.Joins.joined (leaf_of c.args.self.now) c.args.last c.args.level (halves c.args.level c.args.last)) c.in-Some.is (c.requires.border behind)

pub returns-in-Some-clause-none : goal.returns-in-Some-clause-none
returns-in-Some-clause-none g c le = absurd (omega (arith, le, halves_quotient (c.args.level + 1) c.args.last, c.if-at-last.false))

pub returns-in-Some-clause-free : goal.returns-in-Some-clause-free
returns-in-Some-clause-free g c le = absurd (omega (arith, le, halves_quotient (c.args.level + 1) c.args.last, c.if-at-last.false))
