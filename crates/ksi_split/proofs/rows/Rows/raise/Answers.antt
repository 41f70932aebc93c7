use Rattle.std.proofs.Common.{◌+◌, ◌/◌, ◌^◌, length, arith}
use Rattle.ksi_split.proofs.Powers.{halves_rise, halves_quotient}
use Rattle.ksi_split.proofs.Upward.{raise_odd, raise_even, border_ended}
use Rattle.ksi_split.specs.Leaves.{leaf_of}
use Rattle.ksi_split.proofs.rows.Rows.raise.Goals as goal

pub part-requires-clause-within : goal.part-requires-clause-within
part-requires-clause-within g c =
    let rise = halves_rise (c.args.level + 1) (c.args.last + 1) (c.args.self.now.start + length c.args.self.now.items) (omega (arith, c.requires.covered)) in
    omega (arith, rise, halves_quotient (c.args.level + 1) (c.args.last + 1), c.if-above-last.true)

pub returns-then-above-last-clause-border : goal.returns-then-above-last-clause-border
returns-then-above-last-clause-border g c =
    border_ended g.J.Joins.joined (leaf_of c.args.self.now) c.args.last (c.args.level + 1) (c.args.last / 2 ^ (c.args.level + 1)) c.part.result
    (halves_quotient (c.args.level + 1) c.args.last) (omega (arith, halves_quotient (c.args.level + 1) (c.args.last + 1), c.if-above-last.true)) c.part.ensures.part

pub part-left-requires-clause-within : goal.part-left-requires-clause-within
part-left-requires-clause-within g c =
    let rise = halves_rise c.args.level c.args.last (c.args.self.now.start + length c.args.self.now.items) (omega (arith, c.requires.covered)) in
    omega (arith, rise, halves_quotient c.args.level c.args.last, c.if-end-eq1.true)

pub returns-then-end-eq1-clause-border : goal.returns-then-end-eq1-clause-border
returns-then-end-eq1-clause-border g c =
    raise_odd g.J.Joins.joined (leaf_of c.args.self.now) c.args.last c.args.level (c.args.last / 2 ^ c.args.level) c.part-left.result c.args.border c.join.result
    (halves_quotient c.args.level c.args.last) c.if-end-eq1.true c.part-left.ensures.part c.requires.border c.join.ensures

pub returns-else-end-eq1-clause-border : goal.returns-else-end-eq1-clause-border
returns-else-end-eq1-clause-border g c =
    raise_even g.J.Joins.joined (leaf_of c.args.self.now) c.args.last c.args.level (c.args.last / 2 ^ c.args.level) c.args.border
    (halves_quotient c.args.level c.args.last) c.if-end-eq1.false c.requires.border
