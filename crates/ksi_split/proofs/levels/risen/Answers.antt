use Rattle.std.proofs.Common.{sym, ◌∙◌, arith}
use Rattle.ksi_split.proofs.Powers.{halves_rise, halves_from}
use Rattle.ksi_split.proofs.levels.risen.Goals as goal

pub loop-low-smaller : goal.loop-low-smaller
loop-low-smaller c =
    omega (arith, c.loop-low.invariant.low, c.loop-low.invariant.high, halves_rise c.loop-low.level c.args.n c.args.end c.requires.rise, c.loop-low-test.true)

pub returns-clause-same : goal.returns-clause-same
returns-clause-same c k le =
    halves_from c.loop-low.level c.args.n c.args.end (sym c.loop-low.invariant.low ∙ omega (arith, c.loop-low-test.false) ∙ c.loop-low.invariant.high) k le
