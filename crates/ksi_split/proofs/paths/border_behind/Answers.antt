use Rattle.std.proofs.Common.{arith}
use Rattle.ksi_split.proofs.Powers.{halves_quotient}
use Rattle.ksi_split.proofs.paths.border_behind.Goals as goal

pub returns-then-at-last-clause-none : goal.returns-then-at-last-clause-none
returns-then-at-last-clause-none g c le = absurd (omega (arith, halves_quotient c.args.level c.args.last, c.if-at-last.true))

pub returns-else-at-last-clause-behind : goal.returns-else-at-last-clause-behind
returns-else-at-last-clause-behind g c lt = absurd (omega (arith, halves_quotient c.args.level c.args.last, c.if-at-last.false))
