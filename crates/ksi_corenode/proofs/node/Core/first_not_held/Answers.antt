use Rattle.std.proofs.Common.{◌∙◌, ◌+◌, ℕ, Some, sym, ap, subst, arith}
use Rattle.ksi_corenode.specs.CoreState.{CoreState, held_by}
use Rattle.ksi_corenode.specs.Settled.{IsSettled}
use Rattle.ksi_corenode.proofs.Settling.{first_behind}
use Rattle.ksi_corenode.proofs.node.Core.first_not_held.Goals as goal

pub returns-else-p-start-2-clause-first : goal.returns-else-p-start-2-clause-first
returns-else-p-start-2-clause-first g c =
    let now = c.args.self.now in
    let count = c.settled-settled.result in
    let settled : IsSettled (held_by now) now.start count = subst (λ (core : CoreState). IsSettled (held_by core) core.start count) c.seconds.ensures c.settled-settled.ensures.settled in
    ap (λ (start : ℕ). Some (start + count)) c.start-start.ensures
    ∙ sym ((c.one_first_missing.ensures.some (held_by now) now.start c.args.p (now.start + count)).1
    (first_behind (held_by now) now.start count c.args.p settled (omega (arith, c.start-start.ensures, c.if-p-start.false, c.if-p-start-2.false)) c.ranges.p.fits))
