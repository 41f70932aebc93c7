use Rattle.std.proofs.Common.{◌≡◌, ◌+◌, length, refl, ap, arith}
use Rattle.ksi_calendar.specs.Calendar.{Seconds}
use Rattle.ksi_corenode.specs.CoreState.{held_by}
use Rattle.ksi_corenode.proofs.Kept.{kept_first, kept_all}
use Rattle.ksi_corenode.proofs.node.Core.covering.Goals as goal

pub returns-then-next-last-clause-missing : goal.returns-then-next-last-clause-missing
returns-then-next-last-clause-missing g c =
    let now = c.args.self.now in
    let calendar = c.calendar-calendar.result.now in
    let next : c.start.result + c.count.result ≡ now.start + length calendar.roots = omega (arith, c.start.ensures, c.count.ensures, c.calendar-calendar.ensures.begins) in
    (c.one_first_missing.ensures.some (held_by now) now.start c.args.last (c.start.result + c.count.result)).1
    (rw next (kept_first (held_by now) now.start calendar c.calendar-calendar.ensures c.args.last (omega (arith, next, c.if-next-last.true)) c.requires.below))

pub unreachable-requires : goal.unreachable-requires
unreachable-requires g c =
    let none = c.in-None.ensures.none refl in
    omega (arith, ap length none, c.start.ensures, c.count.ensures, c.calendar-calendar.ensures.begins, c.requires.from, c.if-next-last.false)

pub returns-clause-covered : goal.returns-clause-covered
returns-clause-covered g c =
    omega (arith, ap (λ (s : Seconds). s.start + length s.roots) c.in-Some.ensures.some, c.start.ensures, c.count.ensures, c.if-next-last.false)

pub returns-clause-all : goal.returns-clause-all
returns-clause-all g c =
    let now = c.args.self.now in
    (c.one_first_missing.ensures.none (held_by now) now.start c.args.last).1
    (kept_all (held_by now) now.start c.calendar-calendar.result.now c.calendar-calendar.ensures c.args.last (omega (arith, c.start.ensures, c.calendar-calendar.ensures.begins, c.count.ensures, c.if-next-last.false)))
