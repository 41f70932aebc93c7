use Rattle.std.proofs.Common.{◌∙◌, sym, arith}
use Rattle.ksi_consistency.proofs.Finding.{first_is, none_is}
use Rattle.ksi_consistency.proofs.Leafing.{agree_before, agree_to, is_other, not_other}
use Rattle.ksi_consistency.proofs.comparing.first_apart.Goals as goal

pub returns-else-ne-2-clause-none : goal.returns-else-ne-2-clause-none
returns-else-ne-2-clause-none g c =
    let old = c.args.old.now in
    let new = c.args.new.now in
    let same = not_other c.leaf-2.result c.leaf-3.result (sym c.ne-2.ensures ∙ c.if-ne-2.false) in
    let first = c.start.ensures in
    let second = c.start-2.ensures in
    agree_to old.calendar.now new.calendar.now c.min-begin.result old.last (omega (arith, c.min-begin.ensures, first)) (omega (arith, c.min-begin.ensures, second))
    (λ t from below. c.loop-second.invariant t from (omega (arith, below, c.loop-second-test.false)))
    (sym c.leaf-2.ensures ∙ same ∙ c.leaf-3.ensures)

pub returns-then-ne-clause-first : goal.returns-then-ne-clause-first
returns-then-ne-clause-first g c =
    let old = c.args.old.now in
    let new = c.args.new.now in
    let first = c.start.ensures in
    let second = c.start-2.ensures in
    let differ = is_other c.leaf.result c.leaf-in-loop-second.result (sym c.ne.ensures ∙ c.if-ne.true) in
    first_is old.calendar.now new.calendar.now old.last c.loop-second.second (omega (arith, c.loop-second-test.true))
    (agree_before old.calendar.now new.calendar.now c.min-begin.result c.loop-second.second (omega (arith, c.min-begin.ensures, first)) (omega (arith, c.min-begin.ensures, second)) c.loop-second.invariant)
    (λ same. differ (c.leaf.ensures ∙ same ∙ sym c.leaf-in-loop-second.ensures))

pub returns-then-ne-2-clause-first : goal.returns-then-ne-2-clause-first
returns-then-ne-2-clause-first g c =
    let old = c.args.old.now in
    let new = c.args.new.now in
    let first = c.start.ensures in
    let second = c.start-2.ensures in
    let differ = is_other c.leaf-2.result c.leaf-3.result (sym c.ne-2.ensures ∙ c.if-ne-2.true) in
    first_is old.calendar.now new.calendar.now old.last old.last (omega arith)
    (agree_before old.calendar.now new.calendar.now c.min-begin.result old.last (omega (arith, c.min-begin.ensures, first)) (omega (arith, c.min-begin.ensures, second)) (λ t from below. c.loop-second.invariant t from (omega (arith, below, c.loop-second-test.false))))
    (λ same. differ (c.leaf-2.ensures ∙ same ∙ sym c.leaf-3.ensures))

pub returns-else-ne-2-clause-first : goal.returns-else-ne-2-clause-first
returns-else-ne-2-clause-first g c = none_is c.args.old.now.calendar.now c.args.new.now.calendar.now c.args.old.now.last (returns-else-ne-2-clause-none g c)
