use Rattle.std.proofs.Common.{◌∙◌, sym, subst}
use Rattle.ksi_calendar.specs.Calendar.{Seconds}
use Rattle.ksi_corenode.specs.CoreState.{held_by}
use Rattle.ksi_corenode.specs.Settled.{IsCalendarOf}
use Rattle.ksi_corenode.proofs.Kept.{kept_fresh}
use Rattle.ksi_corenode.proofs.node.Core.new.Goals as goal

pub invariant_of-result : goal.invariant_of-result
invariant_of-result g c =
    subst (λ (calendar : Seconds). IsCalendarOf (held_by c.new.result) c.new.result.start calendar) (sym c.new-2.ensures)
    (kept_fresh c.new.result c.args.me c.args.plan.now c.start.result (c.new.ensures.start ∙ sym c.start.ensures.start) c.new.ensures.seconds)
