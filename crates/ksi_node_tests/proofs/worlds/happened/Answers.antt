use Rattle.std.proofs.Common.{sym, subst}
use Rattle.ksi_schedule.specs.Events.{IsEvent, AreEvents}
use Rattle.ksi_node_tests.proofs.Events.{each_event}
use Rattle.ksi_node_tests.proofs.worlds.happened.Goals as goal

pub happens-requires : goal.happens-requires
happens-requires g c =
    let plan = c.args.schedule.now.plan in
    let events = c.events-event-items in
    let are = subst (AreEvents plan) (sym events.ensures.events) events.ensures.limits.events in
    subst (λ plan. IsEvent plan c.event-item.result) (sym c.events.invariant)
    (subst (IsEvent plan) (sym c.event-item.is) (each_event plan events.result.now c.events.event-index c.event-item.result are c.events-test.true))
