use Rattle.std.proofs.Common.{◌∙◌, ◌≤◌, length, ap, sym, subst, arith}
use Rattle.ksi_schedule.specs.Plans.{PlanState}
use Rattle.ksi_schedule.specs.Events.{History, IsEvent, AreEvents}
use Rattle.ksi_node_file.specs.Followed.{IsFollowing}
use Rattle.ksi_node_file.proofs.FactsMore.{each_event, happened_all, happened_more}
use Rattle.ksi_node_file.proofs.making.followed.Goals as goal

pub onward-requires-clause-event : goal.onward-requires-clause-event
onward-requires-clause-event g c =
    let plan = c.args.schedule.now.plan in
    let events = c.events-event-items in
    let are = subst (AreEvents plan) (sym events.ensures.events) events.ensures.limits.events in
    subst (λ (p : PlanState). IsEvent p c.event-item.result) (sym (ap (λ (h : History). h.plan) c.events.invariant.so_far))
    (subst (IsEvent plan) (sym c.event-item.is) (each_event plan events.result.now c.events.event-index c.event-item.result are c.events-test.true))

pub events-preserved : goal.events-preserved
events-preserved g c =
    let h = c.args.schedule.now in
    let items = c.events-event-items in
    record {
      so_far = c.in_ok-store-2.ensures.happened ∙ happened_more h.plan c.events.world h.events items.result.now c.events.event-index c.event-item.result c.events.invariant.so_far items.ensures.events c.events-test.true c.event-item.is;
      follows = c.in_ok-store-2.ensures.following;
    }

pub returns : goal.returns
returns g c =
    let h = c.args.schedule.now in
    let items = c.events-event-items in
    let past : length items.result.now ≤ c.events.event-index = omega (arith, c.events-test.false) in
    subst (λ (w : History). IsFollowing g.C.Compress.image w.plan w.events c.args.core c.events.store)
    (happened_all h.plan c.events.world h.events items.result.now c.events.event-index c.events.invariant.so_far items.ensures.events past) c.events.invariant.follows
