use Rattle.std.proofs.Common.{List, ◌<◌, ◌++◌, ◌∷◌, [], length, length-append, subst, sym, arith}
use Rattle.ksi_schedule.specs.declared.event.Event.{Event}
use Rattle.ksi_schedule.specs.Events.{History, IsEvent}
use Rattle.ksi_schedule.specs.Schedules.{IsSchedule}
use Rattle.ksi_schedule.proofs.Next.{events_next, either_way}
use Rattle.ksi_schedule.proofs.schedule.Schedule.push_event.Goals as goal

pub invariant_of-self : goal.invariant_of-self
invariant_of-self c =
    let there : IsEvent c.self.inside.plan c.args.event = subst (λ (h : History). IsEvent h.plan c.args.event) (sym c.self.view_is) c.requires.there in
    let room : length c.self.inside.events < 1000000 = subst (λ (h : History). length h.events < 1000000) (sym c.self.view_is) c.requires.room in
    let more : IsSchedule (record { plan = c.self.inside.plan; events = c.self.inside.events ++ c.args.event ∷ [] }) =
    record {
      plan = c.self.invariant.plan;
      events = events_next c.self.inside.plan c.self.inside.events c.args.event c.self.invariant.events there;
      few = omega (arith, length-append c.self.inside.events (c.args.event ∷ []));
    } in
    either_way (λ (events : List Event). IsSchedule (record { plan = c.self.inside.plan; events = events })) c.push.result c.push.new.self _ _ c.push.ensures.ok c.push.ensures.err more c.self.invariant
