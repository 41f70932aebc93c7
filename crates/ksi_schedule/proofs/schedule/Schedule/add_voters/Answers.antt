use Rattle.std.proofs.Common.{◌≡◌, [], sym, subst}
use Rattle.ksi_schedule.specs.Events.{History}
use Rattle.ksi_schedule.proofs.Next.{no_events}
use Rattle.ksi_schedule.proofs.schedule.Schedule.add_voters.Goals as goal

pub invariant_of-self : goal.invariant_of-self
invariant_of-self c =
    let none : c.self.inside.events ≡ [] = subst (λ (h : History). h.events ≡ []) (sym c.self.view_is) c.requires.none in
    record {
      plan = c.add_voters.ensures.limits;
      events = no_events c.add_voters.new.plan c.self.inside.events none;
      few = c.self.invariant.few;
    }
