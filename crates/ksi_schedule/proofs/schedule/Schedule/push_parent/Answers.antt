use Rattle.std.proofs.Common.{◌≡◌, true, [], ◌<◌, length, sym, subst}
use Rattle.ksi_schedule.specs.Plans.{IsPlan, IsParent}
use Rattle.ksi_schedule.specs.Lines.{reaches_core, with_parent}
use Rattle.ksi_schedule.specs.Events.{History}
use Rattle.ksi_schedule.proofs.Next.{no_events, plan_next, either_way}
use Rattle.ksi_schedule.proofs.schedule.Schedule.push_parent.Goals as goal

pub invariant_of-self : goal.invariant_of-self
invariant_of-self c =
    let none : c.self.inside.events ≡ [] = subst (λ (h : History). h.events ≡ []) (sym c.self.view_is) c.requires.none in
    let room : length c.self.inside.plan.parents < 4096 = subst (λ (h : History). length h.plan.parents < 4096) (sym c.self.view_is) c.requires.room in
    let there : IsParent c.self.inside.plan.cores (length c.self.inside.plan.parents) c.args.parent.actor = subst (λ (h : History). IsParent h.plan.cores (length h.plan.parents) c.args.parent.actor) (sym c.self.view_is) c.requires.there in
    let low : reaches_core c.self.inside.plan 7 c.args.parent.actor ≡ true = subst (λ (h : History). reaches_core h.plan 7 c.args.parent.actor ≡ true) (sym c.self.view_is) c.requires.low in
    record {
      plan = either_way IsPlan c.push_parent.result c.push_parent.new.plan (with_parent c.self.inside.plan c.args.parent) c.self.inside.plan c.push_parent.ensures.ok c.push_parent.ensures.err
          (plan_next c.self.inside.plan c.args.parent c.self.invariant.plan room there c.requires.named low) c.self.invariant.plan;
      events = no_events c.push_parent.new.plan c.self.inside.events none;
      few = c.self.invariant.few;
    }
