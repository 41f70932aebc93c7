use Rattle.std.proofs.Common.{◌++◌, ◌∷◌, [], sym, ap, subst, ◌∙◌}
use Rattle.ksi_schedule.specs.Events.{History, IsEvent}
use Rattle.ksi_world.specs.Histories.{after}
use Rattle.ksi_world.specs.Nodes.{IsWorld}
use Rattle.ksi_world.proofs.Running.{world_more, world_still}
use Rattle.ksi_world.proofs.world.World.step.Goals as goal

pub invariant_of-self-in_err-outcome : goal.invariant_of-self-in_err-outcome
invariant_of-self-in_err-outcome g c =
    let image = g.C.Compress.image in
    let plan = c.self.inside.plan in
    let events = c.self.inside.events.items in
    let is = c.self.invariant in
    subst (λ es. IsWorld image plan es c.happen.new.self) (sym c.reserve.ensures.items)
    (world_still image plan events c.self.inside.nodes c.happen.new.self is (c.in_err-outcome.ensures.err (after image plan events) is.fits))

pub invariant_of-self-2 : goal.invariant_of-self-2
invariant_of-self-2 g c =
    let image = g.C.Compress.image in
    let plan = c.self.inside.plan in
    let events = c.self.inside.events.items in
    let is = c.self.invariant in
    let there : IsEvent plan c.args.event = subst (λ (h : History). IsEvent h.plan c.args.event) (sym c.self.view_is) c.requires in
    subst (λ es. IsWorld image plan es c.happen.new.self) (sym (c.push_reserved.ensures.items ∙ ap (λ es. es ++ c.args.event ∷ []) c.reserve.ensures.items))
    (world_more image plan (c.one_round.ensures.level image) events c.args.event c.self.inside.nodes c.happen.new.self is there ((c.in_ok-outcome.ensures.ok (after image plan events) is.fits).0))
