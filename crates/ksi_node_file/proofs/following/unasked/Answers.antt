use Rattle.ksi_schedule.specs.Plans.{core_plan_of}
use Rattle.std.proofs.Common.{◌∙◌, sym}
use Rattle.ksi_world.specs.Histories.{after}
use Rattle.ksi_node_file.specs.CoreFacts.{core_facts}
use Rattle.ksi_node_file.proofs.Onwards.{follows_restart, follows_still}
use Rattle.ksi_node_file.proofs.following.unasked.Goals as goal

pub returns-else-is_restart_of : goal.returns-else-is_restart_of
returns-else-is_restart_of g c =
    let image = g.C.Compress.image in
    let h = c.args.world.now in
    let core = c.args.core in
    let event = c.args.event.now in
    let seen_is = c.world_is_seen.ensures image h.plan c.plan-plan.ensures.limits h.events in
    let step = c.step_is_by_facts.ensures image h.plan c.plan-plan.ensures.limits h.events event in
    follows_still image h.plan h.events event core seen_is step c.args.store c.args.store c.requires.following c.requires.none
    (λ t. c.events_are_turns.ensures.still image h.plan (after image h.plan h.events) core event c.requires.none (sym c.is_restart_of.ensures ∙ c.if-is_restart_of.false) t)

pub returns-then-is_restart_of : goal.returns-then-is_restart_of
returns-then-is_restart_of g c =
    let image = g.C.Compress.image in
    let h = c.args.world.now in
    let core = c.args.core in
    let event = c.args.event.now in
    let seen_is = c.world_is_seen.ensures image h.plan c.plan-plan.ensures.limits h.events in
    let step = c.step_is_by_facts.ensures image h.plan c.plan-plan.ensures.limits h.events event in
    follows_restart image h.plan h.events event core seen_is step c.args.store c.restart.new.self c.requires.following c.requires.none
    (λ t. c.events_are_turns.ensures.restarted image h.plan (after image h.plan h.events) core event (sym c.is_restart_of.ensures ∙ c.if-is_restart_of.true) t)
    c.restart.ensures.restarted c.restart.ensures.log (c.restart.ensures.stored core (core_plan_of h.plan) (core_facts image h.plan h.events core) c.requires.following.held.stored)
