use Rattle.ksi_schedule.specs.Plans.{core_plan_of}
use Rattle.std.proofs.Common.{◌≡◌, ◌∙◌, Some, sym, subst}
use Rattle.std.proofs.lemmas.Result.{IfOk-weaker}
use Rattle.ksi_synod.specs.CorePlans.{CorePlanState}
use Rattle.ksi_corenode.specs.Owners.{BringsOwned}
use Rattle.ksi_world.specs.Histories.{after}
use Rattle.ksi_world.specs.CoreEvents.{asked_of}
use Rattle.ksi_node_file.specs.CoreFacts.{core_facts}
use Rattle.ksi_node_file.proofs.FactsMore.{RowsStore}
use Rattle.ksi_node_file.proofs.Onwards.{core_is, follows_step}
use Rattle.ksi_node_file.proofs.following.follow.Goals as goal

pub taken-requires-clause-held : goal.taken-requires-clause-held
taken-requires-clause-held g c = (c.args.core, core_plan_of c.args.world.now.plan, core_facts g.C.Compress.image c.args.world.now.plan c.args.world.now.events c.args.core, c.requires.following.held)

pub taken-requires-clause-event : goal.taken-requires-clause-event
taken-requires-clause-event g c =
    let image = g.C.Compress.image in
    let h = c.args.world.now in
    let asked : asked_of c.args.core (after image h.plan h.events).wire c.args.event.now ≡ Some c.in-Some.asked = sym c.asked_of.ensures ∙ c.in-Some.is in
    (c.events_are_turns.ensures.may image h.plan h.events c.plan-plan.ensures.limits c.events-events.ensures.lawful c.args.core c.args.event.now c.in-Some.asked c.requires.event asked c.args.store.core c.requires.following.held.stored.has.begins).0

pub taken-requires-clause-asked : goal.taken-requires-clause-asked
taken-requires-clause-asked g c =
    let image = g.C.Compress.image in
    let h = c.args.world.now in
    let asked : asked_of c.args.core (after image h.plan h.events).wire c.args.event.now ≡ Some c.in-Some.asked = sym c.asked_of.ensures ∙ c.in-Some.is in
    (c.events_are_turns.ensures.may image h.plan h.events c.plan-plan.ensures.limits c.events-events.ensures.lawful c.args.core c.args.event.now c.in-Some.asked c.requires.event asked c.args.store.core c.requires.following.held.stored.has.begins).1

pub taken-requires-clause-owned : goal.taken-requires-clause-owned
taken-requires-clause-owned g c =
    let image = g.C.Compress.image in
    let h = c.args.world.now in
    let asked : asked_of c.args.core (after image h.plan h.events).wire c.args.event.now ≡ Some c.in-Some.asked = sym c.asked_of.ensures ∙ c.in-Some.is in
    subst (λ (p : CorePlanState). BringsOwned p.cores c.in-Some.asked) (sym c.requires.following.held.stored.has.planned)
    (c.events_are_turns.ensures.owned image h.plan h.events c.plan-plan.ensures.limits c.events-events.ensures.lawful c.args.core c.args.event.now c.in-Some.asked asked)

pub returns-in-Some : goal.returns-in-Some
returns-in-Some g c =
    let image = g.C.Compress.image in
    let h = c.args.world.now in
    let core = c.args.core in
    let event = c.args.event.now in
    let one = c.in-Some.asked in
    let asked : asked_of core (after image h.plan h.events).wire event ≡ Some one = sym c.asked_of.ensures ∙ c.in-Some.is in
    let seen_is = c.world_is_seen.ensures image h.plan c.plan-plan.ensures.limits h.events in
    let step = c.step_is_by_facts.ensures image h.plan c.plan-plan.ensures.limits h.events event in
    let adds = c.rows_add_what_they_store.ensures in
    let rows : RowsStore image = record { submission = adds.submission; seal = adds.seal image; ballot = adds.ballot; receive = adds.receive; tell = adds.tell; respond = adds.respond image } in
    IfOk-weaker c.taken.result _ _
    (λ new has.
    let is = core_is image h.plan h.events event core seen_is step c.args.store new c.requires.following in
    follows_step image h.plan h.events event core seen_is step c.args.store new c.requires.following rows one asked
    (c.events_are_turns.ensures.row image h.plan (after image h.plan h.events) core c.args.store.core one is)
    (λ made turn t. c.events_are_turns.ensures.turn image h.plan (after image h.plan h.events) core event one c.args.store.core new.core made asked is turn t) has)
    (c.taken.ensures core (core_plan_of h.plan) (core_facts image h.plan h.events core) c.requires.following.held)
