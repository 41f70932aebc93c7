use Rattle.std.proofs.Common.{◌≡◌, ◌∙◌, ℕ, List, sym}
use Rattle.ksi_corenode.specs.CoreState.{state_of}
use Rattle.ksi_schedule.specs.Plans.{PlanState, IsPlan}
use Rattle.ksi_world.specs.Histories.{after}
use Rattle.ksi_node_file.proofs.Answering.{event_answers}
use Rattle.ksi_node_file.proofs.FactsMore.{RowsStore, facts_asked, facts_first, facts_unasked}
use Rattle.ksi_laws_crashed.proofs.CoreStepping.{CoreLaws, answered_after, cut_after, first_core, forgot_after, others_after, refused_after, sent_after, takes_part}
use Rattle.ksi_laws_crashed.specs.Cores.{IsCoreAfter, Running}
use Rattle.ksi_schedule.specs.declared.event.Event.{Event}
use Rattle.ksi_laws_crashed.proofs.cores.forgetful_cores_have_a_history.Goals as goal

pub returns : goal.returns
returns c =
    let turns = c.events_are_turns.ensures in
    let adds = c.rows_add_what_they_store.ensures in
    let rows : (image : List ℕ → List ℕ) → RowsStore image =
    (λ image. record { submission = adds.submission; seal = adds.seal image; ballot = adds.ballot; receive = adds.receive; tell = adds.tell; respond = adds.respond image }) in
    let known = c.forgotten_seconds_are_known.ensures in
    let laws : (image : List ℕ → List ℕ) (plan : PlanState) → IsPlan plan → CoreLaws image plan = λ image plan is. record {
      plan_is = is;
      may = λ before are core event one event_is asked it start. turns.may image plan before is are core event one event_is asked it start;
      owned = λ before are core event one asked. turns.owned image plan before is are core event one asked;
      seconds = λ w core event one asked t. turns.seconds image plan w core event one asked t;
      sends = λ w core event one asked. turns.sends image plan w core event one asked;
      others = λ w core other event one asked apart. turns.others w core other event one asked apart;
      still = λ w core event none other t. turns.still image plan w core event none other t;
      restarted = λ w core event mine t. turns.restarted image plan w core event mine t;
      one = λ me core_plan facts others file one other. c.a_crash_is_a_restart.ensures.one me core_plan facts others file one other;
      grows = λ core_plan facts old new event step has may asked owned turn. c.steps_are_lawful.ensures.facts image core_plan facts old new event step has may asked owned turn;
      made = λ me core_plan facts core lt there lawful of. c.one_core_of_facts.ensures.has image me core_plan facts core lt there lawful of;
      back = λ core_plan facts core other has of t. c.one_core_of_facts.ensures.restarted image core_plan facts core other has of t;
      back_with = λ core_plan facts core other event has may of t. c.steps_come_back.ensures image core_plan facts core other event has may of t;
      facts_first = λ j. facts_first image plan j;
      facts_asked = λ before event j asked here.
          facts_asked image plan before event j (c.world_is_seen.ensures image plan is before) (c.step_is_by_facts.ensures image plan is before event) (rows image) asked here;
      facts_still = λ before event j none. facts_unasked image plan before event j (c.world_is_seen.ensures image plan is before) (c.step_is_by_facts.ensures image plan is before event) none;
      answers = λ w j event asked here. event_answers image plan w j event asked here;
      row = λ core event. c.forgetting_is_not_noticed.ensures.row image core event;
      alike = λ core_plan start me forgotten whole live event are may. known.alike image core_plan start me forgotten whole live event are may;
      goes_on = λ core_plan start me forgotten whole live event are may. known.after image core_plan start me forgotten whole live event are may;
      restarts = λ forgotten whole live are. known.restart forgotten whole live are;
      adds = λ core_plan start me forgotten whole live event facts are may. known.facts image core_plan start me forgotten whole live event facts are may;
      back_left = λ core_plan gone facts core other has held of. known.back image core_plan gone facts core other has held of;
      again = λ forgotten gone whole live left one other. known.again forgotten gone whole live left one other;
      left_again = λ forgotten gone facts. known.left_again forgotten gone facts;
      left_none = λ facts. known.left_none facts;
    } in
    let held_is : (image : List ℕ → List ℕ) (plan : PlanState) (events : List Event) (j : ℕ) (running : Running) → IsCoreAfter image plan events j running
    → (second : ℕ) → (state_of running.core second).vote.held ≡ ((after image plan events).seconds j second).vote.held = λ image plan events j running is second.
    c.forgetting_is_not_noticed.ensures.held ((after image plan events).seconds j) (state_of running.core) (known.are running.forgotten ((after image plan events).seconds j) (state_of running.core) is.seconds) second in
    record {
      first = λ image plan is j running lt file opened same. first_core image plan (laws image plan is) j running lt file opened same;
      takes_part = λ image plan is before event j old new lt are event_is core part. takes_part image plan (laws image plan is) before event j old new lt are event_is core part;
      cut_off = λ image plan is before event j asked stored old new lt are event_is core here cut. cut_after image plan (laws image plan is) before event j asked stored old new lt are event_is core here cut;
      stands_by = λ image plan is before event i j asked stored running other core here. others_after image plan (laws image plan is) before event i j asked stored running other core here;
      refused = λ image plan events j old new same core. refused_after image plan events j old new same core;
      forgot = λ image plan is before j gone old new lt core forgot. forgot_after image plan (laws image plan is) before j gone old new lt core forgot;
      messages = λ image plan is before event j old new asked core here took. sent_after image plan (laws image plan is) before event j old new asked core here took;
      answers = λ image plan is before event j old new asked core here took. answered_after image plan (laws image plan is) before event j old new asked core here took;
      held = held_is;
      agree = λ image plan is events one other second running others root found are core another holds held.
          c.agreement.ensures image (record { plan = plan; events = events }) is are one other second root found
          (sym (held_is image plan events one running core second) ∙ holds) (sym (held_is image plan events other others another second) ∙ held);
    }
