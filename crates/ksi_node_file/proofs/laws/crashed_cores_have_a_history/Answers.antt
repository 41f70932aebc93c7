use Rattle.std.proofs.Common.{List, ℕ, sym, ap, ◌∙◌}
use Rattle.ksi_corenode.specs.SecondState.{SecondState}
use Rattle.ksi_schedule.specs.Plans.{PlanState, IsPlan}
use Rattle.ksi_node_file.proofs.Crashing.{Laws, answered_after, first_core, runs_after, sent_after}
use Rattle.ksi_node_file.proofs.laws.crashed_cores_have_a_history.Goals as goal

pub returns : goal.returns
returns c =
    let turns = c.events_are_turns.ensures in
    let adds = c.rows_add_what_they_store.ensures in
    let laws : (image : List ℕ → List ℕ) (plan : PlanState) → IsPlan plan → Laws image plan = λ image plan is. record {
      plan_is = is;
      seen_is = λ events. c.world_is_seen.ensures image plan is events;
      step = λ before event. c.step_is_by_facts.ensures image plan is before event;
      rows = record { submission = adds.submission; seal = adds.seal image; ballot = adds.ballot; receive = adds.receive; tell = adds.tell; respond = adds.respond image };
      may = λ before are core event one event_is asked it start. turns.may image plan before is are core event one event_is asked it start;
      owned = λ before are core event one asked. turns.owned image plan before is are core event one asked;
      row = λ w core it one keeps. turns.row image plan w core it one keeps;
      seconds = λ w core event one asked t. turns.seconds image plan w core event one asked t;
      others = λ w core other event one asked apart. turns.others w core other event one asked apart;
      still = λ w core event none other t. turns.still image plan w core event none other t;
      restarted = λ w core event mine t. turns.restarted image plan w core event mine t;
      one = λ me core_plan facts others file one other. c.a_crash_is_a_restart.ensures.one me core_plan facts others file one other;
      grows = λ core_plan facts old new event step has may asked owned turn. c.steps_are_lawful.ensures.facts image core_plan facts old new event step has may asked owned turn;
      made = λ me core_plan facts core lt there lawful of. c.one_core_of_facts.ensures.has image me core_plan facts core lt there lawful of;
      back = λ core_plan facts core other has of t. c.one_core_of_facts.ensures.restarted image core_plan facts core other has of t;
      back_with = λ core_plan facts core other event has may of t. c.steps_come_back.ensures image core_plan facts core other event has may of t;
    } in
    record {
      first = λ image plan is j running lt file opened. first_core image plan (laws image plan is) j running lt file opened;
      run = λ image plan is deeds before old new are cores runs. runs_after image plan (laws image plan is) deeds before old new are cores runs;
      messages = λ image plan is before event j old new asked core here took.
          sent_after image plan (laws image plan is) (λ w core event one asked. turns.sends image plan w core event one asked) before event j old new asked core here took;
      answers = λ image plan is before event j old new asked core here took. answered_after image plan (laws image plan is) before event j old new asked core here took;
      agree = λ image plan is events one other second running others root found are core another holds held.
          c.agreement.ensures image (record { plan = plan; events = events }) is are one other second root found
          (ap (λ (s : SecondState). s.vote.held) (sym (core.keeps second)) ∙ holds) (ap (λ (s : SecondState). s.vote.held) (sym (another.keeps second)) ∙ held);
    }
