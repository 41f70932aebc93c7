use Rattle.std.proofs.Common.{List, ℕ}
use Rattle.ksi_schedule.specs.Plans.{PlanState, IsPlan}
use Rattle.ksi_laws_crashed.proofs.Deeds.{BothLaws, runs_after}
use Rattle.ksi_laws_crashed.proofs.Issuing.{live_issues}
use Rattle.ksi_laws_crashed.proofs.Below.{Laws}
use Rattle.ksi_laws_crashed.proofs.Stepping.{first_aggregator, sent_after, took_after}
use Rattle.ksi_laws_crashed.proofs.laws.crashed_nodes_have_a_history.Goals as goal

pub returns : goal.returns
returns c =
    let turns = c.rounds_are_turns.ensures in
    let adds = c.rows_add_what_they_store.ensures in
    let names = c.numbers_are_names.ensures in
    let cores = c.forgetful_cores_have_a_history.ensures in
    let facts_each = c.facts_one_by_one.ensures in
    let rounds : (image : List ℕ → List ℕ) (plan : PlanState) → IsPlan plan → Laws image plan = λ image plan is. record {
      plan_is = is;
      seen_is = λ events. c.world_is_seen.ensures image plan is events;
      step = λ before event. c.step_is_by_facts.ensures image plan is before event;
      stores = record { request = adds.request; item = adds.item; close = adds.close image; response = adds.response image };
      may = λ before are k event one event_is asked. turns.may image plan before is are k event one event_is asked;
      rounds = λ w k event one asked t. turns.rounds image plan w k event one asked t;
      sends = λ w k event one asked. turns.sends image plan w k event one asked;
      others = λ w k other event one asked apart. turns.others w k other event one asked apart;
      still = λ w k event none other t. turns.still image plan w k event none other t;
      restarted = λ w k event mine t. turns.restarted image plan w k event mine t;
      one_file = λ me facts others file is found. c.a_file_is_of_one_list_of_facts.ensures me plan facts others file is found;
      grows = λ facts old new event step has may early turn. c.steps_are_lawful.ensures.facts image facts old new event step has may early turn;
      made = λ me facts a lawful of. c.one_aggregator_of_facts.ensures.has me facts a lawful of;
      back = λ me facts rounds other has of t. c.one_aggregator_of_facts.ensures.restarted me facts rounds other has of t;
      row = λ name event r. names.row image name event r;
      restart = λ name r. names.restart name r;
      settled = record { row = λ event r settled. c.settled_rounds_stay.ensures.row image event r settled; restart = λ r settled. c.settled_rounds_stay.ensures.restart r settled };
      same_rounds = λ facts old new has same. c.steps_are_lawful.ensures.same facts old new has same;
      restarts = λ facts old new has back. c.steps_are_lawful.ensures.restart facts old new has back;
      none_lawful = facts_each.none;
      may_named = λ name rounds event one may. names.may name rounds event one may;
      one_by_one = record {
        before = λ facts fact lawful. facts_each.before facts fact lawful;
        last = λ facts fact lawful. facts_each.last facts fact lawful;
        stored = λ facts fact t. facts_each.stored facts fact t;
      };
    } in
    let both : (image : List ℕ → List ℕ) (plan : PlanState) → IsPlan plan → BothLaws image plan = λ image plan is. record {
      rounds = rounds image plan is;
      left = record {
        lawful = λ forgotten facts lawful. c.facts_left_are_lawful.ensures.lawful forgotten facts lawful;
        stay = λ me forgotten facts live other t has of here. c.facts_left_are_lawful.ensures.stay me forgotten facts live other t has of here;
        gone = λ me forgotten facts live other t has of here settled. c.facts_left_are_lawful.ensures.gone me forgotten facts live other t has of here settled;
      };
      takes_part = λ before event j old new lt are event_is core part. cores.takes_part image plan is before event j old new lt are event_is core part;
      cut_off = λ before event j asked stored old new lt are event_is core here cut. cores.cut_off image plan is before event j asked stored old new lt are event_is core here cut;
      core_stands_by = λ before event i j asked stored running other core here. cores.stands_by image plan is before event i j asked stored running other core here;
      core_refused = λ events j old new same core. cores.refused image plan events j old new same core;
      core_forgot = λ before j gone old new lt core forgot. cores.forgot image plan is before j gone old new lt core forgot;
      no_core = λ w k j event one asked. turns.cores w k j event one asked;
      no_aggregator = λ w j k event one asked. turns.aggregators w j k event one asked;
    } in
    record {
      first_core = λ image plan is j running lt file opened forgets. cores.first image plan is j running lt file opened forgets;
      first_aggregator = λ image plan is k running file opened forgets. first_aggregator image plan (rounds image plan is) k running file opened forgets;
      run = λ image plan is deeds before old new are nodes runs. runs_after image plan (both image plan is) deeds before old new are nodes runs;
      core_messages = λ image plan is before event j old new asked core here took. cores.messages image plan is before event j old new asked core here took;
      aggregator_messages = λ image plan is before event k old new asked are event_is aggregator here took.
          sent_after image plan (rounds image plan is) before event k old new asked are event_is aggregator here took;
      core_answers = λ image plan is before event j old new asked core here took. cores.answers image plan is before event j old new asked core here took;
      answers = λ image plan is before event k old new asked are event_is aggregator here took.
          took_after image plan (rounds image plan is) before event k old new asked are event_is aggregator here took;
      agree = λ image plan is events one other second running others root found are core another holds held.
          cores.agree image plan is events one other second running others root found are core another holds held;
      issued = λ image plan events k running number text is issues.
          let at = live_issues image plan events k running is.name (λ entries. names.items is.name entries) is.named number text issues in
          (at.0, at.1, turns.issued image plan events k at.0 text at.2);
    }
