-- What each part in a deed makes of an aggregator is what the events of the deed make of it in the history.
use Rattle.std.proofs.Common.{◌≡◌, ◌<◌, ◌^◌, ℕ, eqb, Bool, true, false, if◌then◌else◌, List, [], ◌∷◌, ◌++◌, map, option_map, refl, sym, ap, subst, ◌∙◌, append_assoc, Option, Some, None}
use Rattle.std.specs.Prelude.{◌≢◌}
use Rattle.std.proofs.lemmas.Bool.{eqb-true}
use Rattle.ksi_aggregator.specs.Events.{event_second, MayTake, round_row}
use Rattle.ksi_aggregator.specs.Rounds.{IsTurn, fact_of, rounds_of}
use Rattle.ksi_aggregator.specs.Rows.{RoundState, RoundTurn, round_restarted}
use Rattle.ksi_aggregator.specs.declared.event.RoundEvent.{RoundEvent}
use Rattle.ksi_aggregator.specs.declared.event.RoundEvent.TheVariants as happenings
use Rattle.ksi_aggregator.specs.declared.fact.Fact.{Fact}
use Rattle.ksi_aggregator.specs.declared.fact.RoundFact.{RoundFact}
use Rattle.ksi_aggregator.specs.declared.step.Send.{Send}
use Rattle.ksi_aggregator.specs.declared.step.Step.{Step}
use Rattle.ksi_aggregator.specs.Lawful.{with_new}
use Rattle.ksi_aggtree.specs.declared.entries.Entry.{Entry}
use Rattle.ksi_aggregator.specs.Renamed.{IsOneToOne, answer_renamed, event_renamed, round_renamed, turn_renamed}
use Rattle.ksi_aggregator.specs.Restored.{HasFacts, IsOfFacts}
use Rattle.ksi_roundstore.specs.Forgotten.{SayTheSame}
use Rattle.ksi_roundstore.specs.Left.{left_of}
use Rattle.ksi_roundstore.specs.Stores.{IsFileOf}
use Rattle.ksi_roundstore.specs.Takes.{fact_added}
use Rattle.ksi_schedule.specs.Plans.{PlanState}
use Rattle.ksi_schedule.specs.Events.{IsEvent, AreEvents}
use Rattle.ksi_schedule.specs.declared.event.Event.{Event}
use Rattle.ksi_schedule.specs.declared.event.Event.TheVariants.{RestartAggregator}
use Rattle.ksi_world.specs.Histories.{WorldState, after, happens, round_message}
use Rattle.ksi_world.specs.RoundEvents.{round_asked_of, is_restart_of_aggregator, round_turn}
use Rattle.ksi_laws_crashed.specs.RoundFacts.{facts_named, round_facts}
use Rattle.ksi_laws_crashed.specs.Aggregators.{Running, IsTakenAs, WasOpened, TookStep, IsAsBefore, TakesPart, WasCutOff, IsRoundOf, is_gone, nothing, rounds_named, IsNamed, IsAggregatorAfter}
use Rattle.ksi_signature.specs.declared.answer.Answer.{Answer}
use Rattle.ksi_laws_crashed.proofs.Answering.{event_answers}
use Rattle.ksi_laws_crashed.proofs.FactsMore.{facts_asked, facts_first, facts_unasked}
use Rattle.ksi_laws_crashed.proofs.Forgetful.{left_new, may_live, restart_kept, row_adds, row_alike, row_kept}
use Rattle.ksi_laws_crashed.proofs.Naming.{changed, changed_first}
use Rattle.ksi_laws_crashed.proofs.Renumbering.{renumbered}
use Rattle.ksi_laws_crashed.proofs.Below.{Laws, after_more, another, first_rounds, itself, named_where, new_named, second_named}

module _ (image : List ℕ → List ℕ) (plan : PlanState) (laws : Laws image plan) where
  abbrev World : List Event → WorldState
  World events = after image plan events

  abbrev Facts : List Event → ℕ → List Fact
  Facts events k = round_facts image plan events k

  abbrev Whole : List Event → ℕ → (name : ℕ → ℕ) → ℕ → RoundState
  Whole events k name = rounds_named image plan events k name

  abbrev Named : List Event → ℕ → (name : ℕ → ℕ) → List Fact
  Named events k name = facts_named name (Facts events k)

  abbrev Left : (forgotten : ℕ → Option (List Entry)) → List Event → ℕ → (name : ℕ → ℕ) → List Fact
  Left forgotten events k name = left_of (is_gone forgotten) (Named events k name)

  -- what is known of an aggregator that forgot these rounds
  pub named_of : (events : List Event) (k : ℕ) (name : ℕ → ℕ) (forgotten : ℕ → Option (List Entry)) (new : Running) → new.forgotten ≡ forgotten → IsOneToOne name
      → ((t : ℕ) → IsRoundOf (forgotten t) (Whole events k name t) (rounds_of new.aggregator t)) → HasFacts (Named events k name) (Whole events k name)
      → HasFacts (Left forgotten events k name) (rounds_of new.aggregator) → IsFileOf k plan (Left forgotten events k name) new.file → IsNamed image plan events k new name
  named_of events k name forgotten new same one rounds whole has file = record {
    one = one;
    rounds = λ t. subst (λ (f : ℕ → Option (List Entry)). IsRoundOf (f t) (Whole events k name t) (rounds_of new.aggregator t)) (sym same) (rounds t);
    whole = whole;
    has = subst (λ (f : ℕ → Option (List Entry)). HasFacts (Left f events k name) (rounds_of new.aggregator)) (sym same) has;
    file = subst (λ (f : ℕ → Option (List Entry)). IsFileOf k plan (Left f events k name) new.file) (sym same) file;
  }

  -- OPENED

  -- an aggregator that was opened of a file of facts is made of these
  pub of_facts : (k : ℕ) (facts : List Fact) (running : Running) → IsFileOf k plan facts running.file → WasOpened k plan running → IsOfFacts k facts running.aggregator
  of_facts k facts running is opened = subst (λ (fs : List Fact). IsOfFacts k fs running.aggregator) (laws.one_file k opened.0 facts running.file opened.1 is) opened.2

  pub opened_after : (events : List Event) (k : ℕ) (running : Running) (name : ℕ → ℕ) (forgotten : ℕ → Option (List Entry)) → running.forgotten ≡ forgotten → IsOneToOne name
      → IsFileOf k plan (Left forgotten events k name) running.file → WasOpened k plan running → HasFacts (Named events k name) (Whole events k name)
      → ((t : ℕ) → IsRoundOf (forgotten t) (Whole events k name t) (rounds_of running.aggregator t)) → IsAggregatorAfter image plan events k running
  opened_after events k running name forgotten same one file opened whole rounds =
      let of = of_facts k (Left forgotten events k name) running file opened in
      record { mine = of.mine; name = name; named = named_of events k name forgotten running same one rounds whole (laws.made k (Left forgotten events k name) running.aggregator file.lawful of) file }

  -- before anything happened
  pub first_aggregator : (k : ℕ) (running : Running) → IsFileOf k plan [] running.file → WasOpened k plan running → running.forgotten ≡ nothing → IsAggregatorAfter image plan [] k running
  first_aggregator k running file opened forgets =
      let of = of_facts k [] running file opened in
      let rounds : (t : ℕ) → rounds_of running.aggregator t ≡ Whole [] k (λ x. x) t = λ t. first_rounds image plan k t running.aggregator of in
      let has : HasFacts [] (Whole [] k (λ x. x)) = laws.same_rounds [] (rounds_of running.aggregator) (Whole [] k (λ x. x)) (laws.made k [] running.aggregator laws.none_lawful of) (λ t. sym (rounds t)) in
      opened_after [] k running (λ x. x) nothing forgets (λ a b same. same)
      (subst (λ (fs : List Fact). IsFileOf k plan (left_of (is_gone nothing) (facts_named (λ x. x) fs)) running.file) (sym (facts_first image plan k)) file) opened
      (subst (λ (fs : List Fact). HasFacts (facts_named (λ x. x) fs) (Whole [] k (λ x. x))) (sym (facts_first image plan k)) has)
      rounds

  -- it refused an event
  pub refused_after : (events : List Event) (k : ℕ) (old new : Running) → IsAsBefore old new → IsAggregatorAfter image plan events k old → IsAggregatorAfter image plan events k new
  refused_after events k old new same is = record {
    mine = same.me ∙ is.mine;
    name = is.name;
    named = named_of events k is.name old.forgotten new same.forgets is.named.one
        (λ t. subst (λ (r : RoundState). IsRoundOf (old.forgotten t) (Whole events k is.name t) r) (sym (same.rounds t)) (is.named.rounds t))
        is.named.whole
        (laws.same_rounds (Left old.forgotten events k is.name) (rounds_of old.aggregator) (rounds_of new.aggregator) is.named.has same.rounds)
        (subst (λ (file : List ℕ). IsFileOf k plan (Left old.forgotten events k is.name) file) (sym same.file) is.named.file);
  }

  -- IT WAS ASKED

  -- under a name by which it takes what it was asked
  pub record IsAsked (before : List Event) (k : ℕ) (old : Running) (asked live : RoundEvent) : Type 0 where
    pub name : ℕ → ℕ
    pub named : IsNamed image plan before k old name
    pub live_is : live ≡ event_renamed name asked

  pub asked_so : (before : List Event) (event : Event) (k : ℕ) (old : Running) (asked live : RoundEvent) → AreEvents plan before → IsEvent plan event → IsAggregatorAfter image plan before k old
      → round_asked_of k (World before) event ≡ Some asked → IsTakenAs old.forgotten (rounds_of old.aggregator) asked live → IsAsked before k old asked live
  asked_so before event k old asked live are event_is is here = by asked (laws.may before are k event asked event_is here).0
    where
      by : (one : RoundEvent) → MayTake ((World before).rounds k) one → IsTakenAs old.forgotten (rounds_of old.aggregator) one live → IsAsked before k old one live
      by (happenings.Request number second imprint called) new so = record {
        name = λ x. changed (is.name number) so.0 (is.name x);
        named = renumbered image plan laws.one_by_one before k old is.name is.named number so.0 new so.1 so.2;
        live_is = so.3 ∙ ap (λ (n : ℕ). happenings.Request n second imprint called) (sym (changed_first (is.name number) so.0));
      }
      by (happenings.Submission from second item) may so = record { name = is.name; named = is.named; live_is = so }
      by (happenings.Close second) may so = record { name = is.name; named = is.named; live_is = so }
      by (happenings.Response second above) may so = record { name = is.name; named = is.named; live_is = so }

  module _ (before : List Event) (event : Event) (k : ℕ) (old : Running) (asked live : RoundEvent) (are : AreEvents plan before) (event_is : IsEvent plan event) (here : round_asked_of k (World before) event ≡ Some asked)
      (is : IsAsked before k old asked live) where
    abbrev Second : ℕ
    Second = event_second live

    -- its row, and the one of the aggregator that forgot nothing
    abbrev Row : RoundTurn
    Row = round_row image live (rounds_of old.aggregator Second)

    abbrev WholeRow : RoundTurn
    WholeRow = round_row image live (Whole before k is.name Second)

    abbrev Turned : RoundTurn
    Turned = round_turn image (World before) k asked

    abbrev Next : List Event
    Next = before ++ event ∷ []

    second_is : event_second live ≡ event_second asked
    second_is = ap event_second is.live_is ∙ second_named is.name asked

    -- they say the same, and the whole one is the history's, under the name
    same_said : SayTheSame Row WholeRow
    same_said = row_alike image laws.settled live (old.forgotten Second) (Whole before k is.name Second) (rounds_of old.aggregator Second) (is.named.rounds Second)

    row_is : WholeRow ≡ turn_renamed is.name Turned
    row_is = (λ i. round_row image (is.live_is i) (Whole before k is.name (second_is i)))
        ∙ laws.row is.name asked ((World before).rounds k (event_second asked))

    abbrev taken_whole : ℕ → RoundState
    taken_whole t = if eqb t Second then WholeRow.after else Whole before k is.name t

    abbrev taken_rounds : ℕ → RoundState
    taken_rounds t = if eqb t Second then Row.after else rounds_of old.aggregator t

    whole_next : (t : ℕ) → taken_whole t ≡ Whole Next k is.name t
    whole_next t =
        (λ i. if eqb t (second_is i) then (row_is i).after else Whole before k is.name t)
        ∙ named_where is.name (eqb t (event_second asked)) Turned.after ((World before).rounds k t)
        ∙ ap (round_renamed is.name) (sym (laws.rounds (World before) k event asked here t) ∙ ap (λ (w : WorldState). w.rounds k t) (sym (after_more image plan before event)))

    kept_where : (t : ℕ) (b : Bool) → eqb t Second ≡ b
        → IsRoundOf (old.forgotten t) (if b then WholeRow.after else Whole before k is.name t) (if b then Row.after else rounds_of old.aggregator t)
    kept_where t true same = subst (λ (u : ℕ). IsRoundOf (old.forgotten u) WholeRow.after Row.after) (sym (eqb-true t Second same))
        (row_kept image laws.settled live (old.forgotten Second) (Whole before k is.name Second) (rounds_of old.aggregator Second) (is.named.rounds Second))
    kept_where t false other = is.named.rounds t

    next_round : (t : ℕ) → IsRoundOf (old.forgotten t) (Whole Next k is.name t) (taken_rounds t)
    next_round t = subst (λ (r : RoundState). IsRoundOf (old.forgotten t) r (taken_rounds t)) (whole_next t) (kept_where t (eqb t Second) refl)

    abbrev whole_added : Option Fact
    whole_added = option_map (fact_of Second) WholeRow.fact

    next_facts : with_new (Named before k is.name) whole_added ≡ Named Next k is.name
    next_facts =
        (λ i. with_new (Named before k is.name) (option_map (fact_of (second_is i)) (row_is i).fact))
        ∙ new_named is.name (event_second asked) (Facts before k) Turned.fact
        ∙ ap (facts_named is.name) (sym (facts_asked image plan before event k (laws.seen_is before) (laws.step before event) laws.stores asked here))

    next_left : with_new (Left old.forgotten before k is.name) (fact_added image old.aggregator live) ≡ Left old.forgotten Next k is.name
    next_left =
        ap (λ (what : Option RoundFact). with_new (Left old.forgotten before k is.name) (option_map (fact_of Second) what)) same_said.fact
        ∙ left_new (is_gone old.forgotten) (Named before k is.name) whole_added
        (λ fact adds. row_adds image laws.settled live Second old.forgotten (Whole before k is.name Second) (rounds_of old.aggregator Second) (is.named.rounds Second) fact adds)
        ∙ ap (left_of (is_gone old.forgotten)) next_facts

    may_whole : MayTake (Whole before k is.name) live
    may_whole = subst (λ (e : RoundEvent). MayTake (Whole before k is.name) e) (sym is.live_is)
        (laws.may_named is.name ((World before).rounds k) asked is.named.one (laws.may before are k event asked event_is here).0)

    may_take : MayTake (rounds_of old.aggregator) live
    may_take = may_live old.forgotten (Whole before k is.name) (rounds_of old.aggregator) is.named.rounds live may_whole

    early : Second < 2 ^ 63
    early = subst (λ (n : ℕ). n < 2 ^ 63) (sym second_is) (laws.may before are k event asked event_is here).1

    abbrev one_step : RoundTurn → Step
    one_step turn = record { answer = turn.answer; fact = option_map (fact_of Second) turn.fact; sends = turn.sends }

    whole_has : HasFacts (Named Next k is.name) (Whole Next k is.name)
    whole_has = subst (λ (fs : List Fact). HasFacts fs (Whole Next k is.name)) next_facts
        (laws.same_rounds (with_new (Named before k is.name) whole_added) taken_whole (Whole Next k is.name)
        (laws.grows (Named before k is.name) (Whole before k is.name) taken_whole live (one_step WholeRow) is.named.whole may_whole early (record { after = λ t. refl; answer = refl; fact = refl; sends = refl }))
        (λ t. sym (whole_next t)))

    -- it took what it was asked
    took_named : (new : Running) (step : Step) → IsTurn (rounds_of old.aggregator) (rounds_of new.aggregator) Second Row step → IsFileOf k plan (with_new (Left old.forgotten before k is.name) step.fact) new.file
        → new.forgotten ≡ old.forgotten → IsNamed image plan Next k new is.name
    took_named new step turn file forgets =
        let same : with_new (Left old.forgotten before k is.name) step.fact ≡ Left old.forgotten Next k is.name = ap (λ (fact : Option Fact). with_new (Left old.forgotten before k is.name) fact) turn.fact ∙ next_left in
        named_of Next k is.name old.forgotten new forgets is.named.one
        (λ t. subst (λ (r : RoundState). IsRoundOf (old.forgotten t) (Whole Next k is.name t) r) (sym (turn.after t)) (next_round t))
        whole_has
        (subst (λ (fs : List Fact). HasFacts fs (rounds_of new.aggregator)) same (laws.grows (Left old.forgotten before k is.name) (rounds_of old.aggregator) (rounds_of new.aggregator) live step is.named.has may_take early turn))
        (subst (λ (fs : List Fact). IsFileOf k plan fs new.file) same file)

    -- what it answers is what the history answers, under the name
    answered_so : (answer : Answer) → answer ≡ Row.answer → answer ≡ answer_renamed is.name (happens image plan (World before) event).outcome.answer
    answered_so answer so = so ∙ same_said.answer ∙ ap (λ (turn : RoundTurn). turn.answer) row_is ∙ ap (answer_renamed is.name) (sym (event_answers image plan (World before) k event asked here))

    -- what is sent is what the history sends
    sent_so : (sends : List Send) → sends ≡ Row.sends → (World Next).wire ≡ (World before).wire ++ map (round_message plan k (event_second asked)) sends
    sent_so sends so =
        ap (λ (w : WorldState). w.wire) (after_more image plan before event)
        ∙ laws.sends (World before) k event asked here
        ∙ ap (λ (sent : List Send). (World before).wire ++ map (round_message plan k (event_second asked)) sent) (sym (so ∙ same_said.sends ∙ ap (λ (turn : RoundTurn). turn.sends) row_is))

    -- it was cut off, and its fact was stored: it is the aggregator after the event and a restart
    abbrev Behind : List Event
    Behind = Next ++ RestartAggregator k ∷ []

    taken_has : HasFacts (with_new (Left old.forgotten before k is.name) (fact_added image old.aggregator live)) taken_rounds
    taken_has = laws.grows (Left old.forgotten before k is.name) (rounds_of old.aggregator) taken_rounds live (one_step Row) is.named.has may_take early (record { after = λ t. refl; answer = refl; fact = refl; sends = refl })

    whole_back : (t : ℕ) → round_restarted (Whole Next k is.name t) ≡ Whole Behind k is.name t
    whole_back t =
        laws.restart is.name ((World Next).rounds k t)
        ∙ ap (round_renamed is.name) (sym (laws.restarted (World Next) k (RestartAggregator k) (itself k) t) ∙ ap (λ (w : WorldState). w.rounds k t) (sym (after_more image plan Next (RestartAggregator k))))

    facts_back : Named Next k is.name ≡ Named Behind k is.name
    facts_back = ap (facts_named is.name) (sym (facts_unasked image plan Next (RestartAggregator k) k (laws.seen_is Next) (laws.step Next (RestartAggregator k)) refl))

    stored_so : (new : Running) → IsFileOf k plan (with_new (Left old.forgotten before k is.name) (fact_added image old.aggregator live)) new.file → WasOpened k plan new → new.forgotten ≡ old.forgotten
        → IsAggregatorAfter image plan Behind k new
    stored_so new file opened forgets =
        let facts = with_new (Left old.forgotten before k is.name) (fact_added image old.aggregator live) in
        let of : IsOfFacts k facts new.aggregator = of_facts k facts new file opened in
        let same : facts ≡ Left old.forgotten Behind k is.name = next_left ∙ ap (left_of (is_gone old.forgotten)) facts_back in
        opened_after Behind k new is.name old.forgotten forgets is.named.one (subst (λ (fs : List Fact). IsFileOf k plan fs new.file) same file) opened
        (subst (λ (fs : List Fact). HasFacts fs (Whole Behind k is.name)) facts_back (laws.restarts (Named Next k is.name) (Whole Next k is.name) (Whole Behind k is.name) whole_has (λ t. sym (whole_back t))))
        (λ t. subst (λ (r : RoundState). IsRoundOf (old.forgotten t) r (rounds_of new.aggregator t)) (whole_back t)
        (subst (λ (r : RoundState). IsRoundOf (old.forgotten t) (round_restarted (Whole Next k is.name t)) r) (sym (laws.back k facts taken_rounds new.aggregator taken_has of t))
        (restart_kept image laws.settled (old.forgotten t) (Whole Next k is.name t) (taken_rounds t) (next_round t))))

  -- NOTHING WAS ASKED

  module _ (before : List Event) (event : Event) (k : ℕ) (old : Running) (is : IsAggregatorAfter image plan before k old) (none : round_asked_of k (World before) event ≡ None) where
    abbrev Later : List Event
    Later = before ++ event ∷ []

    pub named_still : Named before k is.name ≡ Named Later k is.name
    named_still = ap (facts_named is.name) (sym (facts_unasked image plan before event k (laws.seen_is before) (laws.step before event) none))

    pub still_after : is_restart_of_aggregator k event ≡ false → IsAggregatorAfter image plan Later k old
    still_after other =
        let still : (t : ℕ) → Whole before k is.name t ≡ Whole Later k is.name t =
        λ t. ap (round_renamed is.name) (sym (laws.still (World before) k event none other t) ∙ ap (λ (w : WorldState). w.rounds k t) (sym (after_more image plan before event))) in
        record {
          mine = is.mine;
          name = is.name;
          named = record {
            one = is.named.one;
            rounds = λ t. subst (λ (r : RoundState). IsRoundOf (old.forgotten t) r (rounds_of old.aggregator t)) (still t) (is.named.rounds t);
            whole = subst (λ (fs : List Fact). HasFacts fs (Whole Later k is.name)) named_still
                (laws.same_rounds (Named before k is.name) (Whole before k is.name) (Whole Later k is.name) is.named.whole (λ t. sym (still t)));
            has = subst (λ (fs : List Fact). HasFacts (left_of (is_gone old.forgotten) fs) (rounds_of old.aggregator)) named_still is.named.has;
            file = subst (λ (fs : List Fact). IsFileOf k plan (left_of (is_gone old.forgotten) fs) old.file) named_still is.named.file;
          };
        }

    -- a restart of the aggregator that forgot nothing
    pub whole_restarted : is_restart_of_aggregator k event ≡ true → (t : ℕ) → round_restarted (Whole before k is.name t) ≡ Whole Later k is.name t
    whole_restarted mine t = laws.restart is.name ((World before).rounds k t)
        ∙ ap (round_renamed is.name) (sym (laws.restarted (World before) k event mine t) ∙ ap (λ (w : WorldState). w.rounds k t) (sym (after_more image plan before event)))

    pub whole_has_again : is_restart_of_aggregator k event ≡ true → HasFacts (Named Later k is.name) (Whole Later k is.name)
    whole_has_again mine = subst (λ (fs : List Fact). HasFacts fs (Whole Later k is.name)) named_still
        (laws.restarts (Named before k is.name) (Whole before k is.name) (Whole Later k is.name) is.named.whole (λ t. sym (whole_restarted mine t)))

    -- it was opened again
    pub restarted_after : is_restart_of_aggregator k event ≡ true → (new : Running) → IsFileOf k plan (Left old.forgotten before k is.name) new.file → WasOpened k plan new → new.forgotten ≡ old.forgotten
        → IsAggregatorAfter image plan Later k new
    restarted_after mine new file opened forgets =
        let of = of_facts k (Left old.forgotten before k is.name) new file opened in
        opened_after Later k new is.name old.forgotten forgets is.named.one (subst (λ (fs : List Fact). IsFileOf k plan (left_of (is_gone old.forgotten) fs) new.file) named_still file) opened
        (whole_has_again mine)
        (λ t. subst (λ (r : RoundState). IsRoundOf (old.forgotten t) r (rounds_of new.aggregator t)) (whole_restarted mine t)
        (subst (λ (r : RoundState). IsRoundOf (old.forgotten t) (round_restarted (Whole before k is.name t)) r) (sym (laws.back k (Left old.forgotten before k is.name) (rounds_of old.aggregator) new.aggregator is.named.has of t))
        (restart_kept image laws.settled (old.forgotten t) (Whole before k is.name t) (rounds_of old.aggregator t) (is.named.rounds t))))

  -- IT TOOK WHAT IT WAS ASKED

  pub took_after : (before : List Event) (event : Event) (k : ℕ) (old new : Running) (asked : RoundEvent) → AreEvents plan before → IsEvent plan event → IsAggregatorAfter image plan before k old
      → round_asked_of k (World before) event ≡ Some asked → (took : TookStep image k plan asked old new)
      → (next : IsAggregatorAfter image plan (before ++ event ∷ []) k new) × (took.step.answer ≡ answer_renamed next.name (happens image plan (World before) event).outcome.answer)
  took_after before event k old new asked are event_is is here took =
      let so = asked_so before event k old asked took.live are event_is is here took.taken_as in
      let file = took.file (Left old.forgotten before k so.name) so.named.file in (
        record { mine = took.turn.me ∙ is.mine; name = so.name; named = took_named before event k old asked took.live are event_is here so new took.step took.turn.turn file took.forgets },
        answered_so before event k old asked took.live are event_is here so took.step.answer took.turn.turn.answer,
      )

  -- A PART IN AN EVENT

  pub takes_part : (before : List Event) (event : Event) (k : ℕ) (old new : Running) → AreEvents plan before → IsEvent plan event → IsAggregatorAfter image plan before k old
      → TakesPart image k plan (round_asked_of k (World before) event) (is_restart_of_aggregator k event) old new → IsAggregatorAfter image plan (before ++ event ∷ []) k new
  takes_part before event k old new are event_is is part = by (round_asked_of k (World before) event) (is_restart_of_aggregator k event) refl refl part
    where
      by : (asked : Option RoundEvent) (restarts : Bool) → round_asked_of k (World before) event ≡ asked → is_restart_of_aggregator k event ≡ restarts → TakesPart image k plan asked restarts old new
          → IsAggregatorAfter image plan (before ++ event ∷ []) k new
      by (Some asked) restarts here restart part = (took_after before event k old new asked are event_is is here part).0
      by None true here restart part =
          restarted_after before event k old is here restart new (subst (λ (l : List ℕ). IsFileOf k plan (Left old.forgotten before k is.name) l) (sym part.0) is.named.file) part.1 part.2
      by None false here restart part = subst (λ (r : Running). IsAggregatorAfter image plan (before ++ event ∷ []) k r) (sym part) (still_after before event k old is here restart)

  pub sent_after : (before : List Event) (event : Event) (k : ℕ) (old new : Running) (asked : RoundEvent) → AreEvents plan before → IsEvent plan event → IsAggregatorAfter image plan before k old
      → round_asked_of k (World before) event ≡ Some asked → (took : TookStep image k plan asked old new)
      → (World (before ++ event ∷ [])).wire ≡ (World before).wire ++ map (round_message plan k (event_second asked)) took.step.sends
  sent_after before event k old new asked are event_is is here took =
      let so = asked_so before event k old asked took.live are event_is is here took.taken_as in
      sent_so before event k old asked took.live are event_is here so took.step.sends took.turn.turn.sends

  -- CUT OFF

  module _ (before : List Event) (event : Event) (k : ℕ) (asked : RoundEvent) (here : round_asked_of k (World before) event ≡ Some asked) where
    abbrev Happens : List Event
    Happens = before ++ event ∷ []

    behind_is : Happens ++ RestartAggregator k ∷ [] ≡ before ++ event ∷ RestartAggregator k ∷ []
    behind_is = append_assoc before (event ∷ []) (RestartAggregator k ∷ [])

    pub stored_after : AreEvents plan before → IsEvent plan event → (old new : Running) → IsAggregatorAfter image plan before k old → WasCutOff image k plan asked true old new
        → IsAggregatorAfter image plan (before ++ event ∷ RestartAggregator k ∷ []) k new
    stored_after are event_is old new is cut =
        let so = asked_so before event k old asked cut.live are event_is is here cut.taken_as in
        subst (λ (events : List Event). IsAggregatorAfter image plan events k new) behind_is
        (stored_so before event k old asked cut.live are event_is here so new (cut.file (Left old.forgotten before k so.name) so.named.file) cut.opened cut.forgets)

    pub lost_after : (old new : Running) → IsAggregatorAfter image plan before k old → WasCutOff image k plan asked false old new → IsAggregatorAfter image plan (before ++ RestartAggregator k ∷ []) k new
    lost_after old new is cut = restarted_after before (RestartAggregator k) k old is refl (itself k) new (cut.file (Left old.forgotten before k is.name) is.named.file) cut.opened cut.forgets

    -- the others stand by
    pub others_stored : (i : ℕ) (running : Running) → i ≢ k → IsAggregatorAfter image plan before i running → IsAggregatorAfter image plan (before ++ event ∷ RestartAggregator k ∷ []) i running
    others_stored i running other is =
        let apart = laws.others (World before) k i event asked here other in
        subst (λ (events : List Event). IsAggregatorAfter image plan events i running) behind_is
        (still_after Happens (RestartAggregator k) i running (still_after before event i running is apart.0 apart.1) refl (another i k other))

    pub others_lost : (i : ℕ) (running : Running) → i ≢ k → IsAggregatorAfter image plan before i running → IsAggregatorAfter image plan (before ++ RestartAggregator k ∷ []) i running
    others_lost i running other is = still_after before (RestartAggregator k) i running is refl (another i k other)
