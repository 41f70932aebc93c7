-- The nodes after a turn are those of the world after it.
use Rattle.ksi_schedule.specs.Plans.{core_plan_of}
use Rattle.std.proofs.Common.{◌≡◌, ℕ, zero, suc, ◌^◌, ◌<◌, ◌≤◌, cond, ◌&&◌, eqb, append-nil, List, [], ◌∷◌, ◌++◌, length, refl, sym, ap, subst, ◌∙◌, arith, inl, inr, Option, Some, length-set}
use Rattle.std.specs.Prelude.{slice_get, map, OnErr, Result, Ok, Err}
use Rattle.std.proofs.lemmas.Bool.{cond_both, cond-true, cond-false, eq-eqb, eqb-true, ne_eqb, and_parts}
use Rattle.ksi_corenode.specs.SecondState.{SecondState}
use Rattle.ksi_corenode.specs.Turns.{Turn, still}
use Rattle.ksi_calendar.specs.Covered.{Roots}
use Rattle.ksi_corenode.specs.Rows.{submission_row, seal_row, ballot_row, tell_row, receive_row, respond_row, publish_answer}
use Rattle.ksi_corenode.specs.declared.event.CoreEvent.{CoreEvent}
use Rattle.ksi_corenode.specs.declared.event.CoreEvent.TheVariants as events
use Rattle.ksi_corenode.specs.Events.{core_row, MayTake}
use Rattle.ksi_synod.specs.CorePlans.{IsCorePlan}
use Rattle.ksi_schedule.specs.declared.event.Event.{Event}
use Rattle.ksi_corenode.specs.CoreState.{CoreState, state_of, held_by}
use Rattle.ksi_aggregator.specs.Rows.{RoundState, RoundTurn, round_request}
use Rattle.ksi_aggregator.specs.Rounds.{AggregatorState, rounds_of}
use Rattle.ksi_synod.specs.declared.messages.SynodMessage.{SynodMessage}
use Rattle.ksi_world.specs.declared.outcome.Asked.{Asked}
use Rattle.ksi_world.specs.declared.outcome.Outcome.{Outcome}
use Rattle.ksi_world.specs.declared.message.Message.{Message}
use Rattle.ksi_schedule.specs.Plans.{PlanState, IsPlan, InRange}
use Rattle.ksi_world.specs.Histories.{WorldState, put_at, core_message, round_message, outcome_of, at_core, at_round, held_in, asked_with, request_happens, published_with, publish_happens}
use Rattle.ksi_schedule.specs.Events.{IsEvent}
use Rattle.ksi_world.specs.Nodes.{NodesState, IsCore, AreCores, IsAggregator, AreAggregators, Fits, CoreStep, RoundStep, CoreRestart, RoundRestart, CoresStay, AggregatorsStay, EachCore, core_turn, IsReady, IsReadyCore}
use Rattle.ksi_world.proofs.Turning.{get_set, cores_turned}
use Rattle.ksi_world.proofs.RoundTurning.{aggregators_turned}

abbrev pub nodes_of : List CoreState → List AggregatorState → List Message → List Asked → List (ℕ × List ℕ) → NodesState
nodes_of cores aggregators wire requests published = record { cores = cores; aggregators = aggregators; wire = wire; requests = requests; published = published }

pub same_function : {A B : Type 0} (f g : A → B) → ((x : A) → f x ≡ g x) → f ≡ g
same_function f g same = λ i x. same x i

-- what is put where it was
put_still : {A : Type 0} (f : ℕ → ℕ → A) (j t i u : ℕ) → put_at f j t (f j t) i u ≡ f i u
put_still f j t i u = cond_both (eqb i j && eqb u t) (f j t) (f i u) (λ x. x ≡ f i u)
    (λ both. let same = and_parts (eqb i j) (eqb u t) both in ap (λ i. f i t) (sym (eqb-true i j same.0)) ∙ ap (λ u. f i u) (sym (eqb-true u t same.1))) (λ _. refl)

-- two facts at an error
pub both_errors : {A B : Type 0} (P Q : Type 0) (r : Result A B) → OnErr r P → OnErr r Q → OnErr r (P × Q)
both_errors P Q (Ok x) p q = tt
both_errors P Q (Err e) p q = (p, q)

-- THE ROWS OF A CORE are those of its second in the world

module _ (plan : PlanState) (w : WorldState) (j : ℕ) (core : CoreState) (is : IsCore plan (w.seconds j) j core) (t : ℕ) where
  ballot_same : ballot_row core.plan t core.me (state_of core t) ≡ ballot_row (core_plan_of plan) t j (w.seconds j t)
  ballot_same = ap (λ n. ballot_row n t core.me (state_of core t)) is.core_plan ∙ ap (λ me. ballot_row (core_plan_of plan) t me (state_of core t)) is.me ∙ ap (λ s. ballot_row (core_plan_of plan) t j s) (is.keeps t)

  tell_same : tell_row core.plan t core.me (state_of core t) ≡ tell_row (core_plan_of plan) t j (w.seconds j t)
  tell_same = ap (λ n. tell_row n t core.me (state_of core t)) is.core_plan ∙ ap (λ me. tell_row (core_plan_of plan) t me (state_of core t)) is.me ∙ ap (λ s. tell_row (core_plan_of plan) t j s) (is.keeps t)

  receive_same : (from : ℕ) (m : SynodMessage) → receive_row core.plan t from m (state_of core t) ≡ receive_row (core_plan_of plan) t from m (w.seconds j t)
  receive_same from m = ap (λ n. receive_row n t from m (state_of core t)) is.core_plan ∙ ap (λ s. receive_row (core_plan_of plan) t from m s) (is.keeps t)

  held_same : held_by core ≡ held_in w j
  held_same = same_function (held_by core) (held_in w j) (λ u. ap (λ (s : SecondState). s.vote.held) (is.keeps u))

  respond_same : (image : List ℕ → List ℕ) → respond_row image (held_by core) core.start t (state_of core t) ≡ respond_row image (held_in w j) plan.start t (w.seconds j t)
  respond_same image = ap (λ (held : Roots). respond_row image held core.start t (state_of core t)) held_same ∙ ap (λ start. respond_row image (held_in w j) start t (state_of core t)) is.start ∙ ap (λ s. respond_row image (held_in w j) plan.start t s) (is.keeps t)

  publish_same : (image : List ℕ → List ℕ) → publish_answer image (held_by core) core.start t ≡ publish_answer image (held_in w j) plan.start t
  publish_same image = ap (λ (held : Roots). publish_answer image held core.start t) held_same ∙ ap (λ start. publish_answer image (held_in w j) start t) is.start

pub core_turn_is : (plan : PlanState) (w : WorldState) (j : ℕ) (core : CoreState) → IsCore plan (w.seconds j) j core → (image : List ℕ → List ℕ) (event : CoreEvent) → core_row image core event ≡ core_turn image plan w j event
core_turn_is plan w j core is image (events.Submission from t item) = ap (submission_row from item) (is.keeps t)
core_turn_is plan w j core is image (events.Seal t) = ap (seal_row image) (is.keeps t)
core_turn_is plan w j core is image (events.Ballot t) = ballot_same plan w j core is t
core_turn_is plan w j core is image (events.Receive from t m) = receive_same plan w j core is t from m
core_turn_is plan w j core is image (events.Tell t) = tell_same plan w j core is t
core_turn_is plan w j core is image (events.Respond t) = respond_same plan w j core is t image
core_turn_is plan w j core is image (events.Publish t) = ap (λ s. still s (publish_answer image (held_by core) core.start t)) (is.keeps t) ∙ ap (λ a. still (w.seconds j t) a) (publish_same plan w j core is t image)

module _ (plan : PlanState) (w : WorldState) (cores cores' : List CoreState) (aggregators aggregators' : List AggregatorState) (wire wire' : List Message) (requests requests' : List Asked) (published published' : List (ℕ × List ℕ)) (fits : Fits plan w (nodes_of cores aggregators wire requests published)) where
  -- a turn of a core
  pub core_fits : (row : CoreState → Turn) (j t : ℕ) (outcome : Outcome) (turn : Turn) (step : CoreStep row j t cores cores' wire wire' outcome) → row step.old ≡ turn →
      Fits plan (at_core w j t turn).world (nodes_of cores' aggregators wire' requests published) × (outcome ≡ (at_core w j t turn).outcome)
  core_fits row j t outcome turn step same = (
    record {
      cores = cores_turned plan w.seconds row j t cores cores' wire wire' outcome turn step same fits.cores;
      aggregators = record { many = fits.aggregators.many; each = fits.aggregators.each };
      wire = step.posted ∙ ap (λ xs. xs ++ map (core_message j t) (row step.old).sends) fits.wire ∙ ap (λ (z : Turn). w.wire ++ map (core_message j t) z.sends) same;
      requests = fits.requests;
      published = fits.published;
    },
    step.told ∙ ap (λ (z : Turn). outcome_of z.answer (length z.sends)) same,
  )

  pub core_stands : CoresStay cores cores' → wire' ≡ wire → Fits plan w (nodes_of cores' aggregators wire' requests published)
  core_stands stay same = record { cores = stay plan w.seconds fits.cores; aggregators = fits.aggregators; wire = same ∙ fits.wire; requests = fits.requests; published = fits.published }

  -- a turn of an aggregator
  pub round_fits : (row : RoundState → RoundTurn) (k t : ℕ) (outcome : Outcome) → (step : RoundStep row plan k t aggregators aggregators' wire wire' outcome) →
      Fits plan (at_round plan w k t (row (w.rounds k t))).world (nodes_of cores aggregators' wire' requests published) × (outcome ≡ (at_round plan w k t (row (w.rounds k t))).outcome)
  round_fits row k t outcome step =
      let same = ap row ((fits.aggregators.each k step.old step.at).keeps t) in (
        record {
          cores = record { many = fits.cores.many; each = fits.cores.each };
          aggregators = aggregators_turned plan w.rounds row k t aggregators aggregators' wire wire' outcome step fits.aggregators;
          wire = step.posted ∙ ap (λ xs. xs ++ map (round_message plan k t) (row (rounds_of step.old t)).sends) fits.wire ∙ ap (λ (z : RoundTurn). w.wire ++ map (round_message plan k t) z.sends) same;
          requests = fits.requests;
          published = fits.published;
        },
        step.told ∙ ap (λ (z : RoundTurn). outcome_of z.answer (length z.sends)) same,
      )

  pub round_stands : AggregatorsStay aggregators aggregators' → wire' ≡ wire → Fits plan w (nodes_of cores aggregators' wire' requests published)
  round_stands stay same = record { cores = fits.cores; aggregators = stay plan w.rounds fits.aggregators; wire = same ∙ fits.wire; requests = fits.requests; published = fits.published }

  -- a restart
  pub core_restarts_fits : (row : SecondState → SecondState) (j : ℕ) → CoreRestart row j cores cores' → AreCores plan (λ i t. cond (eqb i j) (row (w.seconds i t)) (w.seconds i t)) cores'
  core_restarts_fits row j step = subst (λ xs. AreCores plan after xs) (sym step.after) (record {
    many = length-set cores j step.new ∙ fits.cores.many;
    each = λ k c here. elim (get_set cores j k step.new c here) [
      | inl is ↦ subst (λ c. IsCore plan (after k) k c) (sym is.1) (subst (λ k. IsCore plan (after k) k step.new) (sym is.0) new_core)
      | inr other ↦ let is = fits.cores.each k c other.1 in record { me = is.me; core_plan = is.core_plan; start = is.start; keeps = λ u. is.keeps u ∙ sym (cond-false (eqb k j) (row (w.seconds k u)) (w.seconds k u) (ne_eqb k j other.0)) }
    ];
  })
    where
      after : ℕ → ℕ → SecondState
      after i t = cond (eqb i j) (row (w.seconds i t)) (w.seconds i t)

      old_core : IsCore plan (w.seconds j) j step.old
      old_core = fits.cores.each j step.old step.at

      new_core : IsCore plan (after j) j step.new
      new_core = record {
        me = step.me ∙ old_core.me;
        core_plan = step.plan ∙ old_core.core_plan;
        start = step.start ∙ old_core.start;
        keeps = λ u. step.seconds u ∙ ap row (old_core.keeps u) ∙ sym (cond-true (eqb j j) (row (w.seconds j u)) (w.seconds j u) (eq-eqb j j refl));
      }

  pub round_restarts_fits : (row : RoundState → RoundState) (k : ℕ) → RoundRestart row k aggregators aggregators' → AreAggregators plan (λ i t. cond (eqb i k) (row (w.rounds i t)) (w.rounds i t)) aggregators'
  round_restarts_fits row k step = subst (λ xs. AreAggregators plan after xs) (sym step.after) (record {
    many = length-set aggregators k step.new ∙ fits.aggregators.many;
    each = λ i a here. elim (get_set aggregators k i step.new a here) [
      | inl is ↦ subst (λ a. IsAggregator (after i) i a) (sym is.1) (subst (λ i. IsAggregator (after i) i step.new) (sym is.0) new_one)
      | inr other ↦ let is = fits.aggregators.each i a other.1 in record { me = is.me; keeps = λ u. is.keeps u ∙ sym (cond-false (eqb i k) (row (w.rounds i u)) (w.rounds i u) (ne_eqb i k other.0)) }
    ];
  })
    where
      after : ℕ → ℕ → RoundState
      after i t = cond (eqb i k) (row (w.rounds i t)) (w.rounds i t)

      old_one : IsAggregator (w.rounds k) k step.old
      old_one = fits.aggregators.each k step.old step.at

      new_one : IsAggregator (after k) k step.new
      new_one = record {
        me = step.me ∙ old_one.me;
        keeps = λ u. step.rounds u ∙ ap row (old_one.keeps u) ∙ sym (cond-true (eqb k k) (row (w.rounds k u)) (w.rounds k u) (eq-eqb k k refl));
      }

  -- a request
  pub request_fits : (number k t : ℕ) (imprint : List ℕ) (name : Option (List ℕ)) (outcome : Outcome) → number ≡ length w.requests → RoundStep (round_request number imprint name) plan k t aggregators aggregators' wire wire' outcome →
      requests' ≡ asked_with requests (record { aggregator = k; second = t; imprint = imprint }) outcome.answer →
      Fits plan (request_happens plan w k t imprint name).world (nodes_of cores aggregators' wire' requests' published) × (outcome ≡ (request_happens plan w k t imprint name).outcome)
  request_fits number k t imprint name outcome same step accepted =
      let new : Asked = record { aggregator = k; second = t; imprint = imprint } in
      let r = round_fits (round_request (length w.requests) imprint name) k t outcome (subst (λ n. RoundStep (round_request n imprint name) plan k t aggregators aggregators' wire wire' outcome) same step) in (
        record {
          cores = record { many = r.0.cores.many; each = r.0.cores.each };
          aggregators = record { many = r.0.aggregators.many; each = r.0.aggregators.each };
          wire = r.0.wire;
          requests = accepted ∙ ap (λ rs. asked_with rs new outcome.answer) fits.requests ∙ ap (λ (o : Outcome). asked_with w.requests new o.answer) r.1;
          published = r.0.published;
        },
        r.1,
      )

  -- a second that is to be published: the cores stay as they were, and nothing is sent
  pub publish_stands : (image : List ℕ → List ℕ) (j p : ℕ) (outcome : Outcome) → CoreStep (λ core. core_row image core (events.Publish p)) j p cores cores' wire wire' outcome →
      Fits plan w (nodes_of cores' aggregators wire' requests published) × (outcome ≡ (publish_happens w p (publish_answer image (held_in w j) plan.start p)).outcome)
  publish_stands image j p outcome step =
      let is = fits.cores.each j step.old step.at in
      let r = core_fits (λ core. core_row image core (events.Publish p)) j p outcome (core_turn image plan w j (events.Publish p)) step (core_turn_is plan w j step.old is image (events.Publish p)) in (
        record {
          cores = record { many = r.0.cores.many; each = λ k core at. let here = r.0.cores.each k core at in record { me = here.me; core_plan = here.core_plan; start = here.start; keeps = λ t. here.keeps t ∙ put_still w.seconds j p k t } };
          aggregators = record { many = r.0.aggregators.many; each = r.0.aggregators.each };
          wire = r.0.wire ∙ append-nil w.wire;
          requests = r.0.requests;
          published = r.0.published;
        },
        r.1,
      )

  pub publish_fits : (image : List ℕ → List ℕ) (j p : ℕ) (outcome : Outcome) → CoreStep (λ core. core_row image core (events.Publish p)) j p cores cores' wire wire' outcome → published' ≡ published_with published p outcome.answer →
      Fits plan (publish_happens w p (publish_answer image (held_in w j) plan.start p)).world (nodes_of cores' aggregators wire' requests published') × (outcome ≡ (publish_happens w p (publish_answer image (held_in w j) plan.start p)).outcome)
  publish_fits image j p outcome step put =
      let r = publish_stands image j p outcome step in (
        record {
          cores = record { many = r.0.cores.many; each = r.0.cores.each };
          aggregators = record { many = r.0.aggregators.many; each = r.0.aggregators.each };
          wire = r.0.wire;
          requests = r.0.requests;
          published = put ∙ ap (λ xs. published_with xs p outcome.answer) fits.published ∙ ap (λ (o : Outcome). published_with w.published p o.answer) r.1;
        },
        r.1,
      )

-- an element below the length is there
pub get_there : {A : Type 0} (xs : List A) (i : ℕ) → i < length xs → (x : A) × (slice_get xs i ≡ Some x)
get_there [] i lt = absurd (omega (arith, lt))
get_there (x ∷ xs) zero lt = (x, refl)
get_there (x ∷ xs) (suc i) lt = get_there xs i (omega (arith, lt))

-- WHAT A CORE MAY TAKE

pub plans_are : (plan : PlanState) (w : WorldState) (cores : List CoreState) → IsPlan plan → AreCores plan w.seconds cores → EachCore (λ core. IsCorePlan core.plan) cores
plans_are plan w cores is are j core at = subst (λ p. IsCorePlan p) (sym (are.each j core at).core_plan) is.core_plan

-- a second of the plan may be asked for
pub asked_for : (plan : PlanState) (t : ℕ) → IsPlan plan → InRange plan t → (core : CoreState) → core.start ≡ plan.start → (core.start ≤ t) × (t < 2 ^ 63)
asked_for plan t is range core start = (omega (arith, start, range.0), omega (arith, range.1, is.core_plan.early))

-- an event of a core that may happen is one that it may take
pub ready_core : (plan : PlanState) (event e : Event) (j t : ℕ) (came : CoreEvent) (nodes : NodesState) → IsReady plan event nodes → event ≡ e → (IsEvent plan e → (j < plan.cores) × InRange plan t) →
    (IsPlan plan → InRange plan t → (core : CoreState) → core.start ≡ plan.start → MayTake core came) → IsReadyCore plan j came nodes
ready_core plan event e j t came nodes ready is of may =
    let at = of (subst (λ (e : Event). IsEvent plan e) is ready.event_is) in
    record { world = ready.world; plan_is = ready.plan_is; fits = ready.fits; there = at.0; may = may ready.plan_is at.1 }
