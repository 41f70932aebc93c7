-- Logs that agree and fit together are of one history that follows the rules.
use Rattle.std.proofs.Common.{◌≡◌, ℕ, suc, ◌<◌, ◌^◌, eqb, Bool, cond, List, [], ◌∷◌, length, refl, sym, ap, subst, ◌∙◌, eq-eqb}
use Rattle.std.proofs.lemmas.Bool.{cond_both}
use Rattle.std.specs.List.{AllByRecursion}
use Rattle.ksi_corenode.specs.declared.event.CoreEvent.{CoreEvent}
use Rattle.ksi_corenode.specs.declared.event.CoreEvent.TheVariants as core_events
use Rattle.ksi_corenode.specs.SecondState.{SecondState}
use Rattle.ksi_aggregator.specs.Renamed.{event_renamed, round_renamed}
use Rattle.ksi_aggregator.specs.Rows.{RoundState, fresh_round}
use Rattle.ksi_aggregator.specs.declared.event.RoundEvent.{RoundEvent}
use Rattle.ksi_aggregator.specs.declared.event.RoundEvent.TheVariants as round_events
use Rattle.ksi_schedule.specs.Events.{AreEvents, AskForBytes, AskForImprints, AsksForBytes, AsksForImprint, History}
use Rattle.ksi_schedule.specs.Pieces.{Text}
use Rattle.ksi_schedule.specs.Plans.{IsPlan, PlanState}
use Rattle.ksi_schedule.specs.declared.actor.Actor.{Actor}
use Rattle.ksi_schedule.specs.declared.actor.Actor.TheVariants as actors
use Rattle.ksi_schedule.specs.declared.event.Event.{Event}
use Rattle.ksi_world.specs.declared.message.Message.{Message}
use Rattle.ksi_world.specs.Histories.{WorldState, first_world, happens}
use Rattle.ksi_records.specs.Logs.{AggregatorAgrees, AggregatorStarts, AggregatorsAgree, AreGiven, AreOutcomes, AtAggregator, AtCore, CoreAgrees, CoreStarts, CoresAgree, Deed, Delivers, IsEventAtAggregator, IsEventAtCore, log_of_aggregator, log_of_core, renamed}
use Rattle.ksi_laws_records.specs.Logged.{DeedRequestsImprint, FitTogether, IsHistoryOf, RequestsImprint}
use Rattle.ksi_laws_records.proofs.Asking.{log_asks}

-- ---- what the deeds of each aggregator ask for, all of them do

all_ask : (deeds : List Deed) → ((k : ℕ) → AllByRecursion DeedRequestsImprint (log_of_aggregator k deeds)) → AllByRecursion DeedRequestsImprint deeds
all_ask [] are = tt
all_ask (AtCore j event said ∷ deeds) are = (tt, all_ask deeds are)
all_ask (CoreStarts j ∷ deeds) are = (tt, all_ask deeds are)
all_ask (AtAggregator i event said ∷ deeds) are = (
  (subst (λ (b : Bool). AllByRecursion DeedRequestsImprint (cond b (AtAggregator i event said ∷ log_of_aggregator i deeds) (log_of_aggregator i deeds))) (eq-eqb i i refl) (are i)).0,
  all_ask deeds (λ k. cond_both (eqb k i) (AtAggregator i event said ∷ log_of_aggregator k deeds) (log_of_aggregator k deeds) (λ (log : List Deed). AllByRecursion DeedRequestsImprint log → AllByRecursion DeedRequestsImprint (log_of_aggregator k deeds))
      (λ _ all. all.1) (λ _ all. all) (are k)),
)
all_ask (AggregatorStarts i ∷ deeds) are = (
  tt,
  all_ask deeds (λ k. cond_both (eqb k i) (AggregatorStarts i ∷ log_of_aggregator k deeds) (log_of_aggregator k deeds) (λ (log : List Deed). AllByRecursion DeedRequestsImprint log → AllByRecursion DeedRequestsImprint (log_of_aggregator k deeds))
      (λ _ all. all.1) (λ _ all. all) (are k)),
)

-- other numbers ask for the same
event_asks_renamed : (name : ℕ → ℕ) (event : RoundEvent) → RequestsImprint event → RequestsImprint (event_renamed name event)
event_asks_renamed name (round_events.Request number t imprint named) is = is
event_asks_renamed name (round_events.Submission from t item) is = tt
event_asks_renamed name (round_events.Close t) is = tt
event_asks_renamed name (round_events.Response t above) is = tt

renamed_ask : (name : ℕ → ℕ → ℕ) (deeds : List Deed) → AllByRecursion DeedRequestsImprint deeds → AllByRecursion DeedRequestsImprint (renamed name deeds)
renamed_ask name [] are = tt
renamed_ask name (AtCore j event said ∷ deeds) are = (tt, renamed_ask name deeds are.1)
renamed_ask name (AtAggregator k event said ∷ deeds) are = (event_asks_renamed (name k) event are.0, renamed_ask name deeds are.1)
renamed_ask name (CoreStarts j ∷ deeds) are = (tt, renamed_ask name deeds are.1)
renamed_ask name (AggregatorStarts k ∷ deeds) are = (tt, renamed_ask name deeds are.1)

as_many : (name : ℕ → ℕ → ℕ) (deeds : List Deed) → length (renamed name deeds) ≡ length deeds
as_many name [] = refl
as_many name (AtCore j event said ∷ deeds) = ap suc (as_many name deeds)
as_many name (AtAggregator k event said ∷ deeds) = ap suc (as_many name deeds)
as_many name (CoreStarts j ∷ deeds) = ap suc (as_many name deeds)
as_many name (AggregatorStarts k ∷ deeds) = ap suc (as_many name deeds)

-- ---- so do their events

abbrev Asks : Event → Type 0
Asks e = AsksForImprint e × AsksForBytes e

delivery_asks : (before : List Message) (e : Event) (m : Message) → Delivers before e m → Asks e
delivery_asks before e m (number, same, at) = subst Asks (sym same) (tt, tt)

core_event_asks : (before : List Message) (e : Event) (j : ℕ) (event : CoreEvent) → IsEventAtCore before e j event → Asks e
core_event_asks before e j (core_events.Submission from t item) is = delivery_asks before e _ is
core_event_asks before e j (core_events.Receive from t m) is = delivery_asks before e _ is
core_event_asks before e j (core_events.Seal t) is = subst Asks (sym is) (tt, tt)
core_event_asks before e j (core_events.Ballot t) is = subst Asks (sym is) (tt, tt)
core_event_asks before e j (core_events.Tell t) is = subst Asks (sym is) (tt, tt)
core_event_asks before e j (core_events.Respond t) is = subst Asks (sym is) (tt, tt)
core_event_asks before e j (core_events.Publish t) is = subst Asks (sym is) (tt, tt)

round_event_asks : (before : List Message) (e : Event) (k : ℕ) (event : RoundEvent) → IsEventAtAggregator before e k event → RequestsImprint event → Asks e
round_event_asks before e k (round_events.Request number t imprint name) is good = subst Asks (sym is) (good.0, good.1)
round_event_asks before e k (round_events.Submission from t item) is good = delivery_asks before e _ is
round_event_asks before e k (round_events.Close t) is good = subst Asks (sym is) (tt, tt)
round_event_asks before e k (round_events.Response t above) (sender, is) good = delivery_asks before e _ is

module _ (image : List ℕ → List ℕ) (plan : PlanState) where
  outcomes_ask : (w : WorldState) (deeds : List Deed) (es : List Event) → AllByRecursion DeedRequestsImprint deeds → AreOutcomes image plan w deeds es → AskForImprints es × AskForBytes es × (length es ≡ length deeds)
  outcomes_ask w [] [] good are = (tt, tt, refl)
  outcomes_ask w [] (e ∷ es) good are = absurd are
  outcomes_ask w (deed ∷ deeds) [] good are = absurd are
  outcomes_ask w (AtCore j event said ∷ deeds) (e ∷ es) good are =
      let one = core_event_asks w.wire e j event are.0.0 in
      let rest = outcomes_ask (happens image plan w e).world deeds es good.1 are.1 in
      ((one.0, rest.0), (one.1, rest.1), ap suc rest.2)
  outcomes_ask w (AtAggregator k event said ∷ deeds) (e ∷ es) good are =
      let one = round_event_asks w.wire e k event are.0.0 good.0 in
      let rest = outcomes_ask (happens image plan w e).world deeds es good.1 are.1 in
      ((one.0, rest.0), (one.1, rest.1), ap suc rest.2)
  outcomes_ask w (CoreStarts j ∷ deeds) (e ∷ es) good are =
      let one : Asks e = subst Asks (sym are.0) (tt, tt) in
      let rest = outcomes_ask (happens image plan w e).world deeds es good.1 are.1 in
      ((one.0, rest.0), (one.1, rest.1), ap suc rest.2)
  outcomes_ask w (AggregatorStarts k ∷ deeds) (e ∷ es) good are =
      let one : Asks e = subst Asks (sym are.0) (tt, tt) in
      let rest = outcomes_ask (happens image plan w e).world deeds es good.1 are.1 in
      ((one.0, rest.0), (one.1, rest.1), ap suc rest.2)

  -- ---- one history

  -- the laws of `ksi_records`
  pub record Together : Type 0 where
    pub renamed_is : (name : ℕ → ℕ → ℕ) (w : WorldState) (rounds : ℕ → ℕ → RoundState) (deeds : List Deed) → ((k t : ℕ) → w.rounds k t ≡ round_renamed (name k) (rounds k t))
        → CoresAgree image plan w.seconds deeds → AggregatorsAgree image plan rounds deeds → AreGiven plan w.wire (length w.requests) (renamed name deeds)
        → (es : List Event) × AreEvents plan es × AreOutcomes image plan w (renamed name deeds) es
    pub cores : (seconds : ℕ → ℕ → SecondState) (deeds : List Deed) → ((j : ℕ) → CoreAgrees image plan j (seconds j) (log_of_core j deeds)) → CoresAgree image plan seconds deeds
    pub aggregators : (rounds : ℕ → ℕ → RoundState) (deeds : List Deed) → ((k : ℕ) → AggregatorAgrees image plan k (rounds k) (log_of_aggregator k deeds)) → AggregatorsAgree image plan rounds deeds

  pub one_history : IsPlan plan → Together → (log_of : Actor → Text) (name : ℕ → ℕ → ℕ) (deeds : List Deed) → FitTogether image plan log_of name deeds → (history : History) × IsHistoryOf image plan (renamed name deeds) history
  unfolding first_world
  one_history is laws log_of name deeds fit =
      let cores : CoresAgree image plan (first_world plan).seconds deeds =
      laws.cores (first_world plan).seconds deeds (λ j. subst (λ (own : List Deed). CoreAgrees image plan j ((first_world plan).seconds j) own) (fit.cores j).deeds (fit.cores j).log.agrees) in
      let aggregators : AggregatorsAgree image plan (λ k t. fresh_round) deeds =
      laws.aggregators (λ k t. fresh_round) deeds (λ k. subst (λ (own : List Deed). AggregatorAgrees image plan k (λ t. fresh_round) own) (fit.aggregators k).deeds (fit.aggregators k).log.agrees) in
      let found = laws.renamed_is name (first_world plan) (λ k t. fresh_round) deeds (λ k t. refl) cores aggregators fit.given in
      let ask = renamed_ask name deeds (all_ask deeds (λ k. subst (λ (own : List Deed). AllByRecursion DeedRequestsImprint own) (fit.aggregators k).deeds
      (log_asks plan (actors.Aggregator k) (fit.aggregators k).log.entries (fit.aggregators k).log.deeds (fit.aggregators k).log.entries_are (fit.aggregators k).log.written))) in
      let asked = outcomes_ask (first_world plan) (renamed name deeds) found.0 ask found.2 in (
        record { plan = plan; events = found.0 },
        record {
          of_plan = refl;
          follows = record {
            plan = is;
            events = found.1;
            few = subst (λ n. n < 2 ^ 64) (sym (asked.2 ∙ as_many name deeds)) fit.few;
            imprints = asked.0;
            bytes = asked.1;
          };
          outcomes = found.2;
        },
      )
