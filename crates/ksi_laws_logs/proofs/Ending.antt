-- The seconds of a core in the world after the entries of all nodes.
use Rattle.std.proofs.Common.{◌≡◌, ◌≢◌, ◌∙◌, ℕ, Bool, true, false, List, [], ◌∷◌, Some, None, refl, sym, ap, subst}
use Rattle.std.specs.Prelude.{◌==◌, if◌then◌else◌}
use Rattle.std.proofs.lemmas.Bool.{cond-true, eq-eqb, eqb-true, eqb-false}
use Rattle.ksi_corenode.specs.declared.event.CoreEvent.{CoreEvent}
use Rattle.ksi_corenode.specs.declared.event.CoreEvent.TheVariants as core_events
use Rattle.ksi_corenode.specs.SecondState.{SecondState}
use Rattle.ksi_corenode.specs.Turns.{Turn}
use Rattle.ksi_corenode.specs.Events.{event_second}
use Rattle.ksi_corenode.specs.Rows.{restart_row}
use Rattle.ksi_aggregator.specs.declared.event.RoundEvent.{RoundEvent}
use Rattle.ksi_aggregator.specs.declared.event.RoundEvent.TheVariants as round_events
use Rattle.ksi_signature.specs.declared.above.Above.{Above}
use Rattle.ksi_schedule.specs.declared.actor.Actor.{Actor}
use Rattle.ksi_schedule.specs.declared.actor.Actor.TheVariants as actors
use Rattle.ksi_schedule.specs.declared.event.Event.{Event}
use Rattle.ksi_schedule.specs.declared.event.Event.TheVariants as events
use Rattle.ksi_schedule.specs.Plans.{PlanState}
use Rattle.ksi_world.specs.declared.message.Content.TheVariants as contents
use Rattle.ksi_world.specs.declared.message.Message.{Message}
use Rattle.ksi_world.specs.CoreEvents.{asked_by_content, asked_by_message, asked_of, is_restart_of, where_mine}
use Rattle.ksi_world.specs.Histories.{WorldState, after, first_world, happens, held_in, run, world_of}
use Rattle.ksi_world.specs.Nodes as world
use Rattle.ksi_records.specs.Logs.{Deed, AtAggregator, AtCore, AggregatorStarts, CoreStarts, AreOutcomes, IsEventAtAggregator, IsEventAtCore, core_after, core_turn, log_of_core, renamed}
use Rattle.ksi_laws_logs.specs.Logs.{whole_after}

-- WHAT AN EVENT ASKS OF A CORE

asks_self : (i : ℕ) (event : CoreEvent) → where_mine i i event ≡ Some event
asks_self i event = cond-true (i == i) (Some event) None (eq-eqb i i refl)

-- what the event of an entry of a core asks of it
pub asks : (before : List Message) (e : Event) (i : ℕ) (event : CoreEvent) → IsEventAtCore before e i event → asked_of i before e ≡ Some event
asks before e i (core_events.Submission from t item) is =
    ap (asked_of i before) is.1 ∙ ap (asked_by_message i) is.2 ∙ asks_self i (core_events.Submission from t item)
asks before e i (core_events.Receive from t m) is =
    ap (asked_of i before) is.1 ∙ ap (asked_by_message i) is.2 ∙ asks_self i (core_events.Receive from t m)
asks before e i (core_events.Seal t) is = ap (asked_of i before) is ∙ asks_self i (core_events.Seal t)
asks before e i (core_events.Ballot t) is = ap (asked_of i before) is ∙ asks_self i (core_events.Ballot t)
asks before e i (core_events.Tell t) is = ap (asked_of i before) is ∙ asks_self i (core_events.Tell t)
asks before e i (core_events.Respond t) is = ap (asked_of i before) is ∙ asks_self i (core_events.Respond t)
asks before e i (core_events.Publish t) is = ap (asked_of i before) is ∙ asks_self i (core_events.Publish t)

-- an event that asks nothing of core j, and does not restart it
record IsStill (j : ℕ) (before : List Message) (e : Event) : Type 0 where
  pub asked : asked_of j before e ≡ None
  pub restart : is_restart_of j e ≡ false

-- the event of an entry of an aggregator
no_response : (j : ℕ) (sender : Actor) (k t : ℕ) (above : Above) → asked_by_content j sender (actors.Aggregator k) t (contents.Response above) ≡ None
no_response j (actors.Core from) k t above = refl
no_response j (actors.Aggregator from) k t above = refl

asks_none : (j : ℕ) (before : List Message) (e : Event) (k : ℕ) (event : RoundEvent) → IsEventAtAggregator before e k event → IsStill j before e
asks_none j before e k (round_events.Request number t imprint name) is = record { asked = ap (asked_of j before) is; restart = ap (is_restart_of j) is }
asks_none j before e k (round_events.Submission from t item) is = record { asked = ap (asked_of j before) is.1 ∙ ap (asked_by_message j) is.2; restart = ap (is_restart_of j) is.1 }
asks_none j before e k (round_events.Close t) is = record { asked = ap (asked_of j before) is; restart = ap (is_restart_of j) is }
asks_none j before e k (round_events.Response t above) is = record {
  asked = ap (asked_of j before) is.1.1 ∙ ap (asked_by_message j) is.1.2 ∙ no_response j is.0 k t above;
  restart = ap (is_restart_of j) is.1.1;
}

-- THE WORLD'S SECONDS

module _ (image : List ℕ → List ℕ) (plan : PlanState)
    (seconds : (w : WorldState) (core : ℕ) (event : Event) (one : CoreEvent) → asked_of core w.wire event ≡ Some one →
    (t : ℕ) → (happens image plan w event).world.seconds core t ≡ (if t == event_second one then (world.core_turn image plan w core one).after else w.seconds core t))
    (others : (w : WorldState) (core other : ℕ) (event : Event) (one : CoreEvent) → asked_of core w.wire event ≡ Some one → other ≢ core → (asked_of other w.wire event ≡ None) × (is_restart_of other event ≡ false))
    (still : (w : WorldState) (core : ℕ) (event : Event) → asked_of core w.wire event ≡ None → is_restart_of core event ≡ false → (t : ℕ) → (happens image plan w event).world.seconds core t ≡ w.seconds core t)
    (restarted : (w : WorldState) (core : ℕ) (event : Event) → is_restart_of core event ≡ true → (t : ℕ) → (happens image plan w event).world.seconds core t ≡ restart_row (w.seconds core t)) where
  turn_same : (w : WorldState) (j : ℕ) (event : CoreEvent) → world.core_turn image plan w j event ≡ core_turn image plan j (w.seconds j) event
  turn_same w j (core_events.Submission from t item) = refl
  turn_same w j (core_events.Seal t) = refl
  turn_same w j (core_events.Ballot t) = refl
  turn_same w j (core_events.Receive from t m) = refl
  turn_same w j (core_events.Tell t) = refl
  turn_same w j (core_events.Respond t) = refl
  turn_same w j (core_events.Publish t) = refl

  took : (w : WorldState) (j : ℕ) (e : Event) (event : CoreEvent) → IsEventAtCore w.wire e j event → (happens image plan w e).world.seconds j ≡ core_after image plan j (w.seconds j) event
  took w j e event is = λ i t. (seconds w j e event (asks w.wire e j event is) t ∙ ap (λ (turn : Turn). if t == event_second event then turn.after else w.seconds j t) (turn_same w j event)) i

  stays : (w : WorldState) (j : ℕ) (e : Event) → IsStill j w.wire e → (happens image plan w e).world.seconds j ≡ w.seconds j
  stays w j e is = λ i t. still w j e is.asked is.restart t i

  -- an entry of core i, seen by core j
  of_core : (w : WorldState) (j i : ℕ) (e : Event) (event : CoreEvent) → IsEventAtCore w.wire e i event
      → (happens image plan w e).world.seconds j ≡ (if j == i then core_after image plan j (w.seconds j) event else w.seconds j)
  of_core w j i e event is = by (j == i) refl
    where
      by : (b : Bool) → (j == i) ≡ b → (happens image plan w e).world.seconds j ≡ (if b then core_after image plan j (w.seconds j) event else w.seconds j)
      by true same = took w j e event (subst (λ (n : ℕ). IsEventAtCore w.wire e n event) (sym (eqb-true j i same)) is)
      by false apart =
          let other = others w i j e event (asks w.wire e i event is) (eqb-false j i apart) in
          stays w j e (record { asked = other.0; restart = other.1 })

  of_start : (w : WorldState) (j i : ℕ) (e : Event) → e ≡ events.RestartCore i
      → (happens image plan w e).world.seconds j ≡ (if j == i then (λ (t : ℕ). restart_row (w.seconds j t)) else w.seconds j)
  of_start w j i e is = by (j == i) refl
    where
      by : (b : Bool) → (j == i) ≡ b → (happens image plan w e).world.seconds j ≡ (if b then (λ (t : ℕ). restart_row (w.seconds j t)) else w.seconds j)
      by true same = λ k t. restarted w j e (ap (is_restart_of j) is ∙ same) t k
      by false apart = stays w j e (record { asked = ap (asked_of j w.wire) is; restart = ap (is_restart_of j) is ∙ apart })

  pub world_ends : (deeds : List Deed) (w : WorldState) (es : List Event) (j : ℕ) → AreOutcomes image plan w deeds es → (run image plan w es).seconds j ≡ whole_after image plan j (w.seconds j) deeds
  world_ends [] w [] j are = refl
  world_ends [] w (e ∷ es) j are = absurd are
  world_ends (deed ∷ deeds) w [] j are = absurd are
  world_ends (AtCore i event said ∷ deeds) w (e ∷ es) j are =
      world_ends deeds (happens image plan w e).world es j are.1
      ∙ ap (λ (s : ℕ → SecondState). whole_after image plan j s deeds) (of_core w j i e event are.0.0)
  world_ends (AtAggregator k event said ∷ deeds) w (e ∷ es) j are =
      world_ends deeds (happens image plan w e).world es j are.1
      ∙ ap (λ (s : ℕ → SecondState). whole_after image plan j s deeds) (stays w j e (asks_none j w.wire e k event are.0.0))
  world_ends (CoreStarts i ∷ deeds) w (e ∷ es) j are =
      world_ends deeds (happens image plan w e).world es j are.1
      ∙ ap (λ (s : ℕ → SecondState). whole_after image plan j s deeds) (of_start w j i e are.0)
  world_ends (AggregatorStarts k ∷ deeds) w (e ∷ es) j are =
      world_ends deeds (happens image plan w e).world es j are.1
      ∙ ap (λ (s : ℕ → SecondState). whole_after image plan j s deeds) (stays w j e (record { asked = ap (asked_of j w.wire) are.0; restart = ap (is_restart_of j) are.0 }))

-- other numbers of requests are nothing to a core
pub renamed_ends : (image : List ℕ → List ℕ) (plan : PlanState) (name : ℕ → ℕ → ℕ) (j : ℕ) (deeds : List Deed) (s : ℕ → SecondState) → whole_after image plan j s (renamed name deeds) ≡ whole_after image plan j s deeds
renamed_ends image plan name j [] s = refl
renamed_ends image plan name j (AtCore i event said ∷ deeds) s = renamed_ends image plan name j deeds (if j == i then core_after image plan j s event else s)
renamed_ends image plan name j (AtAggregator k event said ∷ deeds) s = renamed_ends image plan name j deeds s
renamed_ends image plan name j (CoreStarts i ∷ deeds) s = renamed_ends image plan name j deeds (if j == i then (λ (t : ℕ). restart_row (s t)) else s)
renamed_ends image plan name j (AggregatorStarts k ∷ deeds) s = renamed_ends image plan name j deeds s

-- a core passes over the entries of other nodes
pub own_deeds : (image : List ℕ → List ℕ) (plan : PlanState) (j : ℕ) (deeds : List Deed) (s : ℕ → SecondState) → whole_after image plan j s deeds ≡ whole_after image plan j s (log_of_core j deeds)
own_deeds image plan j [] s = refl
own_deeds image plan j (AtCore i event said ∷ deeds) s = by (j == i) refl (λ x. own_deeds image plan j deeds x)
  where
    by : (b : Bool) → (j == i) ≡ b → ((x : ℕ → SecondState) → whole_after image plan j x deeds ≡ whole_after image plan j x (log_of_core j deeds))
        → whole_after image plan j (if b then core_after image plan j s event else s) deeds ≡ whole_after image plan j s (if b then AtCore i event said ∷ log_of_core j deeds else log_of_core j deeds)
    by true same rest = rest (core_after image plan j s event) ∙ ap (λ (c : Bool). whole_after image plan j (if c then core_after image plan j s event else s) (log_of_core j deeds)) (sym same)
    by false apart rest = rest s
own_deeds image plan j (AtAggregator k event said ∷ deeds) s = own_deeds image plan j deeds s
own_deeds image plan j (CoreStarts i ∷ deeds) s = by (j == i) refl (λ x. own_deeds image plan j deeds x)
  where
    by : (b : Bool) → (j == i) ≡ b → ((x : ℕ → SecondState) → whole_after image plan j x deeds ≡ whole_after image plan j x (log_of_core j deeds))
        → whole_after image plan j (if b then (λ (t : ℕ). restart_row (s t)) else s) deeds ≡ whole_after image plan j s (if b then CoreStarts i ∷ log_of_core j deeds else log_of_core j deeds)
    by true same rest = rest (λ t. restart_row (s t)) ∙ ap (λ (c : Bool). whole_after image plan j (if c then (λ (t : ℕ). restart_row (s t)) else s) (log_of_core j deeds)) (sym same)
    by false apart rest = rest s
own_deeds image plan j (AggregatorStarts k ∷ deeds) s = own_deeds image plan j deeds s

-- the world of a history is what its events make of the first one
pub world_after : (image : List ℕ → List ℕ) (plan : PlanState) (es : List Event) (j t : ℕ) → held_in (world_of image (record { plan = plan; events = es })) j t ≡ held_in (run image plan (first_world plan) es) j t
unfolding after
world_after image plan es j t = refl
