-- A core that no event asks about a second casts no vote on it.
use Rattle.std.proofs.Common.{◌≡◌, ℕ, eqb, Bool, true, false, if◌then◌else◌, List, [], ◌∷◌, ◌++◌, refl, sym, ap, ◌∙◌, Option, Some, None}
use Rattle.std.specs.Prelude.{◌≢◌}
use Rattle.std.proofs.lemmas.Bool.{ne_eqb}
use Rattle.ksi_corenode.specs.SecondState.{SecondState}
use Rattle.ksi_corenode.specs.declared.event.CoreEvent.{CoreEvent}
use Rattle.ksi_corenode.specs.Events.{event_second}
use Rattle.ksi_corenode.specs.Rows.{restart_row}
use Rattle.ksi_schedule.specs.declared.event.Event.{Event}
use Rattle.ksi_schedule.specs.Plans.{PlanState}
use Rattle.ksi_world.specs.CoreEvents.{asked_of, is_restart_of}
use Rattle.ksi_world.specs.Histories.{WorldState, happens, first_world, run, after}
use Rattle.ksi_world.specs.Nodes.{core_turn}
use Rattle.ksi_world.proofs.Growing.{run_both}
use Rattle.ksi_laws_succession.specs.Retired.{IsUnasked}

-- the law on the seconds of cores, for one plan
pub record SecondsTurn (image : List ℕ → List ℕ) (plan : PlanState) : Type 0 where
  pub seconds : (w : WorldState) (core : ℕ) (event : Event) (one : CoreEvent) → asked_of core w.wire event ≡ Some one → (t : ℕ) → (happens image plan w event).world.seconds core t ≡ (if eqb t (event_second one) then (core_turn image plan w core one).after else w.seconds core t)
  pub still : (w : WorldState) (core : ℕ) (event : Event) → asked_of core w.wire event ≡ None → is_restart_of core event ≡ false → (t : ℕ) → (happens image plan w event).world.seconds core t ≡ w.seconds core t
  pub restarted : (w : WorldState) (core : ℕ) (event : Event) → is_restart_of core event ≡ true → (t : ℕ) → (happens image plan w event).world.seconds core t ≡ restart_row (w.seconds core t)

module _ (image : List ℕ → List ℕ) (plan : PlanState) (law : SecondsTurn image plan) (j t : ℕ) where
  -- the core cast no vote on the second
  abbrev pub CastNone : WorldState → Type 0
  CastNone w = (w.seconds j t).vote.vote ≡ None

  elsewhere : (u : ℕ) (new old : SecondState) → u ≢ t → (if eqb t u then new else old) ≡ old
  elsewhere u new old other = ap (λ (b : Bool). if b then new else old) (ne_eqb t u (λ same. other (sym same)))

  step_none : (w : WorldState) (e : Event) → ((one : CoreEvent) → asked_of j w.wire e ≡ Some one → event_second one ≢ t) → CastNone w → CastNone (happens image plan w e).world
  step_none w e apart none = by (asked_of j w.wire e) refl
    where
      quiet : (b : Bool) → is_restart_of j e ≡ b → asked_of j w.wire e ≡ None → CastNone (happens image plan w e).world
      quiet true restarts is = ap (λ (s : SecondState). s.vote.vote) (law.restarted w j e restarts t) ∙ none
      quiet false other is = ap (λ (s : SecondState). s.vote.vote) (law.still w j e is other t) ∙ none

      by : (o : Option CoreEvent) → asked_of j w.wire e ≡ o → CastNone (happens image plan w e).world
      by None is = quiet (is_restart_of j e) refl is
      by (Some one) is = ap (λ (s : SecondState). s.vote.vote) (law.seconds w j e one is t ∙ elsewhere (event_second one) (core_turn image plan w j one).after (w.seconds j t) (apart one is)) ∙ none

  -- none of the events asks it about the second, from this world on
  abbrev Unasked : WorldState → List Event → Type 0
  Unasked w es = (first rest : List Event) (event : Event) (asked : CoreEvent) → es ≡ first ++ event ∷ rest → asked_of j (run image plan w first).wire event ≡ Some asked → event_second asked ≢ t

  run_none : (es : List Event) (w : WorldState) → Unasked w es → CastNone w → CastNone (run image plan w es)
  run_none [] w unasked none = none
  run_none (e ∷ es) w unasked none =
      run_none es (happens image plan w e).world (λ first rest event asked is at. unasked (e ∷ first) rest event asked (ap (λ (l : List Event). e ∷ l) is) at)
      (step_none w e (λ one is. unasked [] es e one refl is) none)

  -- it cast none by a moment, and is not asked about it later
  pub still_none : (before later : List Event) → IsUnasked image plan before later j t → CastNone (after image plan before) → CastNone (after image plan (before ++ later))
  unfolding after
  still_none before later unasked none =
      ap (λ (w : WorldState). (w.seconds j t).vote.vote) (run_both image plan before later (first_world plan))
      ∙ run_none later (run image plan (first_world plan) before) (λ first rest event asked is at. unasked first rest event asked is (ap (λ (w : WorldState). asked_of j w.wire event) (run_both image plan before first (first_world plan)) ∙ at)) none
