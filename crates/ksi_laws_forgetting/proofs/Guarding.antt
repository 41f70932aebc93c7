-- A core that forgets takes an event as one that forgot nothing would have taken it.
use Rattle.std.proofs.Common.{◌≡◌, ◌∙◌, ℕ, List, sym, ap, subst}
use Rattle.std.specs.Prelude.{◌==◌, if◌then◌else◌, IsTrue, option_map}
use Rattle.ksi_synod.specs.CorePlans.{CorePlanState}
use Rattle.ksi_corenode.specs.declared.event.CoreEvent.{CoreEvent}
use Rattle.ksi_corenode.specs.declared.step.Step.{Step}
use Rattle.ksi_corenode.specs.SecondState.{SecondState}
use Rattle.ksi_corenode.specs.Turns.{Turn}
use Rattle.ksi_corenode.specs.Facts.{fact_of}
use Rattle.ksi_corenode.specs.CoreState.{CoreState, state_of, IsChange, IsTurn}
use Rattle.ksi_corenode.specs.Events.{core_row, event_second}
use Rattle.ksi_corenode.specs.Bare.{is_taken}
use Rattle.ksi_laws_forgetting.specs.Forgotten.{AreForgotten, HasForgotten, SayTheSame, SaysAs, turn_of, seconds_after}
use Rattle.ksi_laws_forgetting.proofs.Unnoticed.{row_is, one_alike, all_after}

module _ (image : List ℕ → List ℕ) (whole old : CoreState) (event : CoreEvent) (has : HasForgotten whole old) (taken : IsTrue (is_taken (state_of old) event)) where
  -- the row of the core that forgot is that of its seconds, in the place of the other
  own_row : core_row image old event ≡ turn_of image whole.plan whole.start whole.me (state_of old) event
  own_row = row_is image old event
      ∙ ap (λ (plan : CorePlanState). turn_of image plan old.start old.me (state_of old) event) has.plan
      ∙ ap (λ (start : ℕ). turn_of image whole.plan start old.me (state_of old) event) has.start
      ∙ ap (λ (me : ℕ). turn_of image whole.plan whole.start me (state_of old) event) has.me

  same_rows : SayTheSame (core_row image old event) (core_row image whole event)
  same_rows = subst (λ (turn : Turn). SayTheSame turn (core_row image whole event)) (sym own_row)
      (subst (λ (turn : Turn). SayTheSame (turn_of image whole.plan whole.start whole.me (state_of old) event) turn) (sym (row_is image whole event))
      (one_alike image whole.plan whole.start whole.me (state_of whole) (state_of old) has.seconds event taken))

  pub says_as : (new : CoreState) (step : Step) → IsTurn old new (event_second event) (core_row image old event) step → SaysAs (event_second event) (core_row image whole event) step
  says_as new step is = record {
    answer = is.answer ∙ same_rows.answer;
    fact = is.fact ∙ ap (λ w. option_map (fact_of (event_second event)) w) same_rows.fact;
    sends = is.sends ∙ same_rows.sends;
  }

  -- the seconds after it
  after_is : (core : CoreState) (turn : Turn) → core_row image core event ≡ turn → (t : ℕ)
      → (if t == event_second event then (core_row image core event).after else state_of core t) ≡ (if t == event_second event then turn.after else state_of core t)
  after_is core turn same t = ap (λ (x : Turn). if t == event_second event then x.after else state_of core t) same

  pub after_as : (new left : CoreState) (step : Step) → IsTurn old left (event_second event) (core_row image old event) step → IsChange whole new (event_second event) (core_row image whole event).after → HasForgotten new left
  after_as new left step is change = record {
    me = is.me ∙ has.me ∙ sym change.me;
    plan = is.plan ∙ has.plan ∙ sym change.plan;
    start = is.start ∙ has.start ∙ sym change.start;
    seconds = subst (λ (s : ℕ → SecondState). AreForgotten s (state_of left)) (λ i t. sym (new_is t) i)
        (subst (λ (s : ℕ → SecondState). AreForgotten (seconds_after image whole.plan whole.start whole.me (state_of whole) event) s) (λ i t. sym (left_is t) i)
        (all_after image whole.plan whole.start whole.me (state_of whole) (state_of old) has.seconds event taken));
  }
    where
      new_is : (t : ℕ) → state_of new t ≡ seconds_after image whole.plan whole.start whole.me (state_of whole) event t
      new_is t = change.seconds t ∙ after_is whole (turn_of image whole.plan whole.start whole.me (state_of whole) event) (row_is image whole event) t

      left_is : (t : ℕ) → state_of left t ≡ seconds_after image whole.plan whole.start whole.me (state_of old) event t
      left_is t = is.seconds t ∙ after_is old (turn_of image whole.plan whole.start whole.me (state_of old) event) own_row t
