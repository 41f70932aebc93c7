-- A core that forgot seconds, compared with one that forgot none.
use Rattle.std.specs.Prelude.{◌≡◌, ◌⊎◌, ℕ, ◌==◌, Bool, true, false, if◌then◌else◌, IsTrue, List, [], ◌∷◌, Some, None, option_map}
use Rattle.ksi_synod.specs.CorePlans.{CorePlanState}
use Rattle.ksi_corenode.specs.declared.event.CoreEvent.{CoreEvent}
use Rattle.ksi_corenode.specs.declared.event.CoreEvent.TheVariants as events
use Rattle.ksi_corenode.specs.SecondState.{SecondState}
use Rattle.ksi_corenode.specs.Turns.{Turn, still}
use Rattle.ksi_corenode.specs.declared.step.Step.{Step}
use Rattle.ksi_corenode.specs.Facts.{fact_of}
use Rattle.ksi_corenode.specs.CoreState.{CoreState, state_of}
use Rattle.ksi_corenode.specs.Events.{event_second}
use Rattle.ksi_corenode.specs.Rows.{submission_row, seal_row, ballot_row, receive_row, tell_row, respond_row, publish_answer}
use Rattle.ksi_corenode.specs.Bare.{is_taken}

-- a bare second: as if only the message with its root had come
abbrev pub bare_second : (me : ℕ) → (voters : List ℕ) → (root : List ℕ) → SecondState
bare_second me voters root = record {
  vote = record { me = me; voters = voters; candidate = None; tried = 0; promised = 0; vote = None; held = Some root; hand = None };
  open_items = [];
  sealed = None;
}

-- the second was held, and only its root is left
pub record IsGone (whole forgot : SecondState) : Type 0 where
  pub root : List ℕ
  pub held : whole.vote.held ≡ Some root
  pub left : forgot ≡ bare_second whole.vote.me whole.vote.voters root

-- each second is the same, or forgotten (gone)
abbrev pub AreForgotten : (seconds forgot : ℕ → SecondState) → Type 0
AreForgotten seconds forgot = (t : ℕ) → (forgot t ≡ seconds t) ⊎ IsGone (seconds t) (forgot t)

-- a second is gone if it is forgotten, and else the same
abbrev pub IsSecondOf : (is_forgotten : Bool) → (whole forgot : SecondState) → Type 0
IsSecondOf false whole forgot = forgot ≡ whole
IsSecondOf true whole forgot = IsGone whole forgot

-- exactly these seconds are forgotten
abbrev pub AreForgottenAt : (forgotten : ℕ → Bool) → (seconds forgot : ℕ → SecondState) → Type 0
AreForgottenAt forgotten seconds forgot = (t : ℕ) → IsSecondOf (forgotten t) (seconds t) (forgot t)

-- the event is taken by the rule of cores that forget, or its second is not forgotten
abbrev pub MayReach : (forgotten : ℕ → Bool) → (forgot : ℕ → SecondState) → CoreEvent → Type 0
MayReach forgotten forgot event = IsTrue (is_taken forgot event) ⊎ (forgotten (event_second event) ≡ false)

-- `forgot` is the core `whole` with some seconds forgotten
pub record HasForgotten (whole forgot : CoreState) : Type 0 where
  pub me : forgot.me ≡ whole.me
  pub plan : forgot.plan ≡ whole.plan
  pub start : forgot.start ≡ whole.start
  pub seconds : AreForgotten (state_of whole) (state_of forgot)

-- a step has the answer, fact and messages of this turn of a second
pub record SaysAs (second : ℕ) (turn : Turn) (step : Step) : Type 0 where
  pub answer : step.answer ≡ turn.answer
  pub fact : step.fact ≡ option_map (fact_of second) turn.fact
  pub sends : step.sends ≡ turn.sends

-- two turns have the same answer, fact and messages
pub record SayTheSame (one other : Turn) : Type 0 where
  pub answer : one.answer ≡ other.answer
  pub fact : one.fact ≡ other.fact
  pub sends : one.sends ≡ other.sends

module _ (image : List ℕ → List ℕ) (plan : CorePlanState) (start me : ℕ) where
  -- the turn of an event at a core with this number and these seconds
  abbrev pub turn_of : (ℕ → SecondState) → CoreEvent → Turn
  turn_of seconds (events.Submission from t item) = submission_row from item (seconds t)
  turn_of seconds (events.Seal t) = seal_row image (seconds t)
  turn_of seconds (events.Ballot t) = ballot_row plan t me (seconds t)
  turn_of seconds (events.Receive from t m) = receive_row plan t from m (seconds t)
  turn_of seconds (events.Tell t) = tell_row plan t me (seconds t)
  turn_of seconds (events.Respond t) = respond_row image (λ u. (seconds u).vote.held) start t (seconds t)
  turn_of seconds (events.Publish t) = still (seconds t) (publish_answer image (λ u. (seconds u).vote.held) start t)

  -- the seconds after an event
  abbrev pub seconds_after : (ℕ → SecondState) → CoreEvent → ℕ → SecondState
  seconds_after seconds event t = if t == event_second event then (turn_of seconds event).after else seconds t

  -- so do the turns of each of these events that the core that forgot takes, in order; any other event reaches neither core
  abbrev pub SayTheSameOf : (seconds forgot : ℕ → SecondState) → List CoreEvent → Type 0
  SayTheSameOf seconds forgot [] = Unit {0}
  SayTheSameOf seconds forgot (event ∷ list) =
      (IsTrue (is_taken forgot event) → SayTheSame (turn_of forgot event) (turn_of seconds event))
      × SayTheSameOf (if is_taken forgot event then seconds_after seconds event else seconds) (if is_taken forgot event then seconds_after forgot event else forgot) list
