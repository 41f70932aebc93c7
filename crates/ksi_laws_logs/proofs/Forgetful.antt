-- The log of a core that forgets is that of one that forgot nothing.
use Rattle.std.proofs.Common.{◌≡◌, ◌∙◌, ℕ, Bool, List, [], ◌∷◌, ◌++◌, refl, sym, ap, subst}
use Rattle.std.specs.Prelude.{◌==◌, if◌then◌else◌, IsTrue, map}
use Rattle.std.proofs.lemmas.Bool.{eq-eqb}
use Rattle.ksi_corenode.specs.declared.event.CoreEvent.{CoreEvent}
use Rattle.ksi_corenode.specs.declared.event.CoreEvent.TheVariants as events
use Rattle.ksi_corenode.specs.declared.step.Send.{Send}
use Rattle.ksi_corenode.specs.SecondState.{SecondState}
use Rattle.ksi_corenode.specs.Turns.{Turn}
use Rattle.ksi_corenode.specs.Events.{event_second}
use Rattle.ksi_corenode.specs.Rows.{restart_row}
use Rattle.ksi_signature.specs.declared.answer.Answer.{Answer}
use Rattle.ksi_schedule.specs.Plans.{PlanState, core_plan_of}
use Rattle.ksi_world.specs.Histories.{core_message}
use Rattle.ksi_records.specs.Logs.{Deed, CoreAgrees, Said, Which, changed, core_after, core_says, core_turn}
use Rattle.ksi_corenode.specs.Bare.{is_taken}
use Rattle.ksi_laws_forgetting.specs.Forgotten.{AreForgotten, SayTheSame, turn_of, seconds_after}
use Rattle.ksi_laws_logs.specs.Logs.{Entry, Took, Starts, Forgets, ForgetfulAgrees, forgetful_after, whole_after, deeds_of}

module _ (image : List ℕ → List ℕ) (plan : PlanState) (j : ℕ)
    (alike : (seconds forgot : ℕ → SecondState) (event : CoreEvent) → AreForgotten seconds forgot → IsTrue (is_taken forgot event) →
    SayTheSame (turn_of image (core_plan_of plan) plan.start j forgot event) (turn_of image (core_plan_of plan) plan.start j seconds event))
    (after : (seconds forgot : ℕ → SecondState) (event : CoreEvent) → AreForgotten seconds forgot → IsTrue (is_taken forgot event) →
    AreForgotten (seconds_after image (core_plan_of plan) plan.start j seconds event) (seconds_after image (core_plan_of plan) plan.start j forgot event))
    (restart : (seconds forgot : ℕ → SecondState) → AreForgotten seconds forgot → AreForgotten (λ t. restart_row (seconds t)) (λ t. restart_row (forgot t)))
    (again : (seconds forgot more : ℕ → SecondState) → AreForgotten seconds forgot → AreForgotten forgot more → AreForgotten seconds more) where
  -- both words for a turn mean the same
  turn_is : (seconds : ℕ → SecondState) (event : CoreEvent) → core_turn image plan j seconds event ≡ turn_of image (core_plan_of plan) plan.start j seconds event
  turn_is seconds (events.Submission from t item) = refl
  turn_is seconds (events.Seal t) = refl
  turn_is seconds (events.Ballot t) = refl
  turn_is seconds (events.Receive from t m) = refl
  turn_is seconds (events.Tell t) = refl
  turn_is seconds (events.Respond t) = refl
  turn_is seconds (events.Publish t) = refl

  after_is : (seconds : ℕ → SecondState) (event : CoreEvent) → core_after image plan j seconds event ≡ seconds_after image (core_plan_of plan) plan.start j seconds event
  after_is seconds event = ap (λ (turn : Turn). changed seconds (event_second event) turn.after) (turn_is seconds event)

  -- the same is said
  abbrev said_by : CoreEvent → Turn → Said
  said_by event turn = record { answer = turn.answer; sent = map (core_message j (event_second event)) turn.sends }

  same_said : (event : CoreEvent) (one other : Turn) → SayTheSame one other → said_by event one ≡ said_by event other
  same_said event one other same =
      ap (λ (answer : Answer). record { answer = answer; sent = map (core_message j (event_second event)) one.sends }) same.answer
      ∙ ap (λ (sends : List Send). record { answer = other.answer; sent = map (core_message j (event_second event)) sends }) same.sends

  says_same : (seconds forgot : ℕ → SecondState) (event : CoreEvent) → AreForgotten seconds forgot → IsTrue (is_taken forgot event) → core_says image plan j forgot event ≡ core_says image plan j seconds event
  says_same seconds forgot event are taken =
      ap (said_by event) (turn_is forgot event)
      ∙ same_said event (turn_of image (core_plan_of plan) plan.start j forgot event) (turn_of image (core_plan_of plan) plan.start j seconds event) (alike seconds forgot event are taken)
      ∙ ap (said_by event) (sym (turn_is seconds event))

  after_same : (seconds forgot : ℕ → SecondState) (event : CoreEvent) → AreForgotten seconds forgot → IsTrue (is_taken forgot event) → AreForgotten (core_after image plan j seconds event) (core_after image plan j forgot event)
  after_same seconds forgot event are taken =
      subst (λ (f : ℕ → SecondState). AreForgotten (core_after image plan j seconds event) f) (sym (after_is forgot event))
      (subst (λ (s : ℕ → SecondState). AreForgotten s (seconds_after image (core_plan_of plan) plan.start j forgot event)) (sym (after_is seconds event)) (after seconds forgot event are taken))

  -- an entry is of this core
  own : (P Q : Type 0) → P → Which (j == j) P Q
  own P Q p = subst (λ (b : Bool). Which b P Q) (sym (eq-eqb j j refl)) p

  mine : (seconds others : ℕ → SecondState) (deeds : List Deed) (forgot : ℕ → SecondState) → AreForgotten (whole_after image plan j seconds deeds) forgot →
      AreForgotten (whole_after image plan j (if j == j then seconds else others) deeds) forgot
  mine seconds others deeds forgot are = subst (λ (b : Bool). AreForgotten (whole_after image plan j (if b then seconds else others) deeds) forgot) (sym (eq-eqb j j refl)) are

  pub log_agrees : (entries : List Entry) (seconds forgot : ℕ → SecondState) → AreForgotten seconds forgot → ForgetfulAgrees image plan j forgot entries → CoreAgrees image plan j seconds (deeds_of j entries)
  log_agrees [] seconds forgot are agrees = tt
  log_agrees (Took event said ∷ entries) seconds forgot are agrees = own _ (CoreAgrees image plan j seconds (deeds_of j entries)) (
    agrees.1 ∙ says_same seconds forgot event are agrees.0,
    log_agrees entries (core_after image plan j seconds event) (core_after image plan j forgot event) (after_same seconds forgot event are agrees.0) agrees.2,
  )
  log_agrees (Starts ∷ entries) seconds forgot are agrees = own _ (CoreAgrees image plan j seconds (deeds_of j entries)) (log_agrees entries (λ t. restart_row (seconds t)) (λ t. restart_row (forgot t)) (restart seconds forgot are) agrees)
  log_agrees (Forgets left ∷ entries) seconds forgot are agrees =
      own _ (CoreAgrees image plan j seconds (deeds_of j entries)) (log_agrees entries (λ t. restart_row (seconds t)) left (again (λ t. restart_row (seconds t)) (λ t. restart_row (forgot t)) left (restart seconds forgot are) agrees.0) agrees.1)

  -- the seconds of the core after its log
  pub log_ends : (entries : List Entry) (seconds forgot : ℕ → SecondState) → AreForgotten seconds forgot → ForgetfulAgrees image plan j forgot entries →
      AreForgotten (whole_after image plan j seconds (deeds_of j entries)) (forgetful_after image plan j forgot entries)
  log_ends [] seconds forgot are agrees = are
  log_ends (Took event said ∷ entries) seconds forgot are agrees =
      mine (core_after image plan j seconds event) seconds (deeds_of j entries) (forgetful_after image plan j (core_after image plan j forgot event) entries)
      (log_ends entries (core_after image plan j seconds event) (core_after image plan j forgot event) (after_same seconds forgot event are agrees.0) agrees.2)
  log_ends (Starts ∷ entries) seconds forgot are agrees =
      mine (λ t. restart_row (seconds t)) seconds (deeds_of j entries) (forgetful_after image plan j (λ t. restart_row (forgot t)) entries)
      (log_ends entries (λ t. restart_row (seconds t)) (λ t. restart_row (forgot t)) (restart seconds forgot are) agrees)
  log_ends (Forgets left ∷ entries) seconds forgot are agrees =
      mine (λ t. restart_row (seconds t)) seconds (deeds_of j entries) (forgetful_after image plan j left entries)
      (log_ends entries (λ t. restart_row (seconds t)) left (again (λ t. restart_row (seconds t)) (λ t. restart_row (forgot t)) left (restart seconds forgot are) agrees.0) agrees.1)

pub one_log : (image : List ℕ → List ℕ) (plan : PlanState) (j : ℕ) (seconds : ℕ → SecondState) (one other : List Entry) → ForgetfulAgrees image plan j seconds one →
    ForgetfulAgrees image plan j (forgetful_after image plan j seconds one) other → ForgetfulAgrees image plan j seconds (one ++ other)
one_log image plan j seconds [] other first next = next
one_log image plan j seconds (Took event said ∷ one) other first next = (first.0, first.1, one_log image plan j (core_after image plan j seconds event) one other first.2 next)
one_log image plan j seconds (Starts ∷ one) other first next = one_log image plan j (λ t. restart_row (seconds t)) one other first next
one_log image plan j seconds (Forgets left ∷ one) other first next = (first.0, one_log image plan j left one other first.1 next)
