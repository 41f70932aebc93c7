-- One core or one aggregator of many takes a turn.
use Rattle.std.proofs.Common.{◌≡◌, ◌≢◌, ℕ, zero, suc, ◌≤◌, true, false, cond, ◌&&◌, eqb, List, [], ◌∷◌, ◌++◌, length, refl, sym, ap, subst, ◌∙◌, arith, ◌⊎◌, inl, inr, is_some, Option, Some, None, length-append, set, length-set}
use Rattle.std.specs.Prelude.{slice_get, map, OnErr, Result, Ok, Err}
use Rattle.std.proofs.lemmas.Bool.{cond-false, cond_both, eq-eqb, eqb-true, ne_eqb, and_left, false≢true}
use Rattle.std.proofs.lemmas.List.{length-map}
use Rattle.ksi_synod.specs.declared.messages.SynodMessage.{SynodMessage}
use Rattle.ksi_synod.specs.declared.messages.SynodMessage.TheVariants as message
use Rattle.ksi_synod.specs.Voters.{cores_below}
use Rattle.ksi_synod.specs.CorePlans.{CorePlanState, IsCorePlan, voters_of}
use Rattle.ksi_corenode.specs.declared.step.Send as core_step
use Rattle.ksi_corenode.specs.declared.step.Send.TheVariants as core_sends
use Rattle.ksi_corenode.specs.declared.step.Step.{Step}
use Rattle.ksi_corenode.specs.SecondState.{SecondState}
use Rattle.ksi_corenode.specs.Turns.{Turn, told, to_each}
use Rattle.ksi_calendar.specs.Covered.{Roots, first_missing}
use Rattle.ksi_aggtree.specs.declared.entries.Entry.{Entry}
use Rattle.ksi_corenode.specs.Rows.{ballot_row, receive_row, tell_row, seal_row, submission_row, is_mine, respond_where, respond_row}
use Rattle.ksi_corenode.specs.declared.event.CoreEvent.{CoreEvent}
use Rattle.ksi_corenode.specs.declared.event.CoreEvent.TheVariants as events
use Rattle.ksi_corenode.specs.Events.{event_second, core_row}
use Rattle.ksi_aggtree.specs.declared.item.Item.{Item}
use Rattle.ksi_corenode.specs.CoreState.{CoreState, state_of, held_by, IsSame, IsTurn}
use Rattle.ksi_world.specs.declared.outcome.Outcome.{Outcome}
use Rattle.ksi_world.specs.declared.message.Message.{Message}
use Rattle.ksi_schedule.specs.Plans.{PlanState}
use Rattle.ksi_world.specs.Histories.{put_at, core_message, outcome_of}
use Rattle.ksi_world.specs.Nodes.{IsCore, AreCores, CoreStep, CoresStay, is_respond}
use Rattle.ksi_world.proofs.Voters.{VotersAreFew, VotersAreThere}

-- an element after one was set is that one or was there
pub get_set : {A : Type 0} (xs : List A) (i j : ℕ) (x y : A) → slice_get (set xs i x) j ≡ Some y → ((j ≡ i) × (y ≡ x)) ⊎ ((j ≢ i) × (slice_get xs j ≡ Some y))
get_set [] i j x y at = absurd (cc at)
get_set (z ∷ zs) zero zero x y at = inl (refl, cc at)
get_set (z ∷ zs) zero (suc j) x y at = inr ((λ e. cc e), at)
get_set (z ∷ zs) (suc i) zero x y at = inr ((λ e. cc e), at)
get_set (z ∷ zs) (suc i) (suc j) x y at = elim (get_set zs i j x y at) [ inl same ↦ inl (ap suc same.0, same.1) | inr other ↦ inr ((λ e. other.0 (cc e)), other.1) ]

pub put_here : {A : Type 0} (f : ℕ → ℕ → A) (j t : ℕ) (new : A) (u : ℕ) → cond (eqb u t) new (f j u) ≡ put_at f j t new j u
put_here f j t new u = ap (λ b. cond (b && eqb u t) new (f j u)) (sym (eq-eqb j j refl))

pub put_other : {A : Type 0} (f : ℕ → ℕ → A) (j t : ℕ) (new : A) (k u : ℕ) → k ≢ j → f k u ≡ put_at f j t new k u
put_other f j t new k u ne = sym (cond-false (eqb k j && eqb u t) new (f k u) (and_left _ _ (ne_eqb k j ne)))

-- what holds anyway holds at an error
pub at_error : {A B P : Type 0} (r : Result A B) → P → OnErr r P
at_error (Ok x) p = tt
at_error (Err e) p = p

-- an element after a push is an old one or the new one at the end
pub get_push : {A : Type 0} (xs : List A) (x : A) (k : ℕ) (y : A) → slice_get (xs ++ x ∷ []) k ≡ Some y → (slice_get xs k ≡ Some y) ⊎ ((k ≡ length xs) × (y ≡ x))
get_push [] x zero y at = inr (refl, cc at)
get_push [] x (suc k) y at = absurd (cc at)
get_push (z ∷ zs) x zero y at = inl at
get_push (z ∷ zs) x (suc k) y at = elim (get_push zs x k y at) [ inl old ↦ inl old | inr new ↦ inr (ap suc new.0, new.1) ]

-- THE STEP OF A CORE

pub core_turned : (row : CoreState → Turn) (j t : ℕ) (cores : List CoreState) (wire wire' : List Message) (old new : CoreState) (step : Step) (outcome : Outcome) →
    slice_get cores j ≡ Some old → IsTurn old new t (row old) step → wire' ≡ wire ++ map (core_message j t) step.sends → outcome ≡ outcome_of step.answer (length step.sends) →
    CoreStep row j t cores (set cores j new) wire wire' outcome
core_turned row j t cores wire wire' old new step outcome at is posted told = record {
  old = old;
  new = new;
  at = at;
  after = refl;
  me = is.me;
  plan = is.plan;
  start = is.start;
  seconds = is.seconds;
  posted = posted ∙ ap (λ sends. wire ++ map (core_message j t) sends) is.sends;
  told = told ∙ ap (λ answer. outcome_of answer (length step.sends)) is.answer ∙ ap (λ sends. outcome_of (row old).answer (length sends)) is.sends;
}

pub core_same : (plan : PlanState) (seconds : ℕ → SecondState) (j : ℕ) (old new : CoreState) → IsSame old new → IsCore plan seconds j old → IsCore plan seconds j new
core_same plan seconds j old new same is = record {
  me = same.me ∙ is.me;
  core_plan = same.plan ∙ is.core_plan;
  start = same.start ∙ is.start;
  keeps = λ t. same.seconds t ∙ is.keeps t;
}

pub cores_stay : (cores : List CoreState) (j : ℕ) (old new : CoreState) → slice_get cores j ≡ Some old → IsSame old new → CoresStay cores (set cores j new)
cores_stay cores j old new at same plan seconds r = record {
  many = length-set cores j new ∙ r.many;
  each = λ k c here. elim (get_set cores j k new c here) [
    | inl is ↦ subst (λ c. IsCore plan (seconds k) k c) (sym is.1) (subst (λ k. IsCore plan (seconds k) k new) (sym is.0) (core_same plan (seconds j) j old new same (r.each j old at)))
    | inr other ↦ r.each k c other.1
  ];
}

-- AT MOST SO MANY SENDS AS THERE ARE CORES

pub length-cores_below : (n : ℕ) → length (cores_below n) ≡ n
length-cores_below zero = refl
length-cores_below (suc n) = omega (arith, length-append (cores_below n) (n ∷ []), length-cores_below n)

pub length-to_each : (n : ℕ) (m : SynodMessage) → length (to_each (cores_below n) m) ≡ n
length-to_each n m = let f : ℕ → core_step.Send = λ core. core_sends.Synod core m in length-map (cores_below n) f ∙ length-cores_below n

-- by the laws of voters
module _ (there : VotersAreThere) (few : VotersAreFew) (core_plan : CorePlanState) (is : IsCorePlan core_plan) where
  few_voters : (second : ℕ) (m : SynodMessage) → length (to_each (voters_of core_plan second) m) ≤ 9
  few_voters second m =
      let send : ℕ → core_step.Send = λ core. core_sends.Synod core m in
      omega (arith, length-map (voters_of core_plan second) send, few core_plan.cores (voters_of core_plan second) (there core_plan second is), is.few)

  few_cores : (m : SynodMessage) → length (to_each (cores_below core_plan.cores) m) ≤ 9
  few_cores m = omega (arith, length-to_each core_plan.cores m, is.few)

  few_told : (second from : ℕ) (o : Option SynodMessage) → length (told core_plan second from o) ≤ 9
  few_told second from None = omega arith
  few_told second from (Some (message.LastVote l)) = omega arith
  few_told second from (Some (message.Voted b)) = omega arith
  few_told second from (Some (message.NextBallot b)) = few_voters second (message.NextBallot b)
  few_told second from (Some (message.BeginBallot b d)) = few_voters second (message.BeginBallot b d)
  few_told second from (Some (message.Success d)) = few_cores (message.Success d)

  few_ballot : (second me : ℕ) (s : SecondState) → length (ballot_row core_plan second me s).sends ≤ 9
  unfolding ballot_row
  few_ballot second me s = few_told second me _

  few_receive : (second from : ℕ) (m : SynodMessage) (s : SecondState) → length (receive_row core_plan second from m s).sends ≤ 9
  unfolding receive_row
  few_receive second from m s = few_told second from _

  few_tell : (second me : ℕ) (s : SecondState) → length (tell_row core_plan second me s).sends ≤ 9
  unfolding tell_row
  few_tell second me s = few_told second me _

none_sealed : (image : List ℕ → List ℕ) (s : SecondState) → (seal_row image s).sends ≡ []
unfolding seal_row
none_sealed image s = cond_both (is_some s.sealed) _ _ (λ (turn : Turn). turn.sends ≡ []) (λ _. refl) (λ _. refl)

none_submitted : (from : ℕ) (item : Item) (s : SecondState) → (submission_row from item s).sends ≡ []
unfolding submission_row
none_submitted from item s = cond_both (is_some s.sealed) _ _ (λ (turn : Turn). turn.sends ≡ []) (λ _. refl) (λ _. refl)

-- only to Respond more may be sent
pub few_sent : VotersAreThere → VotersAreFew → (image : List ℕ → List ℕ) (core : CoreState) → IsCorePlan core.plan → (event : CoreEvent) → is_respond event ≡ false → length (core_row image core event).sends ≤ 9
few_sent there few image core is (events.Submission from t item) other = omega (arith, ap length (none_submitted from item (state_of core t)))
few_sent there few image core is (events.Seal t) other = omega (arith, ap length (none_sealed image (state_of core t)))
few_sent there few image core is (events.Ballot t) other = few_ballot there few core.plan is t core.me (state_of core t)
few_sent there few image core is (events.Receive from t m) other = few_receive there few core.plan is t from m (state_of core t)
few_sent there few image core is (events.Tell t) other = few_tell there few core.plan is t core.me (state_of core t)
few_sent there few image core is (events.Respond t) other = absurd (false≢true (sym other))
few_sent there few image core is (events.Publish t) other = omega arith

-- and it leaves the core as it was
respond_leaves : (image : List ℕ → List ℕ) (held : Roots) (start t : ℕ) (s : SecondState) → (respond_row image held start t s).after ≡ s
unfolding respond_row
respond_leaves image held start t s = by s.sealed (first_missing held start t) (held t)
  where
    by : (sealed : Option (List Entry)) (missing : Option ℕ) (root : Option (List ℕ)) → (respond_where image held start t sealed missing root s).after ≡ s
    by None missing root = refl
    by (Some entries) (Some missing) root = refl
    by (Some entries) None None = refl
    by (Some entries) None (Some root) = cond_both (is_mine image entries root) _ _ (λ (turn : Turn). turn.after ≡ s) (λ _. refl) (λ _. refl)

pub respond_same : (image : List ℕ → List ℕ) (old new : CoreState) (event : CoreEvent) (step : Step) → is_respond event ≡ true → IsTurn old new (event_second event) (core_row image old event) step → IsSame old new
respond_same image old new (events.Submission from t item) step so is = absurd (false≢true so)
respond_same image old new (events.Seal t) step so is = absurd (false≢true so)
respond_same image old new (events.Ballot t) step so is = absurd (false≢true so)
respond_same image old new (events.Receive from t m) step so is = absurd (false≢true so)
respond_same image old new (events.Tell t) step so is = absurd (false≢true so)
respond_same image old new (events.Publish t) step so is = absurd (false≢true so)
respond_same image old new (events.Respond t) step so is = record {
  me = is.me;
  plan = is.plan;
  start = is.start;
  seconds = λ u. is.seconds u ∙ cond_both (eqb u t) (respond_row image (held_by old) old.start t (state_of old t)).after (state_of old u) (λ (s : SecondState). s ≡ state_of old u)
      (λ same. respond_leaves image (held_by old) old.start t (state_of old t) ∙ ap (λ u. state_of old u) (sym (eqb-true u t same))) (λ _. refl);
}

-- THE CORES AFTER IT

pub cores_turned : (plan : PlanState) (seconds : ℕ → ℕ → SecondState) (row : CoreState → Turn) (j t : ℕ) (cores cores' : List CoreState) (wire wire' : List Message) (outcome : Outcome) (turn : Turn) →
    (step : CoreStep row j t cores cores' wire wire' outcome) → row step.old ≡ turn → AreCores plan seconds cores → AreCores plan (put_at seconds j t turn.after) cores'
cores_turned plan seconds row j t cores cores' wire wire' outcome turn step same r = subst (λ xs. AreCores plan (put_at seconds j t turn.after) xs) (sym step.after) (record {
  many = length-set cores j step.new ∙ r.many;
  each = λ k c here. elim (get_set cores j k step.new c here) [
    | inl is ↦ subst (λ c. IsCore plan (put_at seconds j t turn.after k) k c) (sym is.1) (subst (λ k. IsCore plan (put_at seconds j t turn.after k) k step.new) (sym is.0) new_core)
    | inr other ↦ let is = r.each k c other.1 in record { me = is.me; core_plan = is.core_plan; start = is.start; keeps = λ u. is.keeps u ∙ put_other seconds j t turn.after k u other.0 }
  ];
})
  where
    old_core : IsCore plan (seconds j) j step.old
    old_core = r.each j step.old step.at

    new_core : IsCore plan (put_at seconds j t turn.after j) j step.new
    new_core = record {
      me = step.me ∙ old_core.me;
      core_plan = step.plan ∙ old_core.core_plan;
      start = step.start ∙ old_core.start;
      keeps = λ u. step.seconds u ∙ ap (λ (z : Turn). cond (eqb u t) z.after (state_of step.old u)) same ∙ ap (λ s. cond (eqb u t) turn.after s) (old_core.keeps u) ∙ put_here seconds j t turn.after u;
    }
