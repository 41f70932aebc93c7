-- A core that forgot seconds has the turns of one that forgot none.
use Rattle.std.proofs.Common.{◌≡◌, ◌∙◌, ◌⊎◌, ℕ, Bool, true, false, not, List, [], ◌∷◌, Option, refl, sym, ap, subst, inl, inr}
use Rattle.std.specs.Prelude.{◌==◌, if◌then◌else◌, IsTrue}
use Rattle.std.proofs.lemmas.Bool.{not-true, true≢false}
use Rattle.ksi_calendar.specs.Covered.{Roots}
use Rattle.ksi_synod.specs.CorePlans.{CorePlanState}
use Rattle.ksi_synod.specs.Rows.{held_told}
use Rattle.ksi_corenode.specs.declared.event.CoreEvent.{CoreEvent}
use Rattle.ksi_corenode.specs.declared.event.CoreEvent.TheVariants as events
use Rattle.ksi_corenode.specs.SecondState.{SecondState}
use Rattle.ksi_corenode.specs.Turns.{Turn, told}
use Rattle.ksi_corenode.specs.CoreState.{CoreState, state_of, held_by}
use Rattle.ksi_corenode.specs.Chains.{held_chain}
use Rattle.ksi_corenode.specs.Events.{event_second, core_row}
use Rattle.ksi_corenode.specs.Rows.{submission_row, seal_row, ballot_row, receive_row, tell_row, tell_answer, respond_row, publish_answer, restart_row}
use Rattle.ksi_corenode.specs.Bare.{is_bare, is_taken}
use Rattle.ksi_laws_forgetting.specs.Forgotten.{bare_second, IsGone, AreForgotten, SayTheSame, SayTheSameOf, turn_of, seconds_after}

-- ONE SECOND

pub gone_bare : (whole forgot : SecondState) → IsGone whole forgot → is_bare forgot ≡ true
gone_bare whole forgot gone = ap is_bare gone.left

pub held_there : (whole forgot : SecondState) → (forgot ≡ whole) ⊎ IsGone whole forgot → forgot.vote.held ≡ whole.vote.held
held_there whole forgot (inl same) = ap (λ (s : SecondState). s.vote.held) same
held_there whole forgot (inr gone) = ap (λ (s : SecondState). s.vote.held) gone.left ∙ sym gone.held

pub more_there : (whole forgot : SecondState) → (forgot ≡ whole) ⊎ IsGone whole forgot → is_bare forgot ≡ false → forgot ≡ whole
more_there whole forgot (inl same) more = same
more_there whole forgot (inr gone) more = absurd (true≢false (sym (gone_bare whole forgot gone) ∙ more))

-- the same of seconds that are equal to these
gone_same : (whole forgot whole' forgot' : SecondState) → whole' ≡ whole → forgot' ≡ forgot → (forgot ≡ whole) ⊎ IsGone whole forgot → (forgot' ≡ whole') ⊎ IsGone whole' forgot'
gone_same whole forgot whole' forgot' one other are =
    subst (λ (w : SecondState). (forgot' ≡ w) ⊎ IsGone w forgot') (sym one) (subst (λ (f : SecondState). (f ≡ whole) ⊎ IsGone whole f) (sym other) are)

pub restart_there : (whole forgot : SecondState) → (forgot ≡ whole) ⊎ IsGone whole forgot → (restart_row forgot ≡ restart_row whole) ⊎ IsGone (restart_row whole) (restart_row forgot)
restart_there whole forgot (inl same) = inl (ap restart_row same)
restart_there whole forgot (inr gone) = inr (record { root = gone.root; held = gone.held; left = ap restart_row gone.left })

-- a second that is gone twice
pub gone_again : (whole forgot more : SecondState) → IsGone whole forgot → IsGone forgot more → IsGone whole more
gone_again whole forgot more one other = record {
  root = other.root;
  held = sym (held_there whole forgot (inr one)) ∙ other.held;
  left = other.left
      ∙ ap (λ (n : ℕ). bare_second n forgot.vote.voters other.root) (ap (λ (s : SecondState). s.vote.me) one.left)
      ∙ ap (λ (vs : List ℕ). bare_second whole.vote.me vs other.root) (ap (λ (s : SecondState). s.vote.voters) one.left);
}

pub again_there : (whole forgot more : SecondState) → (forgot ≡ whole) ⊎ IsGone whole forgot → (more ≡ forgot) ⊎ IsGone forgot more → (more ≡ whole) ⊎ IsGone whole more
again_there whole forgot more (inl one) (inl other) = inl (other ∙ one)
again_there whole forgot more (inl one) (inr gone) = inr (subst (λ (s : SecondState). IsGone s more) one gone)
again_there whole forgot more (inr gone) (inl other) = inr (subst (λ (s : SecondState). IsGone whole s) (sym other) gone)
again_there whole forgot more (inr one) (inr other) = inr (gone_again whole forgot more one other)

-- TURNS

same_says : (row : SecondState → Turn) (one other : SecondState) → one ≡ other → SayTheSame (row one) (row other)
same_says row one other same = record {
  answer = ap (λ (s : SecondState). (row s).answer) same;
  fact = ap (λ (s : SecondState). (row s).fact) same;
  sends = ap (λ (s : SecondState). (row s).sends) same;
}

tell_after : (plan : CorePlanState) (t me : ℕ) (s : SecondState) → (tell_row plan t me s).after ≡ s
unfolding tell_row
tell_after plan t me s = refl

tell_says : (plan : CorePlanState) (t me : ℕ) (one other : SecondState) → one.vote.held ≡ other.vote.held → SayTheSame (tell_row plan t me one) (tell_row plan t me other)
unfolding tell_row
tell_says plan t me one other same = record {
  answer = ap (λ (held : Option (List ℕ)). tell_answer t held) same;
  fact = refl;
  sends = ap (λ (held : Option (List ℕ)). told plan t me (held_told held)) same;
}

pub row_is : (image : List ℕ → List ℕ) (core : CoreState) (event : CoreEvent) → core_row image core event ≡ turn_of image core.plan core.start core.me (state_of core) event
row_is image core (events.Submission from t item) = refl
row_is image core (events.Seal t) = refl
row_is image core (events.Ballot t) = refl
row_is image core (events.Receive from t m) = refl
row_is image core (events.Tell t) = refl
row_is image core (events.Respond t) = refl
row_is image core (events.Publish t) = refl

pub chain_is : (image : List ℕ → List ℕ) (whole forgot : CoreState) (t p : ℕ) → AreForgotten (state_of whole) (state_of forgot) → forgot.start ≡ whole.start →
    held_chain image (held_by forgot) forgot.start t p ≡ held_chain image (held_by whole) whole.start t p
chain_is image whole forgot t p are start =
    ap (λ (n : ℕ). held_chain image (held_by forgot) n t p) start
    ∙ ap (λ (roots : Roots). held_chain image roots whole.start t p) (λ i u. held_there (state_of whole u) (state_of forgot u) (are u) i)

-- what is held for each second
abbrev roots_of : (ℕ → SecondState) → Roots
roots_of seconds u = (seconds u).vote.held

module _ (image : List ℕ → List ℕ) (plan : CorePlanState) (start me : ℕ) where
  -- all that is asked of two cores
  module _ (seconds forgot : ℕ → SecondState) (are : AreForgotten seconds forgot) where
    roots_are : roots_of forgot ≡ roots_of seconds
    roots_are = λ i u. held_there (seconds u) (forgot u) (are u) i

    there : (t : ℕ) → not (is_bare (forgot t)) ≡ true → forgot t ≡ seconds t
    there t taken = more_there (seconds t) (forgot t) (are t) (not-true (is_bare (forgot t)) taken)

    respond_is : (t : ℕ) → forgot t ≡ seconds t → respond_row image (λ u. (forgot u).vote.held) start t (forgot t) ≡ respond_row image (λ u. (seconds u).vote.held) start t (seconds t)
    respond_is t same =
        ap (λ (roots : Roots). respond_row image roots start t (forgot t)) roots_are
        ∙ ap (λ (s : SecondState). respond_row image (λ u. (seconds u).vote.held) start t s) same

    pub one_alike : (event : CoreEvent) → IsTrue (is_taken forgot event) → SayTheSame (turn_of image plan start me forgot event) (turn_of image plan start me seconds event)
    one_alike (events.Submission from t item) taken = same_says (λ s. submission_row from item s) (forgot t) (seconds t) (there t taken)
    one_alike (events.Seal t) taken = same_says (λ s. seal_row image s) (forgot t) (seconds t) (there t taken)
    one_alike (events.Ballot t) taken = same_says (λ s. ballot_row plan t me s) (forgot t) (seconds t) (there t taken)
    one_alike (events.Receive from t m) taken = same_says (λ s. receive_row plan t from m s) (forgot t) (seconds t) (there t taken)
    one_alike (events.Tell t) taken = tell_says plan t me (forgot t) (seconds t) (held_there (seconds t) (forgot t) (are t))
    one_alike (events.Respond t) taken =
        let same = respond_is t (there t taken) in
        record { answer = ap (λ (turn : Turn). turn.answer) same; fact = ap (λ (turn : Turn). turn.fact) same; sends = ap (λ (turn : Turn). turn.sends) same }
    one_alike (events.Publish t) taken = record { answer = ap (λ (roots : Roots). publish_answer image roots start t) roots_are; fact = refl; sends = refl }

    one_after : (event : CoreEvent) → IsTrue (is_taken forgot event) →
        ((turn_of image plan start me forgot event).after ≡ (turn_of image plan start me seconds event).after)
        ⊎ IsGone (turn_of image plan start me seconds event).after (turn_of image plan start me forgot event).after
    one_after (events.Submission from t item) taken = inl (ap (λ (s : SecondState). (submission_row from item s).after) (there t taken))
    one_after (events.Seal t) taken = inl (ap (λ (s : SecondState). (seal_row image s).after) (there t taken))
    one_after (events.Ballot t) taken = inl (ap (λ (s : SecondState). (ballot_row plan t me s).after) (there t taken))
    one_after (events.Receive from t m) taken = inl (ap (λ (s : SecondState). (receive_row plan t from m s).after) (there t taken))
    one_after (events.Tell t) taken =
        gone_same (seconds t) (forgot t) (tell_row plan t me (seconds t)).after (tell_row plan t me (forgot t)).after
        (tell_after plan t me (seconds t)) (tell_after plan t me (forgot t)) (are t)
    one_after (events.Respond t) taken = inl (ap (λ (turn : Turn). turn.after) (respond_is t (there t taken)))
    one_after (events.Publish t) taken = are t

    pub all_after : (event : CoreEvent) → IsTrue (is_taken forgot event) → AreForgotten (seconds_after image plan start me seconds event) (seconds_after image plan start me forgot event)
    all_after event taken t = by (t == event_second event)
      where
        by : (here : Bool)
            → ((if here then (turn_of image plan start me forgot event).after else forgot t) ≡ (if here then (turn_of image plan start me seconds event).after else seconds t))
            ⊎ IsGone (if here then (turn_of image plan start me seconds event).after else seconds t) (if here then (turn_of image plan start me forgot event).after else forgot t)
        by true = one_after event taken
        by false = are t

  pub events_alike : (seconds forgot : ℕ → SecondState) (list : List CoreEvent) → AreForgotten seconds forgot → SayTheSameOf image plan start me seconds forgot list
  events_alike seconds forgot [] are = tt
  events_alike seconds forgot (event ∷ list) are = (
    one_alike seconds forgot are event,
    by (λ s f each. events_alike s f list each) (is_taken forgot event) refl,
  )
    where
      by : ((s f : ℕ → SecondState) → AreForgotten s f → SayTheSameOf image plan start me s f list) → (b : Bool) → is_taken forgot event ≡ b
          → SayTheSameOf image plan start me (if b then seconds_after image plan start me seconds event else seconds) (if b then seconds_after image plan start me forgot event else forgot) list
      by next true is = next (seconds_after image plan start me seconds event) (seconds_after image plan start me forgot event) (all_after seconds forgot are event is)
      by next false is = next seconds forgot are
