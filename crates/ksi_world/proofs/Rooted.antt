-- What was published is the root of the calendar of what is kept.
use Rattle.std.proofs.Common.{◌≡◌, ℕ, zero, suc, ◌<◌, ◌≤◌, eqb, ltb, List, [], ◌∷◌, ◌++◌, refl, sym, ap, subst, ◌∙◌, arith, ◌⊎◌, inl, inr, Option, Some, None}
use Rattle.std.specs.Prelude.{slice_get}
use Rattle.std.proofs.lemmas.Bool.{cond_both}
use Rattle.ksi_calendar.specs.Calendar.{Seconds, calendar_root}
use Rattle.ksi_calendar.specs.Covered.{first_missing, covered_root}
use Rattle.ksi_signature.specs.declared.answer.Answer.TheVariants as answers
use Rattle.ksi_corenode.specs.Rows.{publish_answer, publish_where}
use Rattle.ksi_schedule.specs.declared.event.Event.{Event}
use Rattle.ksi_schedule.specs.declared.event.Event.TheVariants as events
use Rattle.ksi_schedule.specs.Plans.{PlanState, IsPlan}
use Rattle.ksi_schedule.specs.Events.{IsEvent, AreEvents}
use Rattle.ksi_world.specs.Histories.{WorldState, put_rising, published_with, happens, held_in, first_world, run, after}
use Rattle.ksi_world.specs.Records.{kept_root}
use Rattle.ksi_world.specs.Joined.{IsKeptRoot}
use Rattle.ksi_world.proofs.Asking.{delivered_leaves}
use Rattle.ksi_world.proofs.Covering.{AllHeld, HeldToo, none_missing, all_too, seconds_same}
use Rattle.ksi_world.proofs.Deciding.{StepsAgree, after_agrees}
use Rattle.ksi_world.proofs.Growing.{Grew, happens_grew, after_grew}
use Rattle.ksi_world.proofs.Lowest.{lowest_some, lowest_there}

-- a core of the plan holds all seconds up to p, and this is the root of their calendar
pub record IsRootBy (image : List ℕ → List ℕ) (plan : PlanState) (w : WorldState) (p : ℕ) (root : List ℕ) : Type 0 where
  pub core : ℕ
  pub there : core < plan.cores
  pub from : plan.start ≤ p
  pub all : AllHeld (held_in w core) plan.start p
  pub root_is : root ≡ covered_root image (held_in w core) plan.start p

-- a pair after one was put is that one or was there
put_either : (p : ℕ) (root : List ℕ) (pairs : List (ℕ × List ℕ)) (k : ℕ) (x : ℕ × List ℕ) → slice_get (put_rising p root pairs) k ≡ Some x → ((p, root) ≡ x) ⊎ ((i : ℕ) × (slice_get pairs i ≡ Some x))
put_either p root [] zero x at = inl (cc at)
put_either p root [] (suc k) x at = absurd (cc at)
put_either p root (y ∷ ys) k x at =
    cond_both (ltb p y.0) _ _ (λ (xs : List (ℕ × List ℕ)). slice_get xs k ≡ Some x → Either)
    (λ _. before k)
    (λ _. cond_both (eqb p y.0) _ _ (λ (xs : List (ℕ × List ℕ)). slice_get xs k ≡ Some x → Either)
    (λ _ at. inr (k, at))
    (λ _. behind (λ i there. put_either p root ys i x there) k)) at
  where
    Either : Type 0
    Either = ((p, root) ≡ x) ⊎ ((i : ℕ) × (slice_get (y ∷ ys) i ≡ Some x))

    before : (k : ℕ) → slice_get ((p, root) ∷ y ∷ ys) k ≡ Some x → ((p, root) ≡ x) ⊎ ((i : ℕ) × (slice_get (y ∷ ys) i ≡ Some x))
    before zero at = inl (cc at)
    before (suc k) at = inr (k, at)

    behind : ((i : ℕ) → slice_get (put_rising p root ys) i ≡ Some x → ((p, root) ≡ x) ⊎ ((m : ℕ) × (slice_get ys m ≡ Some x))) → (k : ℕ) → slice_get (y ∷ put_rising p root ys) k ≡ Some x →
        ((p, root) ≡ x) ⊎ ((i : ℕ) × (slice_get (y ∷ ys) i ≡ Some x))
    behind rest zero at = inr (0, at)
    behind rest (suc k) at = elim (rest k at) [ inl is ↦ inl is | inr old ↦ inr (suc old.0, old.1) ]

module _ (image : List ℕ → List ℕ) (plan : PlanState) where
  pub root_later : (w w' : WorldState) → Grew w w' → (p : ℕ) (root : List ℕ) → IsRootBy image plan w p root → IsRootBy image plan w' p root
  root_later w w' grew p root is = record {
    core = is.core;
    there = is.there;
    from = is.from;
    all = all_too (held_in w is.core) (held_in w' is.core) plan.start p is.all (λ t from to root at. grew.held is.core t root at);
    root_is = is.root_is ∙ ap (λ (seconds : Seconds). calendar_root image seconds p) (seconds_same (held_in w is.core) (held_in w' is.core) plan.start p is.all (λ t from to root at. grew.held is.core t root at));
  }

  abbrev pub AreRoots : WorldState → Type 0
  AreRoots w = (k p : ℕ) (root : List ℕ) → slice_get w.published k ≡ Some (p, root) → IsRootBy image plan w p root

  roots_later : (w w' : WorldState) → Grew w w' → w'.published ≡ w.published → AreRoots w → AreRoots w'
  roots_later w w' grew same are k p root at = root_later w w' grew p root (are k p root (ap (λ pairs. slice_get pairs k) (sym same) ∙ at))

  publish_roots : (w : WorldState) (j p : ℕ) → j < plan.cores → plan.start ≤ p → AreRoots w → AreRoots (happens image plan w (events.Publish j p)).world
  unfolding happens publish_answer
  publish_roots w j p lt from are = by (first_missing (held_in w j) plan.start p) refl
    where
      by : (o : Option ℕ) → first_missing (held_in w j) plan.start p ≡ o → (k q : ℕ) (root : List ℕ) → slice_get (published_with w.published p (publish_where image (held_in w j) plan.start p o)) k ≡ Some (q, root) →
          IsRootBy image plan (record w { published = published_with w.published p (publish_where image (held_in w j) plan.start p o) }) q root
      by (Some missing) is k q root at = let old = are k q root at in record { core = old.core; there = old.there; from = old.from; all = old.all; root_is = old.root_is }
      by None none k q root at = elim (put_either p (covered_root image (held_in w j) plan.start p) w.published k (q, root) at) [
        | inl new ↦
            let w' : WorldState = record w { published = published_with w.published p (publish_where image (held_in w j) plan.start p None) } in
            subst (λ (x : ℕ × List ℕ). IsRootBy image plan w' x.0 x.1) new (record { core = j; there = lt; from = from; all = none_missing (held_in w j) plan.start p none; root_is = refl })
        | inr old ↦ let is = are old.0 q root old.1 in record { core = is.core; there = is.there; from = is.from; all = is.all; root_is = is.root_is }
      ]

  -- what a core answers to `publish` with a root
  answered_by : (w : WorldState) (j p : ℕ) (root : List ℕ) → j < plan.cores → plan.start ≤ p → publish_answer image (held_in w j) plan.start p ≡ answers.Published root → IsRootBy image plan w p root
  unfolding publish_answer
  answered_by w j p root lt from is = by (first_missing (held_in w j) plan.start p) refl is
    where
      by : (o : Option ℕ) → first_missing (held_in w j) plan.start p ≡ o → publish_where image (held_in w j) plan.start p o ≡ answers.Published root → IsRootBy image plan w p root
      by (Some missing) some is = absurd (cc is)
      by None none is = record { core = j; there = lt; from = from; all = none_missing (held_in w j) plan.start p none; root_is = sym (cc is) }

  -- the event publishes nothing
  abbrev Silent : Event → Type 0
  Silent (events.Publish j p) = ⊥
  Silent _ = Unit {0}

  publishes_nothing : (w : WorldState) (e : Event) → Silent e → (happens image plan w e).world.published ≡ w.published
  unfolding happens
  publishes_nothing w (events.Request k t imprint name) silent = refl
  publishes_nothing w (events.Close k t) silent = refl
  publishes_nothing w (events.Seal j t) silent = refl
  publishes_nothing w (events.Ballot j t) silent = refl
  publishes_nothing w (events.Tell j t) silent = refl
  publishes_nothing w (events.Respond j t) silent = refl
  publishes_nothing w (events.RestartCore j) silent = refl
  publishes_nothing w (events.RestartAggregator k) silent = refl
  publishes_nothing w (events.Deliver number) silent = (delivered_leaves image plan w (slice_get w.wire number)).published
  publishes_nothing w (events.Publish j p) silent = absurd silent

  -- AN EVENT

  happens_roots : (w : WorldState) (e : Event) → IsEvent plan e → AreRoots w → AreRoots (happens image plan w e).world
  happens_roots w (events.Publish j p) is are = publish_roots w j p is.0 is.1.0 are
  happens_roots w (events.Request k t imprint name) is are = roots_later w (happens image plan w (events.Request k t imprint name)).world (happens_grew image plan w (events.Request k t imprint name)) (publishes_nothing w (events.Request k t imprint name) tt) are
  happens_roots w (events.Close k t) is are = roots_later w (happens image plan w (events.Close k t)).world (happens_grew image plan w (events.Close k t)) (publishes_nothing w (events.Close k t) tt) are
  happens_roots w (events.Seal j t) is are = roots_later w (happens image plan w (events.Seal j t)).world (happens_grew image plan w (events.Seal j t)) (publishes_nothing w (events.Seal j t) tt) are
  happens_roots w (events.Ballot j t) is are = roots_later w (happens image plan w (events.Ballot j t)).world (happens_grew image plan w (events.Ballot j t)) (publishes_nothing w (events.Ballot j t) tt) are
  happens_roots w (events.Tell j t) is are = roots_later w (happens image plan w (events.Tell j t)).world (happens_grew image plan w (events.Tell j t)) (publishes_nothing w (events.Tell j t) tt) are
  happens_roots w (events.Respond j t) is are = roots_later w (happens image plan w (events.Respond j t)).world (happens_grew image plan w (events.Respond j t)) (publishes_nothing w (events.Respond j t) tt) are
  happens_roots w (events.RestartCore j) is are = roots_later w (happens image plan w (events.RestartCore j)).world (happens_grew image plan w (events.RestartCore j)) (publishes_nothing w (events.RestartCore j) tt) are
  happens_roots w (events.RestartAggregator k) is are = roots_later w (happens image plan w (events.RestartAggregator k)).world (happens_grew image plan w (events.RestartAggregator k)) (publishes_nothing w (events.RestartAggregator k) tt) are
  happens_roots w (events.Deliver number) is are = roots_later w (happens image plan w (events.Deliver number)).world (happens_grew image plan w (events.Deliver number)) (publishes_nothing w (events.Deliver number) tt) are

  run_roots : (es : List Event) (w : WorldState) → AreEvents plan es → AreRoots w → AreRoots (run image plan w es)
  run_roots [] w all are = are
  run_roots (e ∷ es) w all are = run_roots es (happens image plan w e).world all.1 (happens_roots w e all.0 are)

  pub after_roots : (es : List Event) → AreEvents plan es → AreRoots (after image plan es)
  unfolding after first_world
  after_roots es all = run_roots es (first_world plan) all (λ k p root at. absurd (cc at))

  -- WHAT IS KEPT

  module _ (is : IsPlan plan) (law : StepsAgree) where
    -- whatever a core of the plan holds is kept
    pub kept_holds : (es : List Event) → AreEvents plan es → (j t : ℕ) (d : List ℕ) → j < plan.cores → held_in (after image plan es) j t ≡ Some d → kept_root plan (after image plan es) t ≡ Some d
    kept_holds es are j t d lt holds =
        let found = lowest_there (λ core. held_in (after image plan es) core t) 0 plan.cores j d (omega arith) (omega (arith, lt)) holds in
        let holder = lowest_some (λ core. held_in (after image plan es) core t) 0 plan.cores found.0 found.1 in
        found.1 ∙ ap Some (after_agrees image plan is law es are holder.0 j t found.0 d holder.3 holds)

    pub kept_too : (es : List Event) → AreEvents plan es → (core last : ℕ) → core < plan.cores → HeldToo (held_in (after image plan es) core) (kept_root plan (after image plan es)) plan.start last
    kept_too es are core last lt t from to root holds = kept_holds es are core t root lt holds

    pub root_kept : (es : List Event) → AreEvents plan es → (p : ℕ) (root : List ℕ) → IsRootBy image plan (after image plan es) p root → IsKeptRoot image plan (after image plan es) p root
    root_kept es are p root by =
        let held = held_in (after image plan es) by.core in
        let kept = kept_root plan (after image plan es) in
        let too = kept_too es are by.core p by.there in
        record {
          covered = record { from = by.from; each = all_too held kept plan.start p by.all too };
          root_is = by.root_is ∙ ap (λ (seconds : Seconds). calendar_root image seconds p) (seconds_same held kept plan.start p by.all too);
        }

    -- whatever was published before
    pub published_kept : (before later : List Event) → AreEvents plan before → AreEvents plan (before ++ later) → (k p : ℕ) (root : List ℕ) → slice_get (after image plan before).published k ≡ Some (p, root) →
        IsKeptRoot image plan (after image plan (before ++ later)) p root
    published_kept before later are all k p root at =
        root_kept (before ++ later) all p root
        (root_later (after image plan before) (after image plan (before ++ later)) (after_grew image plan before later) p root (after_roots before are k p root at))

    -- whatever was answered before
    pub answered_kept : (before later : List Event) → AreEvents plan (before ++ later) → (core p : ℕ) (root : List ℕ) → core < plan.cores → plan.start ≤ p →
        publish_answer image (held_in (after image plan before) core) plan.start p ≡ answers.Published root → IsKeptRoot image plan (after image plan (before ++ later)) p root
    answered_kept before later all core p root lt from is =
        root_kept (before ++ later) all p root
        (root_later (after image plan before) (after image plan (before ++ later)) (after_grew image plan before later) p root (answered_by (after image plan before) core p root lt from is))

-- what is held stays held
pub still_held : (image : List ℕ → List ℕ) (plan : PlanState) (before later : List Event) (core second : ℕ) (root : List ℕ) →
    held_in (after image plan before) core second ≡ Some root → held_in (after image plan (before ++ later)) core second ≡ Some root
still_held image plan before later core second root at = (after_grew image plan before later).held core second root at

-- the first events of a plan are events of it
pub are_before : (plan : PlanState) (before later : List Event) → AreEvents plan (before ++ later) → AreEvents plan before
are_before plan [] later are = tt
are_before plan (e ∷ es) later are = (are.0, are_before plan es later are.1)
