-- Plans and lists of events that grow by one.
use Rattle.std.proofs.Common.{◌≡◌, ℕ, zero, suc, ◌+◌, ◌-◌, ◌<◌, ◌≤◌, Bool, true, ltb, List, [], ◌∷◌, ◌++◌, length, get_or, Some, Result, Ok, Err, refl, sym, ap, subst, ◌∙◌, arith, length-append, inl, inr}
use Rattle.std.specs.List.{slice_get}
use Rattle.std.specs.Result.{OnOk, OnErr}
use Rattle.std.specs.Prelude.{IfSome}
use Rattle.std.proofs.Math.Seq.{get_or-append_seam, get_or-append_right}
use Rattle.std.proofs.lemmas.Bool.{ltb-true, lt-ltb, cases_lt}
use Rattle.std.proofs.lemmas.List.{get_or_append_left}
use Rattle.std.proofs.lemmas.Option.{slice_get_within, get_or_from_slice_get, slice_get-get_or}
use Rattle.ksi_schedule.specs.declared.actor.Actor.{Actor}
use Rattle.ksi_schedule.specs.declared.actor.Actor.TheVariants as actors
use Rattle.ksi_schedule.specs.declared.parent.Parent.{Parent}
use Rattle.ksi_schedule.specs.declared.event.Event.{Event}
use Rattle.ksi_aggtree.specs.Names.{IsName}
use Rattle.ksi_synod.specs.declared.core_plan.VotersFrom.{VotersFrom}
use Rattle.ksi_synod.specs.CorePlans.{IsCorePlan}
use Rattle.ksi_schedule.specs.Plans.{PlanState, IsPlan, IsParent, ReachesCore, no_parent, parent_of, name_of, core_plan_of}
use Rattle.ksi_schedule.specs.Members.{with_members}
use Rattle.ksi_schedule.specs.Events.{IsEvent, AreEvents}
use Rattle.ksi_schedule.specs.Lines.{reaches_core, with_parent}

-- a plan whose first parents are these
abbrev pub begun : PlanState → List Parent → PlanState
begun plan parents = record { cores = plan.cores; start = plan.start; voters = plan.voters; parents = parents }

pub reached : (plan : PlanState) (steps : ℕ) (a : Actor) → reaches_core plan steps a ≡ true → ReachesCore plan steps a
unfolding reaches_core ReachesCore
reached plan steps (actors.Core j) is = ltb-true _ _ is
reached plan zero (actors.Aggregator k) is = absurd cc
reached plan (suc steps) (actors.Aggregator k) is = reached plan steps (parent_of plan k) is

pub reaching : (plan : PlanState) (steps : ℕ) (a : Actor) → ReachesCore plan steps a → reaches_core plan steps a ≡ true
unfolding reaches_core ReachesCore
reaching plan steps (actors.Core j) is = lt-ltb _ _ is
reaching plan zero (actors.Aggregator k) is = absurd is
reaching plan (suc steps) (actors.Aggregator k) is = reaching plan steps (parent_of plan k) is

pub weaker : (n k m : ℕ) (a : Actor) → k ≤ m → IsParent n k a → IsParent n m a
weaker n k m (actors.Core j) le is = is
weaker n k m (actors.Aggregator i) le is = omega arith

-- the parents among the first n are the same in both, and stand below n
pub record Agree (a b : PlanState) (n : ℕ) : Type 0 where
  pub cores : a.cores ≡ b.cores
  pub same : (k : ℕ) → k < n → parent_of a k ≡ parent_of b k
  pub low : (k : ℕ) → k < n → IsParent a.cores n (parent_of a k)

-- so the ways up are the same
pub same_way : (a b : PlanState) (n steps : ℕ) (actor : Actor) → Agree a b n → IsParent a.cores n actor → ReachesCore a steps actor → ReachesCore b steps actor
unfolding ReachesCore
same_way a b n steps (actors.Core j) agree there is = subst (λ (cores : ℕ). j < cores) agree.cores is
same_way a b n zero (actors.Aggregator k) agree there is = is
same_way a b n (suc steps) (actors.Aggregator k) agree there is =
    subst (λ (p : Actor). ReachesCore b steps p) (agree.same k there) (same_way a b n steps (parent_of a k) agree (agree.low k there) is)

-- the parent of each aggregator of a plan
pub parent_there : (plan : PlanState) (k : ℕ) → IsPlan plan → k < length plan.parents → IsParent plan.cores k (parent_of plan k)
parent_there plan k is lt = is.parents k (get_or plan.parents k no_parent) (slice_get-get_or plan.parents k no_parent lt)

agree_next : (plan : PlanState) (p : Parent) → IsPlan plan → Agree plan (with_parent plan p) (length plan.parents)
agree_next plan p is = record {
  cores = refl;
  same = λ k lt. ap (λ (p : Parent). p.actor) (sym (get_or_append_left plan.parents (p ∷ []) no_parent k lt));
  low = λ k lt. weaker plan.cores k (length plan.parents) (parent_of plan k) (omega arith) (parent_there plan k is lt);
}

parent_next : (plan : PlanState) (p : Parent) → IsPlan plan → IsParent plan.cores (length plan.parents) p.actor
    → (k : ℕ) (parent : Parent) → slice_get (plan.parents ++ p ∷ []) k ≡ Some parent → IsParent plan.cores k parent.actor
parent_next plan p is there k parent at =
    let within : k < length (plan.parents ++ p ∷ []) = slice_get_within (plan.parents ++ p ∷ []) k parent at in
    let size : length (plan.parents ++ p ∷ []) ≡ length plan.parents + 1 = length-append plan.parents (p ∷ []) in
    let read : get_or (plan.parents ++ p ∷ []) k no_parent ≡ parent = get_or_from_slice_get (plan.parents ++ p ∷ []) k parent no_parent at in
    elim (cases_lt k (length plan.parents)) [
      | inl lt ↦ subst (λ (x : Parent). IsParent plan.cores k x.actor) (sym (get_or_append_left plan.parents (p ∷ []) no_parent k lt) ∙ read) (parent_there plan k is lt)
      | inr ge ↦
          let last : k ≡ length plan.parents = omega arith in
          let here : p ≡ parent = sym (get_or-append_seam plan.parents p [] no_parent) ∙ ap (λ (i : ℕ). get_or (plan.parents ++ p ∷ []) i no_parent) (sym last) ∙ read in
          subst (λ (x : Parent). IsParent plan.cores k x.actor) here (subst (λ (i : ℕ). IsParent plan.cores i p.actor) (sym last) there)
    ]

low_next : (plan : PlanState) (p : Parent) → IsPlan plan → IsParent plan.cores (length plan.parents) p.actor → ReachesCore plan 7 p.actor
    → (k : ℕ) → k < length (plan.parents ++ p ∷ []) → ReachesCore (with_parent plan p) 8 (actors.Aggregator k)
unfolding ReachesCore
low_next plan p is there low k within =
    let size : length (plan.parents ++ p ∷ []) ≡ length plan.parents + 1 = length-append plan.parents (p ∷ []) in
    elim (cases_lt k (length plan.parents)) [
      | inl lt ↦ same_way plan (with_parent plan p) (length plan.parents) 8 (actors.Aggregator k) (agree_next plan p is) lt (is.low k lt)
      | inr ge ↦
          let last : k ≡ length plan.parents = omega arith in
          let here : get_or (plan.parents ++ p ∷ []) k no_parent ≡ p = ap (λ (i : ℕ). get_or (plan.parents ++ p ∷ []) i no_parent) last ∙ get_or-append_seam plan.parents p [] no_parent in
          subst (λ (x : Parent). ReachesCore (with_parent plan p) 7 x.actor) (sym here) (same_way plan (with_parent plan p) (length plan.parents) 7 p.actor (agree_next plan p is) there low)
    ]

names_next : (plan : PlanState) (p : Parent) → IsPlan plan → IfSome p.name IsName → (k : ℕ) → IfSome (name_of (with_parent plan p) k) IsName
names_next plan p is named k = elim (cases_lt k (length plan.parents)) [
  | inl lt ↦ subst (λ (x : Parent). IfSome x.name IsName) (sym (get_or_append_left plan.parents (p ∷ []) no_parent k lt)) (is.names k)
  | inr ge ↦ subst (λ (x : Parent). IfSome x.name IsName) (sym (get_or-append_right plan.parents (p ∷ []) k no_parent ge)) (one (k - length plan.parents))
]
  where
    one : (i : ℕ) → IfSome (get_or (p ∷ []) i no_parent).name IsName
    one zero = named
    one (suc i) = tt

-- a plan with one aggregator more
pub plan_next : (plan : PlanState) (p : Parent) → IsPlan plan → length plan.parents < 4096 → IsParent plan.cores (length plan.parents) p.actor → IfSome p.name IsName → reaches_core plan 7 p.actor ≡ true
    → IsPlan (with_parent plan p)
plan_next plan p is room there named low = record {
  core_plan = is.core_plan;
  many = omega (arith, length-append plan.parents (p ∷ []));
  parents = parent_next plan p is there;
  names = names_next plan p is named;
  low = low_next plan p is there (reached plan 7 p.actor low);
}

-- a plan of no aggregators in which others vote
pub plan_voting : (plan : PlanState) (pair : VotersFrom) → plan.parents ≡ [] → IsPlan plan → IsCorePlan (core_plan_of (with_members plan pair)) → IsPlan (with_members plan pair)
plan_voting plan pair none is core_plan = record {
  core_plan = core_plan;
  many = is.many;
  parents = is.parents;
  names = is.names;
  low = λ k lt. absurd (omega (arith, lt, ap length none));
}

-- a list of events with one more
pub events_next : (plan : PlanState) (es : List Event) (e : Event) → AreEvents plan es → IsEvent plan e → AreEvents plan (es ++ e ∷ [])
events_next plan [] e are is = (is, tt)
events_next plan (first ∷ es) e are is = (are.0, events_next plan es e are.1 is)

-- ---- in the code

-- what holds behind a call that adds something or fails
pub either_way : {A E : Type 0} (P : A → Type 0) (r : Result (Unit {0}) E) (new more old : A) → OnOk r (new ≡ more) → OnErr r (new ≡ old) → P more → P old → P new
either_way P (Ok u) new more old ok err grown kept = subst P (sym ok) grown
either_way P (Err e) new more old ok err grown kept = subst P (sym err) kept

pub at_core : (plan : PlanState) (steps j : ℕ) (a : Actor) → a ≡ actors.Core j → ltb j plan.cores ≡ reaches_core plan steps a
unfolding reaches_core
at_core plan steps j a is = rw is refl

pub one_up : (plan : PlanState) (steps k : ℕ) (a parent : Actor) (b : Bool) → a ≡ actors.Aggregator k → 0 < steps → parent ≡ parent_of plan k → b ≡ reaches_core plan (steps - 1) parent → b ≡ reaches_core plan steps a
unfolding reaches_core
one_up plan zero k a parent b is some up that = absurd (omega arith)
one_up plan (suc steps) k a parent b is some up that = let one : suc steps - 1 ≡ steps = omega arith in rw (is, that, up, one) refl

pub no_step : (plan : PlanState) (steps k : ℕ) (a : Actor) → a ≡ actors.Aggregator k → steps ≤ 0 → ltb 0 steps ≡ reaches_core plan steps a
unfolding reaches_core
no_step plan zero k a is none = rw is refl
no_step plan (suc steps) k a is none = absurd (omega arith)

pub no_events : (plan : PlanState) (es : List Event) → es ≡ [] → AreEvents plan es
no_events plan es none = rw none tt
