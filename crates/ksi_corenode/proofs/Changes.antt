-- What is seen of the seconds as their parts change.
use Rattle.std.proofs.Common.{◌≡◌, ◌∙◌, ℕ, List, Option, Some, None, Bool, true, false, refl, sym, ap, subst}
use Rattle.std.specs.Prelude.{◌==◌, if◌then◌else◌, option_map, is_some, IsSome, IsNone, IfSome, ◌↔◌, Result, Ok, Err, OnOk, OnErr}
use Rattle.std.proofs.lemmas.Bool.{cond_both, eqb-true}
use Rattle.ksi_aggtree.specs.declared.entries.Entry.{Entry}
use Rattle.ksi_aggtree.specs.Entries.{candidate_of}
use Rattle.ksi_synod.specs.VoteState.{VoteState, stable_of}
use Rattle.ksi_corenode.specs.Kept.{Keeps}
use Rattle.ksi_corenode.specs.declared.stable.StablePart.{StablePart}
use Rattle.ksi_synod.specs.CorePlans.{CorePlanState, voters_of}
use Rattle.ksi_corenode.specs.SecondState.{SecondState}
use Rattle.ksi_corenode.specs.Stored.{VolatileState, volatile_at, items_from, second_of, AreSealed, IsSealedWell}
use Rattle.ksi_corenode.specs.CoreState.{CoreState, stable_at, state_of, IsSame, IsChange}

-- ONE SECOND

-- the candidate of a sealed second is the imprint of its items' tree
pub candidate_is : (image : List ℕ → List ℕ) (me : ℕ) (voters : List ℕ) (items : List Entry) (s : StablePart) (v : VolatileState) → IsSealedWell image items s →
    s.vote.candidate ≡ option_map (candidate_of image) (second_of me voters items s v).sealed
unfolding second_of
candidate_is image me voters items s v well = by s.vote.candidate well
  where
    by : (o : Option (List ℕ)) → IfSome o (AreSealed image items s.first s.count) → o ≡ option_map (candidate_of image) (option_map (λ (candidate : List ℕ). items_from items s.first s.count) o)
    by None w = refl
    by (Some candidate) w = ap Some w.imprint

pub is_sealed : (me : ℕ) (voters : List ℕ) (items : List Entry) (s : StablePart) (v : VolatileState) → is_some s.vote.candidate ≡ is_some (second_of me voters items s v).sealed
unfolding second_of
is_sealed me voters items s v = by s.vote.candidate
  where
    by : (o : Option (List ℕ)) → is_some o ≡ is_some (option_map (λ (candidate : List ℕ). items_from items s.first s.count) o)
    by None = refl
    by (Some candidate) = refl

-- A CHANGE

-- what is written at a second is there
pub written : {A : Type 0} (old new : ℕ → A) (t : ℕ) (a : A) → ((u : ℕ) → new u ≡ (if u == t then a else old u)) → (P : ℕ → A → Type 0) → ((u : ℕ) → P u (old u)) → P t a → (u : ℕ) → P u (new u)
written old new t a is P each here u = subst (λ x. P u x) (sym (is u)) (cond_both (u == t) a (old u) (λ x. P u x) (λ same. subst (λ n. P n a) (sym (eqb-true u t same)) here) (λ _. each u))

-- both parts of a second change
pub parts_change : (old new : CoreState) (t : ℕ) (part : StablePart) (volatile : VolatileState) → new.me ≡ old.me → new.plan ≡ old.plan → new.items ≡ old.items →
    ((u : ℕ) → stable_at new u ≡ (if u == t then part else stable_at old u)) →
    ((u : ℕ) → volatile_at new.volatile_parts u ≡ (if u == t then volatile else volatile_at old.volatile_parts u)) →
    (u : ℕ) → state_of new u ≡ (if u == t then second_of old.me (voters_of old.plan t) old.items part volatile else state_of old u)
unfolding state_of
parts_change old new t part volatile me plan items stable_parts volatile_parts u =
    ap (λ (n : ℕ). second_of n (voters_of new.plan u) new.items (stable_at new u) (volatile_at new.volatile_parts u)) me
    ∙ ap (λ (p : CorePlanState). second_of old.me (voters_of p u) new.items (stable_at new u) (volatile_at new.volatile_parts u)) plan
    ∙ ap (λ (es : List Entry). second_of old.me (voters_of old.plan u) es (stable_at new u) (volatile_at new.volatile_parts u)) items
    ∙ ap (λ (s : StablePart). second_of old.me (voters_of old.plan u) old.items s (volatile_at new.volatile_parts u)) (stable_parts u)
    ∙ ap (λ (v : VolatileState). second_of old.me (voters_of old.plan u) old.items (if u == t then part else stable_at old u) v) (volatile_parts u)
    ∙ by (u == t) refl
  where
    by : (b : Bool) → (u == t) ≡ b → second_of old.me (voters_of old.plan u) old.items (if b then part else stable_at old u) (if b then volatile else volatile_at old.volatile_parts u)
        ≡ (if b then second_of old.me (voters_of old.plan t) old.items part volatile else second_of old.me (voters_of old.plan u) old.items (stable_at old u) (volatile_at old.volatile_parts u))
    by true same = ap (λ (n : ℕ). second_of old.me (voters_of old.plan n) old.items part volatile) (eqb-true u t same)
    by false other = refl

-- so the second is one of these parts, and all else is as it was
pub change_of : (old new : CoreState) (t : ℕ) (part : StablePart) (volatile : VolatileState) (after : SecondState) → new.me ≡ old.me → new.plan ≡ old.plan → new.start ≡ old.start → new.items ≡ old.items →
    ((u : ℕ) → stable_at new u ≡ (if u == t then part else stable_at old u)) →
    ((u : ℕ) → volatile_at new.volatile_parts u ≡ (if u == t then volatile else volatile_at old.volatile_parts u)) →
    second_of old.me (voters_of old.plan t) old.items part volatile ≡ after →
    IsChange old new t after
change_of old new t part volatile after me plan start items stable_parts volatile_parts is = record {
  me = me;
  plan = plan;
  start = start;
  seconds = λ u. parts_change old new t part volatile me plan items stable_parts volatile_parts u ∙ ap (λ (s : SecondState). if u == t then s else state_of old u) is;
}

-- THE VOTE

-- the part in the vote is another, with the same candidate
pub vote_put : (core : CoreState) (t : ℕ) (part : StablePart) (volatile : VolatileState) (vote : VoteState) → Keeps (state_of core t).vote vote →
    part ≡ record { vote = stable_of vote; first = (stable_at core t).first; count = (stable_at core t).count } →
    volatile ≡ record (volatile_at core.volatile_parts t) { hand = vote.hand } →
    second_of core.me (voters_of core.plan t) core.items part volatile ≡ record (state_of core t) { vote = vote }
unfolding state_of second_of
vote_put core t part volatile vote keeps part_is volatile_is =
    let s = stable_at core t in
    let v = volatile_at core.volatile_parts t in
    let own : StablePart = record { vote = stable_of vote; first = s.first; count = s.count } in
    let hand : VolatileState = record v { hand = vote.hand } in
    ap (λ (x : StablePart). second_of core.me (voters_of core.plan t) core.items x volatile) part_is
    ∙ ap (λ (x : VolatileState). second_of core.me (voters_of core.plan t) core.items own x) volatile_is
    ∙ ap (λ (n : ℕ). second_of n (voters_of core.plan t) core.items own hand) (sym keeps.me)
    ∙ ap (λ (vs : List ℕ). second_of vote.me vs core.items own hand) (sym keeps.voters)
    ∙ ap (λ (o : Option (List ℕ)). with_sealed (option_map (λ (candidate : List ℕ). items_from core.items s.first s.count) o)) keeps.candidate
  where
    with_sealed : Option (List Entry) → SecondState
    with_sealed sealed = record { vote = vote; open_items = (volatile_at core.volatile_parts t).open_items; sealed = sealed }

-- what was sealed well is so with the same candidate and items
pub well_same : (image : List ℕ → List ℕ) (items : List Entry) (old part : StablePart) → part.vote.candidate ≡ old.vote.candidate → part.first ≡ old.first → part.count ≡ old.count →
    IsSealedWell image items old → IsSealedWell image items part
well_same image items old part candidate first count well =
    subst (λ (o : Option (List ℕ)). IfSome o (AreSealed image items part.first part.count)) (sym candidate)
    (subst (λ (n : ℕ). IfSome old.vote.candidate (AreSealed image items n part.count)) (sym first)
    (subst (λ (n : ℕ). IfSome old.vote.candidate (AreSealed image items old.first n)) (sym count) well))

-- THE OPEN ITEMS

pub items_put : (core : CoreState) (t : ℕ) (items : List Entry) →
    second_of core.me (voters_of core.plan t) core.items (stable_at core t) (record (volatile_at core.volatile_parts t) { open_items = items }) ≡ record (state_of core t) { open_items = items }
unfolding state_of second_of
items_put core t items = refl

pub open_items_are : (core : CoreState) (t : ℕ) → (volatile_at core.volatile_parts t).open_items ≡ (state_of core t).open_items
unfolding state_of second_of
open_items_are core t = refl

-- what stays at a second, said of each
pub stays_at : {A : Type 0} (at : ℕ → A) (t u : ℕ) → at u ≡ (if u == t then at t else at u)
stays_at at t u = cond_both (u == t) (at t) (at u) (λ a. at u ≡ a) (λ same. ap at (eqb-true u t same)) (λ _. refl)

-- nothing is seen of volatile parts that are the same at each second
pub same_volatile_parts : (core : CoreState) (volatile_parts : List (ℕ × VolatileState)) → ((u : ℕ) → volatile_at volatile_parts u ≡ volatile_at core.volatile_parts u) → IsSame core (record core { volatile_parts = volatile_parts })
unfolding state_of
same_volatile_parts core volatile_parts same = record {
  me = refl;
  plan = refl;
  start = refl;
  seconds = λ u. ap (λ (v : VolatileState). second_of core.me (voters_of core.plan u) core.items (stable_at core u) v) (same u);
}

pub on_err : {T E : Type 0} (r : Result T E) (P : Type 0) → P → OnErr r P
on_err (Ok t) P p = tt
on_err (Err e) P p = p

pub on_ok : {T E : Type 0} (r : Result T E) {P Q : Type 0} → (P → Q) → OnOk r P → OnOk r Q
on_ok (Ok t) so p = so p
on_ok (Err e) so p = tt

pub no_some : {A : Type 0} (o : Option A) → is_some o ≡ false → IsNone o
no_some None is = refl
no_some (Some a) is = absurd (cc is)

-- a second is sealed where it has a candidate
pub none_sealed : (core : CoreState) (t : ℕ) → IsNone (state_of core t).vote.candidate ↔ IsNone (state_of core t).sealed
unfolding state_of second_of
none_sealed core t = by (stable_at core t).vote.candidate
  where
    by : (o : Option (List ℕ)) → IsNone o ↔ IsNone (option_map (λ (candidate : List ℕ). items_from core.items (stable_at core t).first (stable_at core t).count) o)
    by None = (λ n. n, λ n. n)
    by (Some candidate) = (λ n. absurd (cc n), λ n. absurd (cc n))

pub some_sealed : (core : CoreState) (t : ℕ) → IsSome (state_of core t).vote.candidate ↔ IsSome (state_of core t).sealed
unfolding state_of second_of
some_sealed core t = by (stable_at core t).vote.candidate
  where
    by : (o : Option (List ℕ)) → IsSome o ↔ IsSome (option_map (λ (candidate : List ℕ). items_from core.items (stable_at core t).first (stable_at core t).count) o)
    by None = (λ s. s, λ s. s)
    by (Some candidate) = (λ _. refl, λ _. refl)
