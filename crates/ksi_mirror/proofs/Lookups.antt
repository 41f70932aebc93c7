-- What a mirror has, by its lists of entries.
use Rattle.std.proofs.Common.{◌≡◌, ℕ, ◌<◌, ◌≤◌, Bool, true, false, cond, ◌&&◌, eqb, List, [], ◌∷◌, Option, Some, None, refl, ap, subst, arith}
use Rattle.std.specs.Prelude.{option_map}
use Rattle.std.specs.List.{AllByRecursion}
use Rattle.std.proofs.lemmas.Bool.{eqb-true, eqb-false}
use Rattle.ksi_aggtree.specs.declared.item.Item.{Item}
use Rattle.ksi_mirror.specs.declared.sealed_list.SealedList.{SealedList}
use Rattle.ksi_mirror.specs.Maps.{Agree, entry_at, or_else}
use Rattle.ksi_mirror.specs.Mirrors.{root_among, list_among, rank_at, rank, IsList}

abbrev pub second_of_root : ℕ × List ℕ → ℕ
second_of_root one = one.0

abbrev pub root_in : ℕ × List ℕ → List ℕ
root_in one = one.1

abbrev pub items_in : SealedList → List Item
items_in one = one.items

-- ---- roots

pub root_is : (xs : List (ℕ × List ℕ)) (t : ℕ) → root_among xs t ≡ option_map root_in (entry_at second_of_root xs t)
root_is [] t = refl
root_is (x ∷ xs) t = by (eqb x.0 t) (root_is xs t)
  where
    by : (here : Bool) → root_among xs t ≡ option_map root_in (entry_at second_of_root xs t) → cond here (Some x.1) (root_among xs t) ≡ option_map root_in (cond here (Some x) (entry_at second_of_root xs t))
    by true more = refl
    by false more = more

-- ---- lists

-- the ranks of cores below 16 are apart
pub rank_second : (t j u i : ℕ) → j < 16 → i < 16 → rank_at t j ≡ rank_at u i → t ≡ u
rank_second t j u i a b e = omega arith

pub rank_core : (t j u i : ℕ) → j < 16 → i < 16 → rank_at t j ≡ rank_at u i → j ≡ i
rank_core t j u i a b e = omega arith

pub list_is : (xs : List SealedList) (t j : ℕ) → AllByRecursion IsList xs → j < 16 → list_among xs t j ≡ option_map items_in (entry_at rank xs (rank_at t j))
list_is [] t j all lt = refl
list_is (x ∷ xs) t j all lt = by (eqb x.second t) (eqb x.core j) (eqb (rank x) (rank_at t j)) refl refl refl (list_is xs t j all.1 lt)
  where
    small : x.core < 16
    small = let c = all.0.core in omega (arith, c)

    by : (second core ranks : Bool) → eqb x.second t ≡ second → eqb x.core j ≡ core → eqb (rank x) (rank_at t j) ≡ ranks
        → list_among xs t j ≡ option_map items_in (entry_at rank xs (rank_at t j))
        → cond (second && core) (Some x.items) (list_among xs t j) ≡ option_map items_in (cond ranks (Some x) (entry_at rank xs (rank_at t j)))
    by true true true a b c more = refl
    by true true false a b c more = absurd (let p = eqb-true x.second t a in let q = eqb-true x.core j b in let r = eqb-false (rank x) (rank_at t j) c in omega (arith, p, q, r))
    by true false true a b c more = absurd (let q = eqb-false x.core j b in let r = eqb-true (rank x) (rank_at t j) c in q (rank_core x.second x.core t j small lt r))
    by true false false a b c more = more
    by false core true a b c more = absurd (let q = eqb-false x.second t a in let r = eqb-true (rank x) (rank_at t j) c in q (rank_second x.second x.core t j small lt r))
    by false true false a b c more = more
    by false false false a b c more = more

-- no core is so high
pub no_list : (xs : List SealedList) (t j : ℕ) → AllByRecursion IsList xs → 16 ≤ j → list_among xs t j ≡ None
no_list [] t j all le = refl
no_list (x ∷ xs) t j all le = by (eqb x.second t) (eqb x.core j) refl (no_list xs t j all.1 le)
  where
    by : (second core : Bool) → eqb x.core j ≡ core → list_among xs t j ≡ None → cond (second && core) (Some x.items) (list_among xs t j) ≡ None
    by second true b more = absurd (let c = all.0.core in let q = eqb-true x.core j b in omega (arith, c, q))
    by true false b more = more
    by false false b more = more

-- what is found is one of all
pub found_is : {A : Type 0} (key : A → ℕ) (P : A → Type 0) (xs : List A) (k : ℕ) (x : A) → AllByRecursion P xs → entry_at key xs k ≡ Some x → P x
found_is key P [] k x all e = absurd cc
found_is {A} key P (y ∷ xs) k x all e = by (λ e. found_is key P xs k x all.1 e) (eqb (key y) k) e
  where
    by : (entry_at key xs k ≡ Some x → P x) → (here : Bool) → cond here (Some y) (entry_at key xs k) ≡ Some x → P x
    by more true e = let same : y ≡ x = cc in subst P same all.0
    by more false e = more e

-- ---- agreeing, and the union, of what entries hold

pub agree_map : {A B : Type 0} (f : A → B) (o p : Option A) → Agree o p → Agree (option_map f o) (option_map f p)
agree_map f None p agree = tt
agree_map f (Some x) None agree = tt
agree_map f (Some x) (Some y) agree = ap f agree

pub or_map : {A B : Type 0} (f : A → B) (o p : Option A) → option_map f (or_else o p) ≡ or_else (option_map f o) (option_map f p)
or_map f None p = refl
or_map f (Some x) p = refl
