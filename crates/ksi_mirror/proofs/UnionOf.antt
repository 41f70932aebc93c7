-- The union of two lists of entries as a function, and the first entry of one that differs from the other's.
use Rattle.std.proofs.Common.{◌≡◌, ℕ, ◌+◌, ◌<◌, ◌≤◌, Bool, true, false, cond, eqb, ltb, List, [], ◌∷◌, map, Option, Some, None, refl, sym, ap, subst, ◌∙◌, arith}
use Rattle.std.specs.List.{AllByRecursion}
use Rattle.std.proofs.lemmas.Bool.{ltb-true, ltb-false, eqb-true, eqb-false}
use Rattle.ksi_journal.specs.Journal.{RiseFrom}
use Rattle.ksi_mirror.specs.declared.refusal.MergeRefusal.{MergeRefusal}
use Rattle.ksi_mirror.specs.Maps.{Agree, entry_at, or_else}
use Rattle.ksi_mirror.specs.Keys.{DifferFirst, IsUnited}
use Rattle.ksi_mirror.specs.Merged.{put_in, united, differs_from, first_differing}
use Rattle.ksi_mirror.proofs.ByKeys.{rise_earlier, none_below, at_first, at_later}
use Rattle.ksi_mirror.proofs.Lookups.{found_is}

or_nothing : {A : Type 0} (o : Option A) → o ≡ or_else o None
or_nothing None = refl
or_nothing (Some x) = refl

or_third : {A : Type 0} (o p q : Option A) → or_else (or_else o p) q ≡ or_else o (or_else p q)
or_third None p q = refl
or_third (Some x) p q = refl

-- ---- the union

module _ {A : Type 0} (key : A → ℕ) where
  abbrev at : List A → ℕ → Option A
  at xs k = entry_at key xs k

  put_rises : (y : A) (least : ℕ) (zs : List A) → RiseFrom least (map key zs) → least ≤ key y → RiseFrom least (map key (put_in key y zs))
  put_rises y least [] rise le = (le, tt)
  put_rises y least (x ∷ xs) rise le = by (ltb (key y) (key x)) (eqb (key x) (key y)) refl refl (λ lt. put_rises y (key x + 1) xs rise.1 lt)
    where
      by : (low same : Bool) → ltb (key y) (key x) ≡ low → eqb (key x) (key y) ≡ same → (key x + 1 ≤ key y → RiseFrom (key x + 1) (map key (put_in key y xs)))
          → RiseFrom least (map key (cond low (y ∷ x ∷ xs) (cond same (x ∷ xs) (x ∷ put_in key y xs))))
      by true same l s more = (le, (let lt = ltb-true (key y) (key x) l in omega (arith, lt), rise.1))
      by false true l s more = rise
      by false false l s more = (rise.0, more (let ge = ltb-false (key y) (key x) l in let ne = eqb-false (key x) (key y) s in omega (arith, ge, ne)))

  alone : (y : A) (k : ℕ) → (key y ≡ k → ⊥) → at (y ∷ []) k ≡ None
  alone y k other = by (eqb (key y) k) refl
    where
      by : (here : Bool) → eqb (key y) k ≡ here → cond here (Some y) None ≡ None
      by true is = absurd (other (eqb-true (key y) k is))
      by false is = refl

  put_at : (y : A) (least : ℕ) (zs : List A) → RiseFrom least (map key zs) → (k : ℕ) → at (put_in key y zs) k ≡ or_else (at zs k) (at (y ∷ []) k)
  put_at y least [] rise k = refl
  put_at y least (x ∷ xs) rise k = by (ltb (key y) (key x)) (eqb (key x) (key y)) refl refl (put_at y (key x + 1) xs rise.1 k)
    where
      below : key y < key x → (here : Bool) → eqb (key y) k ≡ here → cond here (Some y) (at (x ∷ xs) k) ≡ or_else (at (x ∷ xs) k) (cond here (Some y) None)
      below lt true is =
          let k_is = eqb-true (key y) k is in
          let none : at (x ∷ xs) k ≡ None = none_below key (key x) (x ∷ xs) k (omega arith, rise.1) (omega (arith, lt, k_is)) in
          sym (ap (λ o. or_else o (Some y)) none)
      below lt false is = or_nothing (at (x ∷ xs) k)

      beside : key x ≡ key y → (here : Bool) → eqb (key x) k ≡ here → cond here (Some x) (at xs k) ≡ or_else (cond here (Some x) (at xs k)) (at (y ∷ []) k)
      beside same true is = refl
      beside same false is =
          let ne = eqb-false (key x) k is in
          or_nothing (at xs k) ∙ ap (λ o. or_else (at xs k) o) (sym (alone y k (λ e. ne (same ∙ e))))

      behind : at (put_in key y xs) k ≡ or_else (at xs k) (at (y ∷ []) k) → (here : Bool) → cond here (Some x) (at (put_in key y xs) k) ≡ or_else (cond here (Some x) (at xs k)) (at (y ∷ []) k)
      behind more true = refl
      behind more false = more

      by : (low same : Bool) → ltb (key y) (key x) ≡ low → eqb (key x) (key y) ≡ same → at (put_in key y xs) k ≡ or_else (at xs k) (at (y ∷ []) k)
          → at (cond low (y ∷ x ∷ xs) (cond same (x ∷ xs) (x ∷ put_in key y xs))) k ≡ or_else (at (x ∷ xs) k) (at (y ∷ []) k)
      by true same l s more = below (ltb-true (key y) (key x) l) (eqb (key y) k) refl
      by false true l s more = beside (eqb-true (key x) (key y) s) (eqb (key x) k) refl
      by false false l s more = behind more (eqb (key x) k)

  united_rises : (least : ℕ) (xs ys : List A) → RiseFrom least (map key xs) → RiseFrom least (map key ys) → RiseFrom least (map key (united key xs ys))
  united_rises least xs [] rx ry = rx
  united_rises least xs (y ∷ ys) rx ry =
      let le = ry.0 in put_rises y least (united key xs ys) (united_rises least xs ys rx (rise_earlier least (key y + 1) (map key ys) (omega (arith, le)) ry.1)) ry.0

  united_at : (least : ℕ) (xs ys : List A) → RiseFrom least (map key xs) → RiseFrom least (map key ys) → (k : ℕ) → at (united key xs ys) k ≡ or_else (at xs k) (at ys k)
  united_at least xs [] rx ry k = or_nothing (at xs k)
  united_at least xs (y ∷ ys) rx ry k =
      put_at y least (united key xs ys) (united_rises least xs ys rx rest) k ∙ ap (λ o. or_else o (at (y ∷ []) k)) (united_at least xs ys rx rest k)
      ∙ or_third (at xs k) (at ys k) (at (y ∷ []) k) ∙ ap (λ o. or_else (at xs k) o) (by (eqb (key y) k) refl)
    where
      rest : RiseFrom least (map key ys)
      rest = let le = ry.0 in rise_earlier least (key y + 1) (map key ys) (omega (arith, le)) ry.1

      by : (here : Bool) → eqb (key y) k ≡ here → or_else (at ys k) (cond here (Some y) None) ≡ cond here (Some y) (at ys k)
      by true is = ap (λ o. or_else o (Some y)) (let k_is = eqb-true (key y) k is in none_below key (key y + 1) ys k ry.1 (omega (arith, k_is)))
      by false is = sym (or_nothing (at ys k))

  pub united_is : (least : ℕ) (xs ys : List A) → RiseFrom least (map key xs) → RiseFrom least (map key ys) → ((k : ℕ) → Agree (at xs k) (at ys k)) → IsUnited key xs ys (united key xs ys)
  united_is least xs ys rx ry agree = record {
    agree = agree;
    both = united_at least xs ys rx ry;
    rises = λ from one two. united_rises from xs ys one two;
  }

-- ---- where they differ

-- two entries that differ first, and what is said of them
pub record Differing {A : Type 0} (key : A → ℕ) (differ : A → A → Option MergeRefusal) (xs ys : List A) (refusal : MergeRefusal) : Type 0 where
  pub one : A
  pub two : A
  pub differ_first : DifferFirst key xs ys one two
  pub says : differ one two ≡ Some refusal

-- what the first refusal says, and what it says that there is none
abbrev pub Says : {A : Type 0} → (A → ℕ) → (A → A → Option MergeRefusal) → List A → List A → Option MergeRefusal → Type 0
Says key differ xs ys None = (k : ℕ) → Agree (entry_at key xs k) (entry_at key ys k)
Says key differ xs ys (Some refusal) = Differing key differ xs ys refusal

module _ {A : Type 0} (key : A → ℕ) (P : A → Type 0) (differ : A → A → Option MergeRefusal)
    (same_if : (x y : A) → P x → P y → key x ≡ key y → differ x y ≡ None → x ≡ y) (not_itself : (x y : A) (refusal : MergeRefusal) → differ x y ≡ Some refusal → x ≡ y → ⊥) where
  module _ (x : A) (xs ys : List A) (rise : RiseFrom (key x + 1) (map key xs)) where
    agree_with : Agree (Some x) (entry_at key ys (key x)) → (k : ℕ) → Agree (entry_at key xs k) (entry_at key ys k) → Agree (entry_at key (x ∷ xs) k) (entry_at key ys k)
    agree_with here k more = by (eqb (key x) k) refl
      where
        by : (same : Bool) → eqb (key x) k ≡ same → Agree (cond same (Some x) (entry_at key xs k)) (entry_at key ys k)
        by true is = subst (λ k. Agree (Some x) (entry_at key ys k)) (eqb-true (key x) k is) here
        by false is = more

    says_on : Agree (Some x) (entry_at key ys (key x)) → (p : Option MergeRefusal) → Says key differ xs ys p → Says key differ (x ∷ xs) ys p
    says_on here None more = λ k. agree_with here k (more k)
    says_on here (Some refusal) more = record {
      one = more.one;
      two = more.two;
      says = more.says;
      differ_first = record {
        first = sym (at_later key x xs (key more.one) (later (ltb (key x) (key more.one)) refl)) ∙ more.differ_first.first;
        second = more.differ_first.second;
        other = more.differ_first.other;
        before = λ k lt. agree_with here k (more.differ_first.before k lt);
      };
    }
      where
        later : (above : Bool) → ltb (key x) (key more.one) ≡ above → key x < key more.one
        later true is = ltb-true (key x) (key more.one) is
        later false is = absurd (
            let le = ltb-false (key x) (key more.one) is in
            let none : entry_at key xs (key more.one) ≡ None = none_below key (key x + 1) xs (key more.one) rise (omega (arith, le)) in
            let some = more.differ_first.first in
            cc)

    says_here : P x → (y : A) → P y → entry_at key ys (key x) ≡ Some y → key x ≡ key y → (q p : Option MergeRefusal) → differ x y ≡ q → Says key differ xs ys p → Says key differ (x ∷ xs) ys (or_else q p)
    says_here px y py found keys None p e more = says_on (subst (λ o. Agree (Some x) o) (sym found) (same_if x y px py keys e)) p more
    says_here px y py found keys (Some refusal) p e more = record {
      one = x;
      two = y;
      says = e;
      differ_first = record {
        first = at_first key x xs;
        second = found;
        other = not_itself x y refusal e;
        before = λ k lt. subst (λ o. Agree o (entry_at key ys k)) (sym (none_below key (key x) (x ∷ xs) k (omega arith, rise) lt)) tt;
      };
    }

  pub differing_says : (least : ℕ) (xs ys : List A) → RiseFrom least (map key xs) → AllByRecursion P xs → AllByRecursion P ys → ((k : ℕ) (y : A) → entry_at key ys k ≡ Some y → key y ≡ k)
      → Says key differ xs ys (first_differing key differ xs ys)
  differing_says least [] ys rise all_first all_second keys = λ k. tt
  differing_says least (x ∷ xs) ys rise all_first all_second keys = by (entry_at key ys (key x)) refl (first_differing key differ xs ys) (differing_says (key x + 1) xs ys rise.1 all_first.1 all_second keys)
    where
      by : (o : Option A) → entry_at key ys (key x) ≡ o → (p : Option MergeRefusal) → Says key differ xs ys p → Says key differ (x ∷ xs) ys (or_else (differs_from differ x o) p)
      by None e p more = says_on x xs ys rise.1 (subst (λ o. Agree (Some x) o) (sym e) tt) p more
      by (Some y) e p more = says_here x xs ys rise.1 all_first.0 y (found_is key P ys (key x) y all_second e) e (sym (keys (key x) y e)) (differ x y) p refl more
