-- Lists of entries that rise by their keys, as finite maps.
use Rattle.std.proofs.Common.{◌≡◌, ℕ, ◌+◌, ◌<◌, ◌≤◌, Bool, true, false, cond, eqb, ltb, List, [], ◌∷◌, ◌++◌, length, map, Option, Some, None, Result, Ok, Err, refl, sym, ap, subst, ◌∙◌, arith}
use Rattle.std.proofs.lemmas.Bool.{ltb-true, ltb-false, eqb-true, eqb-false, eq-eqb, ne_eqb}
use Rattle.std.proofs.lemmas.List.{map-append}
use Rattle.std.specs.Borrow.{Bor}
use Rattle.ksi_journal.specs.Journal.{RiseFrom}
use Rattle.ksi_journal.proofs.Rising.{least_behind, rise_more}
use Rattle.ksi_mirror.specs.Maps.{Agree, entry_at, or_else}
use Rattle.ksi_mirror.specs.Keys.{DifferFirst, IsLeast, SaysLeast, IsUnited}

pub rise_earlier : (least most : ℕ) (ns : List ℕ) → least ≤ most → RiseFrom most ns → RiseFrom least ns
rise_earlier least most [] le rise = tt
rise_earlier least most (n ∷ ns) le rise = (omega (arith, le, rise.0), rise.1)

abbrev pub nothing : {A : Type 0} → Option A
nothing = None

module _ {A : Type 0} (key : A → ℕ) where
  abbrev pub at : List A → ℕ → Option A
  at xs k = entry_at key xs k

  pub none_below : (from : ℕ) (xs : List A) (k : ℕ) → RiseFrom from (map key xs) → k < from → at xs k ≡ None
  none_below from [] k rise lt = refl
  none_below from (x ∷ xs) k rise lt =
      let le = rise.0 in
      let other : eqb (key x) k ≡ false = ne_eqb (key x) k (λ e. absurd (omega arith)) in
      rw other (none_below (key x + 1) xs k rise.1 (omega arith))

  pub none_behind : (from : ℕ) (xs : List A) (k : ℕ) → RiseFrom from (map key xs) → least_behind from (map key xs) ≤ k → at xs k ≡ None
  none_behind from [] k rise le = refl
  none_behind from (x ∷ xs) k rise le = by (none_behind (key x + 1) xs k rise.1 le) (eqb (key x) k) refl
    where
      -- what stands behind a rising list is above its first
      above : (n : ℕ) (ns : List ℕ) → RiseFrom n ns → n ≤ least_behind n ns
      above n [] rise = omega arith
      above n (m ∷ ns) rise = let le = rise.0 in let more = above (m + 1) ns rise.1 in omega arith

      by : at xs k ≡ None → (here : Bool) → eqb (key x) k ≡ here → cond here (Some x) (at xs k) ≡ None
      by more true is = absurd (let same = eqb-true (key x) k is in let more = above (key x + 1) (map key xs) rise.1 in omega (arith, le, more, same))
      by more false is = more

  pub at_first : (x : A) (xs : List A) → at (x ∷ xs) (key x) ≡ Some x
  at_first x xs = let same : eqb (key x) (key x) ≡ true = eq-eqb (key x) (key x) refl in rw same refl

  pub at_later : (x : A) (xs : List A) (k : ℕ) → key x < k → at xs k ≡ at (x ∷ xs) k
  at_later x xs k lt = let other : eqb (key x) k ≡ false = ne_eqb (key x) k (λ e. absurd (omega arith)) in rw other refl

  pub at_more : (xs : List A) (x : A) (k : ℕ) → at (xs ++ x ∷ []) k ≡ or_else (at xs k) (at (x ∷ []) k)
  at_more [] x k = refl
  at_more (y ∷ xs) x k = by (eqb (key y) k) (at_more xs x k)
    where
      by : (here : Bool) → at (xs ++ x ∷ []) k ≡ or_else (at xs k) (at (x ∷ []) k) → cond here (Some y) (at (xs ++ x ∷ []) k) ≡ or_else (cond here (Some y) (at xs k)) (at (x ∷ []) k)
      by true more = refl
      by false more = more

  -- what stands under a key has it
  pub at_key : (xs : List A) (k : ℕ) (x : A) → at xs k ≡ Some x → key x ≡ k
  at_key [] k x e = absurd cc
  at_key (y ∷ xs) k x e = by (λ e. at_key xs k x e) (eqb (key y) k) refl e
    where
      by : (at xs k ≡ Some x → key x ≡ k) → (here : Bool) → eqb (key y) k ≡ here → cond here (Some y) (at xs k) ≡ Some x → key x ≡ k
      by more true is e = let same : y ≡ x = cc in let k_is = eqb-true (key y) k is in ap key (sym same) ∙ k_is
      by more false is e = more e

  -- ---- the same under each key is the same list

  pub same_entries : (from : ℕ) (xs ys : List A) → RiseFrom from (map key xs) → RiseFrom from (map key ys) → ((k : ℕ) → at xs k ≡ at ys k) → xs ≡ ys
  same_entries from [] [] rx ry same = refl
  same_entries from [] (y ∷ ys) rx ry same = absurd (let e : nothing ≡ Some y = same (key y) ∙ at_first y ys in cc)
  same_entries from (x ∷ xs) [] rx ry same = absurd (let e : Some x ≡ nothing = sym (at_first x xs) ∙ same (key x) in cc)
  same_entries from (x ∷ xs) (y ∷ ys) rx ry same =
      by (λ from rx ry same. same_entries from xs ys rx ry same) (ltb (key x) (key y)) (ltb (key y) (key x)) refl refl
    where
      -- a first entry that the other list begins above is not in it
      absent : (u : A) (us : List A) (v : A) (vs : List A) → RiseFrom from (map key (v ∷ vs)) → key u < key v → at (u ∷ us) (key u) ≡ at (v ∷ vs) (key u) → ⊥
      absent u us v vs rise lt e = absurd (
          let here = at_first u us in
          let none : at (v ∷ vs) (key u) ≡ None = none_below (key v) (v ∷ vs) (key u) (omega arith, rise.1) lt in
          cc)

      tails : key x ≡ key y → (k : ℕ) → (low : Bool) → ltb (key x) k ≡ low → at xs k ≡ at ys k
      tails e k true lt = let l = ltb-true (key x) k lt in at_later x xs k l ∙ same k ∙ sym (at_later y ys k (omega (arith, l, e)))
      tails e k false ge =
          let g = ltb-false (key x) k ge in
          none_below (key x + 1) xs k rx.1 (omega (arith, g)) ∙ sym (none_below (key y + 1) ys k ry.1 (omega (arith, g, e)))

      by : ((from : ℕ) → RiseFrom from (map key xs) → RiseFrom from (map key ys) → ((k : ℕ) → at xs k ≡ at ys k) → xs ≡ ys)
          → (low high : Bool) → ltb (key x) (key y) ≡ low → ltb (key y) (key x) ≡ high → x ∷ xs ≡ y ∷ ys
      by more true high lt gt = absurd (absent x xs y ys ry (ltb-true (key x) (key y) lt) (same (key x)))
      by more false true lt gt = absurd (absent y ys x xs rx (ltb-true (key y) (key x) gt) (sym (same (key y))))
      by more false false lt gt =
          let a = ltb-false (key x) (key y) lt in
          let b = ltb-false (key y) (key x) gt in
          let e : key x ≡ key y = omega (arith, a, b) in
          let here : Some x ≡ Some y = sym (at_first x xs) ∙ same (key x) ∙ ap (λ k. at (y ∷ ys) k) e ∙ at_first y ys in
          let first : x ≡ y = cc in
          let ry_on : RiseFrom (key x + 1) (map key ys) = subst (λ n. RiseFrom (n + 1) (map key ys)) (sym e) ry.1 in
          ap (λ u. u ∷ xs) first ∙ ap (λ us. y ∷ us) (more (key x + 1) rx.1 ry_on (λ k. tails e k (ltb (key x) k) refl))

  -- ---- merging: what is merged so far, and what is left of both lists, whose keys are at the end or behind it

  pub record Merging (end : ℕ) (merged left right xs ys : List A) : Type 0 where
    pub rises : RiseFrom 0 (map key merged)
    pub behind : least_behind 0 (map key merged) ≤ end
    pub left_rises : RiseFrom end (map key left)
    pub right_rises : RiseFrom end (map key right)
    pub left_is : (k : ℕ) → end ≤ k → at left k ≡ at xs k
    pub right_is : (k : ℕ) → end ≤ k → at right k ≡ at ys k
    pub done : (k : ℕ) → k < end → at merged k ≡ or_else (at xs k) (at ys k)
    pub agree : (k : ℕ) → k < end → Agree (at xs k) (at ys k)
    pub above : (least : ℕ) → RiseFrom least (map key xs) → RiseFrom least (map key ys) → RiseFrom least (map key merged) × RiseFrom least (map key left) × RiseFrom least (map key right)

  -- ---- the least entry of two lists

  least_of_first : (from : ℕ) (x : A) (xs ys : List A) → RiseFrom from (map key (x ∷ xs)) → RiseFrom (key x + 1) (map key ys) → IsLeast key (x ∷ xs) ys x xs ys
  least_of_first from x xs ys rx ry =
      let here : at (x ∷ xs) (key x) ≡ Some x = at_first x xs in
      let none : at ys (key x) ≡ None = none_below (key x + 1) ys (key x) ry (omega arith) in
      record {
        there = rw here refl;
        agree = rw (here, none) tt;
        none_first = λ k lt. none_below (key x) (x ∷ xs) k (omega arith, rx.1) lt;
        none_second = λ k lt. none_below (key x + 1) ys k ry (omega (arith, lt));
        first_behind = λ k lt. at_later x xs k lt;
        second_behind = λ k lt. refl;
        first_rises = rx.1;
        second_rises = ry;
        above = λ least rise other. rise.0;
        fewer = omega arith;
      }

  least_of_second : (from : ℕ) (x : A) (xs ys : List A) → RiseFrom from (map key (x ∷ xs)) → RiseFrom (key x + 1) (map key ys) → IsLeast key ys (x ∷ xs) x ys xs
  least_of_second from x xs ys rx ry =
      let here : at (x ∷ xs) (key x) ≡ Some x = at_first x xs in
      let none : at ys (key x) ≡ None = none_below (key x + 1) ys (key x) ry (omega arith) in
      record {
        there = rw (none, here) refl;
        agree = rw none tt;
        none_first = λ k lt. none_below (key x + 1) ys k ry (omega (arith, lt));
        none_second = λ k lt. none_below (key x) (x ∷ xs) k (omega arith, rx.1) lt;
        first_behind = λ k lt. refl;
        second_behind = λ k lt. at_later x xs k lt;
        first_rises = ry;
        second_rises = rx.1;
        above = λ least other rise. rise.0;
        fewer = omega arith;
      }

  -- of two entries of one key
  same_at : (x y : A) (xs ys : List A) → key x ≡ key y → at (y ∷ ys) (key x) ≡ Some y
  same_at x y xs ys e = ap (λ k. at (y ∷ ys) k) e ∙ at_first y ys

  pub least_of_both : (from : ℕ) (x y : A) (xs ys : List A) → RiseFrom from (map key (x ∷ xs)) → RiseFrom from (map key (y ∷ ys)) → x ≡ y → IsLeast key (x ∷ xs) (y ∷ ys) x xs ys
  least_of_both from x y xs ys rx ry e =
      let k_is : key x ≡ key y = ap key e in
      let here : at (x ∷ xs) (key x) ≡ Some x = at_first x xs in
      let there : at (y ∷ ys) (key x) ≡ Some y = same_at x y xs ys k_is in
      record {
        there = rw here refl;
        agree = rw (here, there) e;
        none_first = λ k lt. none_below (key x) (x ∷ xs) k (omega arith, rx.1) lt;
        none_second = λ k lt. none_below (key y) (y ∷ ys) k (omega arith, ry.1) (omega (arith, lt, k_is));
        first_behind = λ k lt. at_later x xs k lt;
        second_behind = λ k lt. at_later y ys k (omega (arith, lt, k_is));
        first_rises = rx.1;
        second_rises = subst (λ n. RiseFrom (n + 1) (map key ys)) (sym k_is) ry.1;
        above = λ least rise other. rise.0;
        fewer = omega arith;
      }

  pub differ_first : (from : ℕ) (x y : A) (xs ys : List A) → RiseFrom from (map key (x ∷ xs)) → RiseFrom from (map key (y ∷ ys)) → (key x < key y → ⊥) → (key y < key x → ⊥) → (x ≡ y → ⊥) → DifferFirst key (x ∷ xs) (y ∷ ys) x y
  differ_first from x y xs ys rx ry low high other =
      let k_is : key x ≡ key y = by (ltb (key x) (key y)) (ltb (key y) (key x)) refl refl in
      record {
        first = at_first x xs;
        second = same_at x y xs ys k_is;
        other = other;
        before = λ k lt. subst (λ o. Agree o (at (y ∷ ys) k)) (sym (none_below (key x) (x ∷ xs) k (omega arith, rx.1) lt)) tt;
      }
    where
      by : (one two : Bool) → ltb (key x) (key y) ≡ one → ltb (key y) (key x) ≡ two → key x ≡ key y
      by true two a b = absurd (low (ltb-true (key x) (key y) a))
      by false true a b = absurd (high (ltb-true (key y) (key x) b))
      by false false a b = let p = ltb-false (key x) (key y) a in let q = ltb-false (key y) (key x) b in omega (arith, p, q)

  -- where it is before the first of the other list
  pub least_before : (from : ℕ) (x y : A) (xs ys : List A) → RiseFrom from (map key (x ∷ xs)) → RiseFrom from (map key (y ∷ ys)) → key x < key y → IsLeast key (x ∷ xs) (y ∷ ys) x xs (y ∷ ys)
  least_before from x y xs ys rx ry lt = least_of_first from x xs (y ∷ ys) rx (omega (arith, lt), ry.1)

  pub least_behind_it : (from : ℕ) (x y : A) (xs ys : List A) → RiseFrom from (map key (x ∷ xs)) → RiseFrom from (map key (y ∷ ys)) → key y < key x → IsLeast key (x ∷ xs) (y ∷ ys) y (x ∷ xs) ys
  least_behind_it from x y xs ys rx ry lt = least_of_second from y ys (x ∷ xs) ry (omega (arith, lt), rx.1)

  pub least_alone : (from : ℕ) (x : A) (xs : List A) → RiseFrom from (map key (x ∷ xs)) → IsLeast key (x ∷ xs) [] x xs []
  least_alone from x xs rx = least_of_first from x xs [] rx tt

  pub least_of_other : (from : ℕ) (x : A) (xs : List A) → RiseFrom from (map key (x ∷ xs)) → IsLeast key [] (x ∷ xs) x [] xs
  least_of_other from x xs rx = least_of_second from x xs [] rx tt

  -- ---- one step of merging

  pub merging_begins : (xs ys : List A) → RiseFrom 0 (map key xs) → RiseFrom 0 (map key ys) → Merging 0 [] xs ys xs ys
  merging_begins xs ys rx ry = record {
    rises = tt;
    behind = omega arith;
    left_rises = rx;
    right_rises = ry;
    left_is = λ k le. refl;
    right_is = λ k le. refl;
    done = λ k lt. absurd (omega (arith, lt));
    agree = λ k lt. absurd (omega (arith, lt));
    above = λ least rx ry. (tt, rx, ry);
  }

  module _ (end : ℕ) (merged left right xs ys : List A) (so : Merging end merged left right xs ys) (x : A) (others further : List A) (least : IsLeast key left right x others further) where
    later : end ≤ key x
    later = least.above end so.left_rises so.right_rises

    none_merged : (k : ℕ) → end ≤ k → at merged k ≡ None
    none_merged k le = let b = so.behind in none_behind 0 merged k so.rises (omega (arith, b, le))

    -- under each key that is done now
    done_by : (k : ℕ) → k < key x + 1 → (old : Bool) → ltb k end ≡ old → (here : Bool) → eqb (key x) k ≡ here → at (merged ++ x ∷ []) k ≡ or_else (at xs k) (at ys k)
    done_by k lt true old here is =
        let before = ltb-true k end old in
        let l = later in
        let other : at (x ∷ []) k ≡ None = none_below (key x) (x ∷ []) k (omega arith, tt) (omega (arith, before, l)) in
        at_more merged x k ∙ ap (λ o. or_else (at merged k) o) other ∙ or_nothing (at merged k) ∙ so.done k before
      where
        or_nothing : (o : Option A) → or_else o None ≡ o
        or_nothing None = refl
        or_nothing (Some y) = refl
    done_by k lt false old true is =
        let le = ltb-false k end old in
        let k_is = eqb-true (key x) k is in
        at_more merged x k ∙ ap (λ o. or_else o (at (x ∷ []) k)) (none_merged k (omega (arith, le)))
        ∙ ap (λ n. at (x ∷ []) n) (sym k_is) ∙ at_first x []
        ∙ sym (ap (λ n. or_else (at left n) (at right n)) (sym k_is) ∙ least.there)
        ∙ ap (λ o. or_else o (at right k)) (so.left_is k (omega (arith, le))) ∙ ap (λ o. or_else (at xs k) o) (so.right_is k (omega (arith, le)))
    done_by k lt false old false is =
        let le = ltb-false k end old in
        let ne = eqb-false (key x) k is in
        let before : k < key x = omega (arith, lt, ne) in
        at_more merged x k ∙ ap (λ o. or_else o (at (x ∷ []) k)) (none_merged k (omega (arith, le)))
        ∙ none_below (key x) (x ∷ []) k (omega arith, tt) before
        ∙ sym (ap (λ o. or_else o (at ys k)) (sym (so.left_is k (omega (arith, le))) ∙ least.none_first k before) ∙ (sym (so.right_is k (omega (arith, le))) ∙ least.none_second k before))

    agree_by : (k : ℕ) → k < key x + 1 → (old : Bool) → ltb k end ≡ old → (here : Bool) → eqb (key x) k ≡ here → Agree (at xs k) (at ys k)
    agree_by k lt true old here is = so.agree k (ltb-true k end old)
    agree_by k lt false old true is =
        let le = ltb-false k end old in
        let k_is = eqb-true (key x) k is in
        subst (λ o. Agree o (at ys k)) (so.left_is k (omega (arith, le))) (subst (λ o. Agree (at left k) o) (so.right_is k (omega (arith, le))) (subst (λ n. Agree (at left n) (at right n)) k_is least.agree))
    agree_by k lt false old false is =
        let le = ltb-false k end old in
        let ne = eqb-false (key x) k is in
        let none : at xs k ≡ None = sym (so.left_is k (omega (arith, le))) ∙ least.none_first k (omega (arith, lt, ne)) in
        subst (λ o. Agree o (at ys k)) (sym none) tt

    rises_on : (from : ℕ) → RiseFrom from (map key merged) → RiseFrom from (map key left) → RiseFrom from (map key right) → RiseFrom from (map key (merged ++ x ∷ []))
    rises_on from rm rl rr = subst (RiseFrom from) (sym (map-append key merged (x ∷ []))) (more from (map key merged) rm (least.above from rl rr) bound)
      where
        more : (from : ℕ) (ns : List ℕ) → RiseFrom from ns → from ≤ key x → least_behind 0 ns ≤ key x → RiseFrom from (ns ++ key x ∷ [])
        more from [] rise le b = (le, tt)
        more from (n ∷ ns) rise le b = (rise.0, rest)
          where
            rest : RiseFrom (n + 1) (ns ++ key x ∷ [])
            rest = (rise_more (n + 1) ns (key x) rise.1 b).0

        bound : least_behind 0 (map key merged) ≤ key x
        bound = let l = later in let b = so.behind in omega (arith, l, b)

    pub merging_goes_on : Merging (key x + 1) (merged ++ x ∷ []) others further xs ys
    merging_goes_on =
        let l = later in
        let b = so.behind in
        let more = rise_more 0 (map key merged) (key x) so.rises (omega (arith, l, b)) in
        let same : map key (merged ++ x ∷ []) ≡ map key merged ++ key x ∷ [] = map-append key merged (x ∷ []) in
        let end_is : least_behind 0 (map key (merged ++ x ∷ [])) ≡ key x + 1 = ap (least_behind 0) same ∙ more.1 in
        record {
          rises = subst (RiseFrom 0) (sym same) more.0;
          behind = omega (arith, end_is);
          left_rises = least.first_rises;
          right_rises = least.second_rises;
          left_is = λ k le. least.first_behind k (omega (arith, le)) ∙ so.left_is k (omega (arith, le, l));
          right_is = λ k le. least.second_behind k (omega (arith, le)) ∙ so.right_is k (omega (arith, le, l));
          done = λ k lt. done_by k lt (ltb k end) refl (eqb (key x) k) refl;
          agree = λ k lt. agree_by k lt (ltb k end) refl (eqb (key x) k) refl;
          above = λ from rx ry.
              let old = so.above from rx ry in
              let le = least.above from old.1 old.2 in
              (rises_on from old.0 old.1 old.2, rise_earlier from (key x + 1) (map key others) (omega (arith, le)) least.first_rises, rise_earlier from (key x + 1) (map key further) (omega (arith, le)) least.second_rises);
        }

  -- nothing is left
  pub merging_ends : (end : ℕ) (merged xs ys : List A) → Merging end merged [] [] xs ys → IsUnited key xs ys merged
  merging_ends end merged xs ys so = record {
    agree = λ k. agree_by k (ltb k end) refl;
    both = λ k. both_by k (ltb k end) refl;
    rises = λ least rx ry. (so.above least rx ry).0;
  }
    where
      agree_by : (k : ℕ) → (old : Bool) → ltb k end ≡ old → Agree (at xs k) (at ys k)
      agree_by k true old = so.agree k (ltb-true k end old)
      agree_by k false old = let le = ltb-false k end old in subst (λ o. Agree o (at ys k)) (so.left_is k (omega (arith, le))) tt

      both_by : (k : ℕ) → (old : Bool) → ltb k end ≡ old → at merged k ≡ or_else (at xs k) (at ys k)
      both_by k true old = so.done k (ltb-true k end old)
      both_by k false old =
          let le = ltb-false k end old in
          let b = so.behind in
          none_behind 0 merged k so.rises (omega (arith, le, b)) ∙ so.right_is k (omega (arith, le)) ∙ ap (λ o. or_else o (at ys k)) (so.left_is k (omega (arith, le)))

  -- two that differ among those that are left
  pub differ_among : (end : ℕ) (merged left right xs ys : List A) → Merging end merged left right xs ys → (x y : A) → DifferFirst key left right x y → end ≤ key x → DifferFirst key xs ys x y
  differ_among end merged left right xs ys so x y d later = record {
    first = sym (so.left_is (key x) later) ∙ d.first;
    second = sym (so.right_is (key x) later) ∙ d.second;
    other = d.other;
    before = λ k lt. by k lt (ltb k end) refl;
  }
    where
      by : (k : ℕ) → k < key x → (old : Bool) → ltb k end ≡ old → Agree (at xs k) (at ys k)
      by k lt true old = so.agree k (ltb-true k end old)
      by k lt false old =
          let le = ltb-false k end old in
          subst (λ o. Agree o (at ys k)) (so.left_is k (omega (arith, le))) (subst (λ o. Agree (at left k) o) (so.right_is k (omega (arith, le))) (d.before k lt))

  -- ---- the same, where the lists are made so

  module _ (left right : List A) (rl : RiseFrom 0 (map key left)) (rr : RiseFrom 0 (map key right)) (x y : A) (xs ys : List A) where
    rises_by : (us vs : List A) → us ≡ vs → RiseFrom 0 (map key us) → RiseFrom 0 (map key vs)
    rises_by us vs e rise = subst (λ us. RiseFrom 0 (map key us)) e rise

    pub alone_case : left ≡ x ∷ xs → length right ≤ 0 → IsLeast key left right x xs right
    alone_case el few = by right few
      where
        by : (right : List A) → length right ≤ 0 → IsLeast key left right x xs right
        by [] few = subst (λ l. IsLeast key l [] x xs []) (sym el) (least_alone 0 x xs (rises_by left (x ∷ xs) el rl))
        by (z ∷ zs) few = absurd (omega arith)

    pub other_case : left ≡ [] → right ≡ y ∷ ys → IsLeast key left right y left ys
    other_case el er =
        subst (λ l. IsLeast key l right y l ys) (sym el) (subst (λ r. IsLeast key [] r y [] ys) (sym er) (least_of_other 0 y ys (rises_by right (y ∷ ys) er rr)))

    pub before_case : left ≡ x ∷ xs → right ≡ y ∷ ys → key x < key y → IsLeast key left right x xs right
    before_case el er lt =
        subst (λ l. IsLeast key l right x xs right) (sym el) (subst (λ r. IsLeast key (x ∷ xs) r x xs r) (sym er)
        (least_before 0 x y xs ys (rises_by left (x ∷ xs) el rl) (rises_by right (y ∷ ys) er rr) lt))

    pub behind_case : left ≡ x ∷ xs → right ≡ y ∷ ys → key y < key x → IsLeast key left right y left ys
    behind_case el er lt =
        subst (λ l. IsLeast key l right y l ys) (sym el) (subst (λ r. IsLeast key (x ∷ xs) r y (x ∷ xs) ys) (sym er)
        (least_behind_it 0 x y xs ys (rises_by left (x ∷ xs) el rl) (rises_by right (y ∷ ys) er rr) lt))

    pub both_case : left ≡ x ∷ xs → right ≡ y ∷ ys → x ≡ y → IsLeast key left right x xs ys
    both_case el er same =
        subst (λ l. IsLeast key l right x xs ys) (sym el) (subst (λ r. IsLeast key (x ∷ xs) r x xs ys) (sym er)
        (least_of_both 0 x y xs ys (rises_by left (x ∷ xs) el rl) (rises_by right (y ∷ ys) er rr) same))

    pub differ_case : left ≡ x ∷ xs → right ≡ y ∷ ys → (key x < key y → ⊥) → (key y < key x → ⊥) → (x ≡ y → ⊥) → DifferFirst key left right x y
    differ_case el er low high other =
        subst (λ l. DifferFirst key l right x y) (sym el) (subst (λ r. DifferFirst key (x ∷ xs) r x y) (sym er)
        (differ_first 0 x y xs ys (rises_by left (x ∷ xs) el rl) (rises_by right (y ∷ ys) er rr) low high other))

-- a test that failed
pub not_so : (P : Type 0) (b : Bool) → (b ≡ true → P) × (P → b ≡ true) → b ≡ false → P → ⊥
not_so P b iff is p = absurd (let t = iff.1 p in cc)

-- what a result of the least entry says
pub said_ok : {A : Type 0} (key : A → ℕ) (xs ys : List A) (next : Result (Bor A × Bor (List A) × Bor (List A)) (Bor A × Bor A)) (least : Bor A × Bor (List A) × Bor (List A))
    → SaysLeast key xs ys (Some next) → next ≡ Ok least → IsLeast key xs ys least.0.now least.1.now least.2.now
said_ok {A} key xs ys next least said is =
    let P : Result (Bor A × Bor (List A) × Bor (List A)) (Bor A × Bor A) → Type 0 = λ next. SaysLeast key xs ys (Some next) in subst P is said

pub said_err : {A : Type 0} (key : A → ℕ) (xs ys : List A) (next : Result (Bor A × Bor (List A) × Bor (List A)) (Bor A × Bor A)) (both : Bor A × Bor A)
    → SaysLeast key xs ys (Some next) → next ≡ Err both → DifferFirst key xs ys both.0.now both.1.now
said_err {A} key xs ys next both said is =
    let P : Result (Bor A × Bor (List A) × Bor (List A)) (Bor A × Bor A) → Type 0 = λ next. SaysLeast key xs ys (Some next) in subst P is said

module _ {A : Type 0} (key : A → ℕ) (xs ys : List A) where
  -- one step, as the code has it
  pub merging_step : (merged left right pushed : List A) (x : A) (others further : List A) → (end : ℕ) × Merging key end merged left right xs ys → IsLeast key left right x others further → pushed ≡ merged ++ x ∷ []
      → (end : ℕ) × Merging key end pushed others further xs ys
  merging_step merged left right pushed x others further so least is =
      (key x + 1, subst (λ all. Merging key (key x + 1) all others further xs ys) (sym is) (merging_goes_on key so.0 merged left right xs ys so.1 x others further least))

  pub merging_start : (merged : List A) → merged ≡ [] → RiseFrom 0 (map key xs) → RiseFrom 0 (map key ys) → (end : ℕ) × Merging key end merged xs ys xs ys
  merging_start merged is rx ry = (0, subst (λ all. Merging key 0 all xs ys xs ys) (sym is) (merging_begins key xs ys rx ry))

  pub merging_done : (merged left right : List A) → (end : ℕ) × Merging key end merged left right xs ys → left ≡ [] → right ≡ [] → IsUnited key xs ys merged
  merging_done merged left right so el er =
      merging_ends key so.0 merged xs ys (subst (λ l. Merging key so.0 merged l [] xs ys) el (subst (λ r. Merging key so.0 merged left r xs ys) er so.1))

  pub merging_differs : (merged left right : List A) → (end : ℕ) × Merging key end merged left right xs ys → (x y : A) → DifferFirst key left right x y → DifferFirst key xs ys x y
  merging_differs merged left right so x y d = differ_among key so.0 merged left right xs ys so.1 x y d (by (ltb (key x) so.0) refl)
    where
      by : (low : Bool) → ltb (key x) so.0 ≡ low → so.0 ≤ key x
      by true is = absurd (let none : entry_at key left (key x) ≡ None = none_below key so.0 left (key x) so.1.left_rises (ltb-true (key x) so.0 is) in let some = d.first in cc)
      by false is = let le = ltb-false (key x) so.0 is in omega (arith, le)
