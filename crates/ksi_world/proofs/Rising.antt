-- A second in its place among rising ones, which are the entries of a map.
use Rattle.std.proofs.Common.{◌≡◌, ℕ, suc, ◌<◌, cond, true, false, eqb, ltb, List, [], ◌∷◌, Option, Some, None, is_some, refl, sym, ap, ◌∙◌, arith, inl, inr}
use Rattle.std.specs.Ordering.{nat_cmp, is_eq, match_ordering}
use Rattle.std.specs.declared.cmp.Ordering.{Ordering}
use Rattle.std.specs.declared.cmp.Ordering.TheVariants.{Less, Equal, Greater}
use Rattle.std.specs.Cmp.{nat_cmp_is}
use Rattle.std.specs.Map.{lookup}
use Rattle.std.specs.BTreeMap.{is_at, insert_entry}
use Rattle.std.proofs.lemmas.Bool.{cases_lt, cases_eq, cond-true, cond-false, lt-ltb, le-ltb, eq-eqb, ne_eqb}
use Rattle.ksi_world.specs.Histories.{put_rising}
use Rattle.ksi_world.specs.Validity.{AreTimes}

module _ (p : ℕ) (root : List ℕ) where
  -- A PAIR IN ITS PLACE

  pub put_after : (x : ℕ × List ℕ) (xs : List (ℕ × List ℕ)) → x.0 < p → put_rising p root (x ∷ xs) ≡ x ∷ put_rising p root xs
  put_after x xs lt = cond-false (ltb p x.0) _ _ (le-ltb p x.0 (omega (arith, lt))) ∙ cond-false (eqb p x.0) _ _ (ne_eqb p x.0 (λ e. omega (arith, e, lt)))

  pub put_on : (x : ℕ × List ℕ) (xs : List (ℕ × List ℕ)) → p ≡ x.0 → put_rising p root (x ∷ xs) ≡ x ∷ xs
  put_on x xs e = cond-false (ltb p x.0) _ _ (le-ltb p x.0 (omega (arith, e))) ∙ cond-true (eqb p x.0) _ _ (eq-eqb p x.0 e)

  pub put_before : (x : ℕ × List ℕ) (xs : List (ℕ × List ℕ)) → p < x.0 → put_rising p root (x ∷ xs) ≡ (p, root) ∷ x ∷ xs
  put_before x xs lt = cond-true (ltb p x.0) _ _ (lt-ltb p x.0 lt)

  -- THE SAME IN A MAP

  abbrev root_at : List (ℕ × List ℕ) → Option (List ℕ)
  root_at xs = lookup (is_at (nat_cmp p)) xs

  -- what is found of the first pair or of the others, by how the second compares to the first one's
  found_by : (x : ℕ × List ℕ) (xs : List (ℕ × List ℕ)) (o : Ordering) → o ≡ nat_cmp p x.0 → root_at (x ∷ xs) ≡ cond (is_eq o) (Some x.1) (root_at xs)
  found_by x xs o is = ap (λ (o : Ordering). cond (is_eq o) (Some x.1) (root_at xs)) (sym is)

  inserted_by : (x : ℕ × List ℕ) (xs : List (ℕ × List ℕ)) (o : Ordering) → o ≡ nat_cmp p x.0
      → insert_entry nat_cmp (x ∷ xs) p root ≡ match_ordering o ((p, root) ∷ x ∷ xs) ((x.0, root) ∷ xs) (x ∷ insert_entry nat_cmp xs p root)
  inserted_by x xs o is = ap (λ (o : Ordering). match_ordering o ((p, root) ∷ x ∷ xs) ((x.0, root) ∷ xs) (x ∷ insert_entry nat_cmp xs p root)) (sym is)

  -- a second before rising ones is not among them
  none_before : (from before : ℕ) (xs : List (ℕ × List ℕ)) → AreTimes from before xs → p < from → root_at xs ≡ None
  none_before from before [] are lt = refl
  none_before from before (x ∷ xs) are lt =
      found_by x xs Less (nat_cmp_is p x.0 Less (omega (arith, lt, are.0))) ∙ none_before (suc x.0) before xs are.2 (omega (arith, lt, are.0))

  -- one that is among them stays where it is
  pub put_known : (from before : ℕ) (xs : List (ℕ × List ℕ)) → AreTimes from before xs → is_some (root_at xs) ≡ true → put_rising p root xs ≡ xs
  put_known from before [] are there = absurd (cc there)
  put_known from before (x ∷ xs) are there = elim (cases_lt p x.0) [
    | inl here ↦
        let none = none_before x.0 before (x ∷ xs) (omega arith, are.1, are.2) here in
        absurd (cc (sym there ∙ ap is_some none))
    | inr not_before ↦ elim (cases_eq p x.0) [
      | inl same ↦ put_on x xs same
      | inr ne ↦
          let later : x.0 < p = omega (arith, not_before, ne) in
          put_after x xs later ∙ ap (λ ys. x ∷ ys) (put_known (suc x.0) before xs are.2 (ap is_some (sym (found_by x xs Greater (nat_cmp_is p x.0 Greater later))) ∙ there))
    ]
  ]

  -- one that is not is put among them as the map puts it
  pub put_new : (xs : List (ℕ × List ℕ)) → is_some (root_at xs) ≡ false → insert_entry nat_cmp xs p root ≡ put_rising p root xs
  put_new [] none = refl
  put_new (x ∷ xs) none = elim (cases_lt p x.0) [
    | inl here ↦ inserted_by x xs Less (nat_cmp_is p x.0 Less here) ∙ sym (put_before x xs here)
    | inr not_before ↦ elim (cases_eq p x.0) [
      | inl same ↦ absurd (cc (sym (ap is_some (found_by x xs Equal (nat_cmp_is p x.0 Equal same))) ∙ none))
      | inr ne ↦
          let later : x.0 < p = omega (arith, not_before, ne) in
          let is = nat_cmp_is p x.0 Greater later in
          inserted_by x xs Greater is ∙ ap (λ ys. x ∷ ys) (put_new xs (ap is_some (sym (found_by x xs Greater is)) ∙ none)) ∙ sym (put_after x xs later)
    ]
  ]
