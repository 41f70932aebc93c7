-- The list of what is issued: all of it, rising.
use Rattle.std.proofs.Common.{◌≡◌, ℕ, zero, suc, ◌+◌, ◌<◌, ◌≤◌, List, length, refl, ap, subst, ◌∙◌, arith, inl, inr, Option, Some, None}
use Rattle.std.specs.Prelude.{slice_get}
use Rattle.std.proofs.lemmas.Bool.{cases_eq}
use Rattle.std.proofs.lemmas.Option.{slice_get_within}
use Rattle.ksi_world.specs.declared.outcome.Asked.{Asked}
use Rattle.ksi_world.specs.Histories.{WorldState}
use Rattle.ksi_world.specs.Records.{issued_before, issued_for, issued_of, issued_among, issued_all}

module _ (image : List ℕ → List ℕ) (w : WorldState) where
  -- what is listed from number n on is issued, of m requests
  abbrev IsListed : (n m : ℕ) → ℕ × List ℕ → Type 0
  IsListed n m x = (n ≤ x.0) × (x.0 < n + m) × (issued_of image w x.0 ≡ Some x.1)

  listed_is : (n m k : ℕ) (x : ℕ × List ℕ) → slice_get (issued_among image w n m) k ≡ Some x → IsListed n m x
  listed_is n zero k x at = absurd (cc at)
  listed_is n (suc m) k x at = by (issued_of image w n) refl k (λ k at. let r = listed_is (suc n) m k x at in (omega (arith, r.0), omega (arith, r.1), r.2)) at
    where
      by : (o : Option (List ℕ)) → issued_of image w n ≡ o → (k : ℕ) → ((k : ℕ) → slice_get (issued_among image w (suc n) m) k ≡ Some x → IsListed n (suc m) x) →
          slice_get (issued_before n o (issued_among image w (suc n) m)) k ≡ Some x → IsListed n (suc m) x
      by None none k later at = later k at
      by (Some text) some (suc k) later at = later k at
      by (Some text) some zero later at =
          let same : (n, text) ≡ x = cc at in
          subst (IsListed n (suc m)) same (omega arith, omega arith, some)

  there_listed : (n m number : ℕ) (text : List ℕ) → n ≤ number → number < n + m → issued_of image w number ≡ Some text → (k : ℕ) × (slice_get (issued_among image w n m) k ≡ Some (number, text))
  there_listed n zero number text le lt is = absurd (omega (arith, le, lt))
  there_listed n (suc m) number text le lt is = elim (cases_eq n number) [
    | inl same ↦ (0, ap (λ o. slice_get (issued_before n o (issued_among image w (suc n) m)) 0) (ap (issued_of image w) same ∙ is) ∙ ap (λ n. Some (n, text)) same)
    | inr ne ↦ further (issued_of image w n) (there_listed (suc n) m number text (omega (arith, le, ne)) (omega (arith, lt)) is)
  ]
    where
      further : (o : Option (List ℕ)) → (k : ℕ) × (slice_get (issued_among image w (suc n) m) k ≡ Some (number, text)) → (k : ℕ) × (slice_get (issued_before n o (issued_among image w (suc n) m)) k ≡ Some (number, text))
      further None found = found
      further (Some other) found = (suc found.0, found.1)

  listed_rising : (n m j k : ℕ) (x y : ℕ × List ℕ) → j < k → slice_get (issued_among image w n m) j ≡ Some x → slice_get (issued_among image w n m) k ≡ Some y → x.0 < y.0
  listed_rising n zero j k x y lt at at' = absurd (cc at)
  listed_rising n (suc m) j k x y lt at at' = by (issued_of image w n) j k (λ j k. listed_rising (suc n) m j k x y) lt at at'
    where
      by : (o : Option (List ℕ)) (j k : ℕ) → ((j k : ℕ) → j < k → slice_get (issued_among image w (suc n) m) j ≡ Some x → slice_get (issued_among image w (suc n) m) k ≡ Some y → x.0 < y.0) → j < k → slice_get (issued_before n o (issued_among image w (suc n) m)) j ≡ Some x → slice_get (issued_before n o (issued_among image w (suc n) m)) k ≡ Some y → x.0 < y.0
      by None j k later lt at at' = later j k lt at at'
      by (Some text) j zero later lt at at' = absurd (omega (arith, lt))
      by (Some text) zero (suc k) later lt at at' =
          let same : (n, text) ≡ x = cc at in
          let number : n ≡ x.0 = ap (λ (x : ℕ × List ℕ). x.0) same in
          let after = (listed_is (suc n) m k y at').0 in
          omega (arith, number, after)
      by (Some text) (suc j) (suc k) later lt at at' = later j k (omega (arith, lt)) at at'

  accepted : (number : ℕ) (text : List ℕ) → issued_of image w number ≡ Some text → number < length w.requests
  unfolding issued_of
  accepted number text is = by (slice_get w.requests number) refl is
    where
      by : (o : Option Asked) → slice_get w.requests number ≡ o → issued_for image w number o ≡ Some text → number < length w.requests
      by None none is = absurd (cc is)
      by (Some asked) some is = slice_get_within w.requests number asked some

  pub all_are : (k : ℕ) (x : ℕ × List ℕ) → slice_get (issued_all image w) k ≡ Some x → issued_of image w x.0 ≡ Some x.1
  unfolding issued_all
  all_are k x at = (listed_is 0 (length w.requests) k x at).2

  pub all_there : (number : ℕ) (text : List ℕ) → issued_of image w number ≡ Some text → (k : ℕ) × (slice_get (issued_all image w) k ≡ Some (number, text))
  unfolding issued_all
  all_there number text is = let lt = accepted number text is in there_listed 0 (length w.requests) number text (omega arith) (omega (arith, lt)) is

  pub all_rising : (j k : ℕ) (x y : ℕ × List ℕ) → j < k → slice_get (issued_all image w) j ≡ Some x → slice_get (issued_all image w) k ≡ Some y → x.0 < y.0
  unfolding issued_all
  all_rising j k x y lt at at' = listed_rising 0 (length w.requests) j k x y lt at at'
