-- A set of cores as flags and as an ascending list: the meaning of the flags of a Voters, and that both agree.
use Rattle.std.proofs.Common.{◌≡◌, ℕ, zero, suc, ◌<◌, ◌≤◌, Bool, true, false, ◌||◌, eqb, List, [], ◌∷◌, ◌++◌, length, take, map, refl, sym, ap, ◌∙◌, arith, inl, inr}
use Rattle.std.specs.Prelude.{if◌then◌else◌}
use Rattle.std.proofs.lemmas.Bool.{cases_eq, cond_both, eq-eqb, ne_eqb, or_right}
use Rattle.std.proofs.lemmas.List.{map-append, take_all}
use Rattle.std.proofs.Math.Seq.{take-suc}
use Rattle.std.proofs.lemmas.List.Folds.{list_any-append}
use Rattle.ksi_synod.specs.Voters.{cores_below, is_voter, is_flagged}
use Rattle.ksi_synod.specs.declared.voters.Voters.TheInside.{Inside}

-- the cores below n whose flag is set, in ascending order
abbrev pub flagged_below : (flags : List Bool) (n : ℕ) → List ℕ
flagged_below flags zero = []
flagged_below flags (suc n) = if is_flagged flags n then flagged_below flags n ++ n ∷ [] else flagged_below flags n

-- the cores 0 to 8 whose flag is set, in ascending order
unfoldable pub flagged_cores : (flags : List Bool) → List ℕ
flagged_cores flags = flagged_below flags 9

-- the flags of the cores 0 to 8 that are voters
unfoldable pub flags_of : (voters : List ℕ) → List Bool
flags_of voters = map (is_voter voters) (cores_below 9)

-- the same with one more core
is_voter-more : (voters : List ℕ) (n core : ℕ) (one : Bool) → eqb n core ≡ one → is_voter (voters ++ n ∷ []) core ≡ (is_voter voters core || one)
is_voter-more voters n core true is = list_any-append (λ voter. eqb voter core) voters (n ∷ []) ∙ ap (λ b. is_voter voters core || (b || false)) is
is_voter-more voters n core false is = list_any-append (λ voter. eqb voter core) voters (n ∷ []) ∙ ap (λ b. is_voter voters core || (b || false)) is

or_false : (b : Bool) → (b || false) ≡ b
or_false true = refl
or_false false = refl

module _ (flags : List Bool) where
  pub is_voter-past : (n core : ℕ) → n ≤ core → is_voter (flagged_below flags n) core ≡ false
  is_voter-past zero core past = refl
  is_voter-past (suc n) core past =
      let before : is_voter (flagged_below flags n) core ≡ false = is_voter-past n core (omega arith) in
      cond_both (is_flagged flags n) (flagged_below flags n ++ n ∷ []) (flagged_below flags n) (λ voters. is_voter voters core ≡ false)
      (λ _. is_voter-more (flagged_below flags n) n core false (ne_eqb n core (λ same. omega arith)) ∙ or_false _ ∙ before)
      (λ _. before)

  pub is_voter-below : (n core : ℕ) → core < n → is_voter (flagged_below flags n) core ≡ is_flagged flags core
  is_voter-below zero core below = absurd (omega arith)
  is_voter-below (suc n) core below = elim (cases_eq n core) [
    | inl same ↦ cond_both (is_flagged flags n) (flagged_below flags n ++ n ∷ []) (flagged_below flags n) (λ voters. is_voter voters core ≡ is_flagged flags core)
        (λ set. is_voter-more (flagged_below flags n) n core true (eq-eqb n core same) ∙ or_right (is_voter (flagged_below flags n) core) true refl ∙ sym (sym (ap (is_flagged flags) same) ∙ set))
        (λ unset. is_voter-past n core (omega arith) ∙ sym (sym (ap (is_flagged flags) same) ∙ unset))
    | inr other ↦
        let before : is_voter (flagged_below flags n) core ≡ is_flagged flags core = is_voter-below n core (omega arith) in
        cond_both (is_flagged flags n) (flagged_below flags n ++ n ∷ []) (flagged_below flags n) (λ voters. is_voter voters core ≡ is_flagged flags core)
        (λ _. is_voter-more (flagged_below flags n) n core false (ne_eqb n core other) ∙ or_false _ ∙ before)
        (λ _. before)
  ]

  flags_below : (n m : ℕ) → n ≤ m → m ≤ length flags → map (is_voter (flagged_below flags m)) (cores_below n) ≡ take n flags
  flags_below zero m few all = refl
  flags_below (suc n) m few all =
      map-append (is_voter (flagged_below flags m)) (cores_below n) (n ∷ [])
      ∙ ap (λ before. before ++ is_voter (flagged_below flags m) n ∷ []) (flags_below n m (omega arith) all)
      ∙ ap (λ flag. take n flags ++ flag ∷ []) (is_voter-below m n (omega arith))
      ∙ sym (take-suc flags n false (omega arith))

  pub flags_of-flagged_cores : length flags ≡ 9 → flags_of (flagged_cores flags) ≡ flags
  unfolding flags_of flagged_cores
  flags_of-flagged_cores nine = flags_below 9 9 (omega arith) (omega arith) ∙ take_all 9 flags (omega arith)

-- the fields of the Voters value with these cores
abbrev pub fields_of : (voters : List ℕ) → Inside
fields_of voters = record { flags = flags_of voters }

pub fields_of-flagged_cores : (a : Inside) → length a.flags ≡ 9 → fields_of (flagged_cores a.flags) ≡ a
fields_of-flagged_cores a nine = ap with_flags (flags_of-flagged_cores a.flags nine)
  where
    with_flags : List Bool → Inside
    with_flags flags = record { flags = flags }
