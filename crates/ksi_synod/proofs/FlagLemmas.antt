-- A set of cores as flags and as a rising list: what the calls of Voters use.
use Rattle.std.proofs.Common.{◌≡◌, ℕ, zero, suc, ◌<◌, ◌≤◌, Bool, false, ltb, List, [], ◌∷◌, ◌++◌, refl, sym, ap, ◌∙◌, arith, inl, inr}
use Rattle.std.proofs.lemmas.Bool.{cases_eq, cond-true, cond-false, le-ltb, lt-ltb}
use Rattle.ksi_synod.specs.Voters.{cores_below, is_voter, is_flagged}
use Rattle.ksi_synod.specs.Flags.{flagged_below, flagged_cores, is_voter-past, is_voter-below}

module _ (flags : List Bool) where
  -- a core is a voter where its flag is set
  pub is_voter-flagged : (core : ℕ) → core < 9 → is_flagged flags core ≡ is_voter (flagged_cores flags) core
  unfolding flagged_cores
  is_voter-flagged core below = sym (is_voter-below flags 9 core below)

  pub is_voter-none : (core : ℕ) → 9 ≤ core → false ≡ is_voter (flagged_cores flags) core
  unfolding flagged_cores
  is_voter-none core past = sym (is_voter-past flags 9 core past)

  -- the cores below a number, where their flags are set and no others
  flagged_below-all : (n m : ℕ) → ((core : ℕ) → is_flagged flags core ≡ ltb core m) → n ≤ m → flagged_below flags n ≡ cores_below n
  flagged_below-all zero m set few = refl
  flagged_below-all (suc n) m set few =
      cond-true (is_flagged flags n) (flagged_below flags n ++ n ∷ []) (flagged_below flags n) (set n ∙ lt-ltb n m (omega arith))
      ∙ ap (λ cores. cores ++ n ∷ []) (flagged_below-all n m set (omega arith))

  flagged_below-past : (n m : ℕ) → ((core : ℕ) → is_flagged flags core ≡ ltb core m) → m ≤ n → flagged_below flags n ≡ cores_below m
  flagged_below-past zero m set past = let none : 0 ≡ m = omega arith in ap cores_below none
  flagged_below-past (suc n) m set past = elim (cases_eq (suc n) m) [
    | inl same ↦ flagged_below-all (suc n) m set (omega arith) ∙ ap cores_below same
    | inr other ↦
        cond-false (is_flagged flags n) (flagged_below flags n ++ n ∷ []) (flagged_below flags n) (set n ∙ le-ltb n m (omega arith))
        ∙ flagged_below-past n m set (omega arith)
  ]

  pub flagged_cores-all : (m : ℕ) → m ≤ 9 → ((core : ℕ) → is_flagged flags core ≡ ltb core m) → flagged_cores flags ≡ cores_below m
  unfolding flagged_cores
  flagged_cores-all m few set = flagged_below-past 9 m set few
