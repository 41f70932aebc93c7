-- The journal of what the cores keep keeps their roots.
use Rattle.std.proofs.Common.{◌≡◌, ◌≢◌, ℕ, zero, suc, ◌+◌, ◌^◌, ◌<◌, ◌≤◌, Bool, true, false, leb, cond, List, refl, sym, ap, subst, ◌∙◌, arith, inl, inr, ◌⊎◌, Option, Some, None}
use Rattle.std.specs.Prelude.{option_map}
use Rattle.std.proofs.lemmas.Bool.{cases_eq, eq-eqb, ne_eqb, leb-true, leb-false}
use Rattle.ksi_aggtree.specs.declared.second.Second.{Second}
use Rattle.ksi_journal.specs.Journal.{kept_among, root_kept, root_at}
use Rattle.ksi_schedule.specs.Plans.{PlanState, InRange}
use Rattle.ksi_world.specs.Histories.{WorldState}
use Rattle.ksi_world.specs.Records as records
use Rattle.ksi_world.specs.Records.{kept_root, kept_with, kept_items, kept_at, kept_seconds}
use Rattle.ksi_replay.specs.Lasting.{KeepsRoots}

le_cases : (a b : ℕ) → (a ≤ b) ⊎ (b < a)
le_cases a b = by (leb a b) refl
  where
    by : (t : Bool) → leb a b ≡ t → (a ≤ b) ⊎ (b < a)
    by true is = inl (leb-true a b is)
    by false is = inr (leb-false a b is)

module _ (image : List ℕ → List ℕ) (plan : PlanState) (w : WorldState) where
  -- what is kept of n seconds from s on
  abbrev from : (s n : ℕ) → List Second
  from s n = records.kept_among (kept_at image plan w) s n

  abbrev Is : (o : Option (List ℕ)) → (s n t : ℕ) → Type 0
  Is o s n t = root_kept (kept_among (records.kept_before (option_map (λ root. kept_with s root (kept_items image plan w s root)) o) (records.kept_among (kept_at image plan w) (suc s) n)) t) ≡ kept_root plan w t

  before : (s n t : ℕ) → t < s → root_kept (kept_among (from s n) t) ≡ None
  before s zero t lt = refl
  before s (suc n) t lt = by (kept_root plan w s) (before (suc s) n t (omega (arith, lt)))
    where
      by : (o : Option (List ℕ)) → root_kept (kept_among (from (suc s) n) t) ≡ None
          → root_kept (kept_among (records.kept_before (option_map (λ root. kept_with s root (kept_items image plan w s root)) o) (records.kept_among (kept_at image plan w) (suc s) n)) t) ≡ None
      by None rest = rest
      by (Some root) rest = ap (λ (b : Bool). root_kept (cond b (Some (kept_with s root (kept_items image plan w s root))) (kept_among (from (suc s) n) t))) (ne_eqb s t (λ same. absurd (omega (arith, same, lt)))) ∙ rest

  within : (s n t : ℕ) → s ≤ t → t < s + n → root_kept (kept_among (from s n) t) ≡ kept_root plan w t
  within s zero t le lt = absurd (omega (arith, le, lt))
  within s (suc n) t le lt = elim (cases_eq s t) [
    | inl same ↦ here (kept_root plan w s) same (ap (kept_root plan w) same)
    | inr ne ↦ there (kept_root plan w s) ne (within (suc s) n t (omega (arith, le, ne)) (omega (arith, lt)))
  ]
    where
      here : (o : Option (List ℕ)) → s ≡ t → o ≡ kept_root plan w t → Is o s n t
      here None same is = before (suc s) n t (omega (arith, same)) ∙ is
      here (Some root) same is =
          ap (λ (b : Bool). root_kept (cond b (Some (kept_with s root (kept_items image plan w s root))) (kept_among (from (suc s) n) t))) (eq-eqb s t same) ∙ is

      there : (o : Option (List ℕ)) → s ≢ t → root_kept (kept_among (from (suc s) n) t) ≡ kept_root plan w t → Is o s n t
      there None ne rest = rest
      there (Some root) ne rest =
          ap (λ (b : Bool). root_kept (cond b (Some (kept_with s root (kept_items image plan w s root))) (kept_among (from (suc s) n) t))) (ne_eqb s t ne) ∙ rest

  behind : (s n t : ℕ) → s + n ≤ t → root_kept (kept_among (from s n) t) ≡ None
  behind s zero t le = refl
  behind s (suc n) t le = by (kept_root plan w s) (behind (suc s) n t (omega (arith, le)))
    where
      by : (o : Option (List ℕ)) → root_kept (kept_among (from (suc s) n) t) ≡ None
          → root_kept (kept_among (records.kept_before (option_map (λ root. kept_with s root (kept_items image plan w s root)) o) (records.kept_among (kept_at image plan w) (suc s) n)) t) ≡ None
      by None rest = rest
      by (Some root) rest = ap (λ (b : Bool). root_kept (cond b (Some (kept_with s root (kept_items image plan w s root))) (kept_among (from (suc s) n) t))) (ne_eqb s t (λ same. absurd (omega (arith, same, le)))) ∙ rest

  module _ (range : (t : ℕ) (root : List ℕ) → kept_root plan w t ≡ Some root → InRange plan t) where
    outside : (t : ℕ) → (InRange plan t → ⊥) → kept_root plan w t ≡ None
    outside t out = by (kept_root plan w t) refl
      where
        by : (o : Option (List ℕ)) → kept_root plan w t ≡ o → o ≡ None
        by None is = refl
        by (Some root) is = absurd (out (range t root is))

    all_roots : (n t : ℕ) → (InRange plan t → (plan.start ≤ t) × (t < plan.start + n)) → ((plan.start ≤ t) × (t < plan.start + n) → InRange plan t) → root_kept (kept_among (from plan.start n) t) ≡ kept_root plan w t
    all_roots n t one other = elim (le_cases plan.start t) [
      | inr early ↦ before plan.start n t early ∙ sym (outside t (λ r. let both = one r in omega (arith, both.0, early)))
      | inl late ↦ elim (le_cases (plan.start + n) t) [
        | inl past ↦ behind plan.start n t past ∙ sym (outside t (λ r. let both = one r in omega (arith, both.1, past)))
        | inr within_it ↦ within plan.start n t late within_it
      ]
    ]

    -- the same of a list that is this one, whatever the number is
    all_kept : (kept : List Second) (n : ℕ) → kept ≡ from plan.start n → (t : ℕ) → (InRange plan t → (plan.start ≤ t) × (t < plan.start + n)) → ((plan.start ≤ t) × (t < plan.start + n) → InRange plan t) → root_kept (kept_among kept t) ≡ kept_root plan w t
    all_kept kept n is t one other = subst (λ (kept : List Second). root_kept (kept_among kept t) ≡ kept_root plan w t) (sym is) (all_roots n t one other)

    kept_is : kept_seconds image plan w ≡ from plan.start (2 ^ 24)
    unfolding kept_seconds
    kept_is = refl

    pub journal_keeps : (issued publications : List (ℕ × List ℕ)) → KeepsRoots plan w (record { start = plan.start; voters = plan.voters; seconds = kept_seconds image plan w; issued = issued; publications = publications })
    unfolding root_at
    journal_keeps issued publications = record { start = refl; roots = λ t. all_kept (kept_seconds image plan w) (2 ^ 24) kept_is t (λ r. r) (λ r. r) }
