-- The roots of the journal that keeps them.
use Rattle.std.proofs.Common.{◌≡◌, ◌∙◌, ℕ, zero, suc, ◌+◌, ◌-◌, ◌<◌, ◌≤◌, Bool, true, false, ◌&&◌, if◌then◌else◌, List, [], ◌∷◌, length, Option, Some, refl, ap, sym, arith, nat_le, nat_lt, inl, inr}
use Rattle.std.specs.Prelude.{IsTrue, is_some, unwrap_or, slice_index_or}
use Rattle.std.proofs.lemmas.Bool.{le-ltb, lt-ltb, eq-eqb, ne_eqb, cases_lt, leb-true, ltb-true}
use Rattle.ksi_imprint.specs.Imprints.{zero_imprint}
use Rattle.ksi_calendar.specs.Calendar.{Seconds, calendar_leaf, is_covered}
use Rattle.ksi_calendar.specs.Covered.{IsCovered, second_leaf}
use Rattle.ksi_journal.specs.Journal.{kept_among, root_at, root_kept}
use Rattle.ksi_calendar_extender.specs.Kept.{journal_of, kept_from}

rooted : (second : ℕ) (roots : List (List ℕ)) (k t : ℕ) → t ≡ second + k → k < length roots → root_kept (kept_among (kept_from second roots) t) ≡ Some (slice_index_or roots k zero_imprint)
rooted second [] k t is lt = absurd (omega (arith, lt))
rooted second (root ∷ roots) zero t is lt =
    ap (λ (b : Bool). root_kept (if b then Some (record { second = second; root = root; items = [] }) else kept_among (kept_from (suc second) roots) t)) (eq-eqb second t (omega (arith, is)))
rooted second (root ∷ roots) (suc k) t is lt =
    ap (λ (b : Bool). root_kept (if b then Some (record { second = second; root = root; items = [] }) else kept_among (kept_from (suc second) roots) t)) (ne_eqb second t (λ same. omega (arith, is, same)))
    ∙ rooted (suc second) roots k t (omega (arith, is)) (omega (arith, lt))

both_true : (a b : Bool) → (a && b) ≡ true → (a ≡ true) × (b ≡ true)
both_true true b is = (refl, is)
both_true false b is = absurd (cc is)

module _ (seconds : Seconds) (p : ℕ) (covered : IsTrue (is_covered seconds p)) where
  pub within : (seconds.start ≤ p) × (p < seconds.start + length seconds.roots)
  within = let both = both_true (nat_le seconds.start p) (nat_lt p (seconds.start + length seconds.roots)) covered in (leb-true seconds.start p both.0, ltb-true p (seconds.start + length seconds.roots) both.1)

  root_is : (t : ℕ) → seconds.start ≤ t → t ≤ p → root_at (journal_of seconds) t ≡ Some (slice_index_or seconds.roots (t - seconds.start) zero_imprint)
  unfolding root_at
  root_is t from to = rooted seconds.start seconds.roots (t - seconds.start) t (omega (arith, from)) (omega (arith, from, to, within.1))

  pub root_leaf : (t : ℕ) → seconds.start ≤ t → t ≤ p → root_at (journal_of seconds) t ≡ Some (calendar_leaf seconds t)
  root_leaf t from to =
      root_is t from to
      ∙ ap (λ (b : Bool). Some (if b then zero_imprint else slice_index_or seconds.roots (t - seconds.start) zero_imprint)) (sym (le-ltb t seconds.start from))

  pub is_kept : IsCovered (root_at (journal_of seconds)) seconds.start p
  is_kept = record {
    from = within.0;
    each = λ t from to. ap (λ (o : Option (List ℕ)). is_some o) (root_is t from to);
  }

  pub leaf_is : (t : ℕ) → t ≤ p → calendar_leaf seconds t ≡ second_leaf (root_at (journal_of seconds)) seconds.start t
  leaf_is t to = elim (cases_lt t seconds.start) [
    | inl before ↦ ap (λ (b : Bool). if b then zero_imprint else slice_index_or seconds.roots (t - seconds.start) zero_imprint) (lt-ltb t seconds.start before)
        ∙ sym (ap (λ (b : Bool). if b then zero_imprint else unwrap_or (root_at (journal_of seconds) t) zero_imprint) (lt-ltb t seconds.start before))
    | inr from ↦ ap (λ (b : Bool). if b then zero_imprint else slice_index_or seconds.roots (t - seconds.start) zero_imprint) (le-ltb t seconds.start from)
        ∙ sym (ap (λ (b : Bool). if b then zero_imprint else unwrap_or (root_at (journal_of seconds) t) zero_imprint) (le-ltb t seconds.start from)
        ∙ ap (λ (o : Option (List ℕ)). unwrap_or o zero_imprint) (root_is t from to))
  ]
