-- The journal that keeps the roots of seconds, with the items of another one.
use Rattle.std.proofs.Common.{◌≡◌, ◌∙◌, ℕ, zero, suc, ◌+◌, ◌-◌, ◌<◌, ◌≤◌, Bool, true, false, if◌then◌else◌, List, [], ◌∷◌, length, Option, Some, refl, ap, sym, subst, arith, inl, inr}
use Rattle.std.specs.Prelude.{IsSome, ◌==◌, nat_lt, unwrap_or, slice_index_or}
use Rattle.std.proofs.lemmas.Bool.{lt-ltb, eq-eqb, ne_eqb, cases_lt}
use Rattle.ksi_imprint.specs.Imprints.{zero_imprint}
use Rattle.ksi_aggtree.specs.declared.item.Item.{Item}
use Rattle.ksi_calendar.specs.Calendar.{Seconds, calendar_leaf}
use Rattle.ksi_calendar.specs.Covered.{IsCovered, second_leaf}
use Rattle.ksi_journal.specs.Journal.{Contents, IsRootOf, kept_among, root_at, root_kept, items_at, items_of}
use Rattle.ksi_journal.specs.Calendar.{calendar_of, roots_from}
use Rattle.ksi_calendar_extender.specs.Kept.{journal_of, kept_from}
use Rattle.ksi_calendar_auditor.specs.Kept.{journal_with, kept_with}

-- ---- the roots are those of the seconds

same_kept : (items : Contents) (t second : ℕ) (roots : List (List ℕ)) → root_kept (kept_among (kept_with items second roots) t) ≡ root_kept (kept_among (kept_from second roots) t)
same_kept items t second [] = refl
same_kept items t second (root ∷ roots) = of (second == t) (same_kept items t (suc second) roots)
  where
    of : (here : Bool) → root_kept (kept_among (kept_with items (suc second) roots) t) ≡ root_kept (kept_among (kept_from (suc second) roots) t)
        → root_kept (if here then Some (record { second = second; root = root; items = items_at items second }) else kept_among (kept_with items (suc second) roots) t)
        ≡ root_kept (if here then Some (record { second = second; root = root; items = [] }) else kept_among (kept_from (suc second) roots) t)
    of true others = refl
    of false others = others

pub same_root : (seconds : Seconds) (items : Contents) (t : ℕ) → root_at (journal_with seconds items) t ≡ root_at (journal_of seconds) t
unfolding root_at
same_root seconds items t = same_kept items t seconds.start seconds.roots

module _ (seconds : Seconds) (items : Contents) where
  pub is_kept : (p : ℕ) → IsCovered (root_at (journal_of seconds)) seconds.start p → IsCovered (root_at (journal_with seconds items)) seconds.start p
  is_kept p covered = record {
    from = covered.from;
    each = λ t from to. subst IsSome (sym (same_root seconds items t)) (covered.each t from to);
  }

  pub same_leaf : (t : ℕ) → second_leaf (root_at (journal_of seconds)) seconds.start t ≡ second_leaf (root_at (journal_with seconds items)) seconds.start t
  same_leaf t = ap (λ (o : Option (List ℕ)). if nat_lt t seconds.start then zero_imprint else unwrap_or o zero_imprint) (sym (same_root seconds items t))

-- ---- so is its calendar

kept_roots : (items : Contents) (t : ℕ) (roots : List (List ℕ)) → roots_from t (kept_with items t roots) ≡ roots
kept_roots items t [] = refl
kept_roots items t (root ∷ roots) =
    let next : t + 1 ≡ suc t = omega arith in
    ap (λ (b : Bool). if b then root ∷ roots_from (t + 1) (kept_with items (suc t) roots) else []) (eq-eqb t t refl)
    ∙ ap (λ (n : ℕ). root ∷ roots_from n (kept_with items (suc t) roots)) next
    ∙ ap (λ (others : List (List ℕ)). root ∷ others) (kept_roots items (suc t) roots)

abbrev seconds_from : ℕ → List (List ℕ) → Seconds
seconds_from start roots = record { start = start; roots = roots }

pub its_calendar : (seconds : Seconds) (items : Contents) → calendar_of (journal_with seconds items) ≡ seconds
unfolding calendar_of
its_calendar seconds items = ap (seconds_from seconds.start) (kept_roots items seconds.start seconds.roots)

-- ---- the items are those of the other journal

none_before : (items : Contents) (t second : ℕ) (roots : List (List ℕ)) → t < second → items_of (kept_among (kept_with items second roots) t) ≡ []
none_before items t second [] before = refl
none_before items t second (root ∷ roots) before =
    ap (λ (b : Bool). items_of (if b then Some (record { second = second; root = root; items = items_at items second }) else kept_among (kept_with items (suc second) roots) t)) (ne_eqb second t (λ same. omega (arith, before, same)))
    ∙ none_before items t (suc second) roots (omega (arith, before))

there : (items : Contents) (second : ℕ) (roots : List (List ℕ)) (k t : ℕ) → t ≡ second + k → k < length roots → items_of (kept_among (kept_with items second roots) t) ≡ items_at items t
there items second [] k t is lt = absurd (omega (arith, lt))
there items second (root ∷ roots) zero t is lt =
    let here : second ≡ t = omega (arith, is) in
    ap (λ (b : Bool). items_of (if b then Some (record { second = second; root = root; items = items_at items second }) else kept_among (kept_with items (suc second) roots) t)) (eq-eqb second t here)
    ∙ ap (items_at items) here
there items second (root ∷ roots) (suc k) t is lt =
    ap (λ (b : Bool). items_of (if b then Some (record { second = second; root = root; items = items_at items second }) else kept_among (kept_with items (suc second) roots) t)) (ne_eqb second t (λ same. omega (arith, is, same)))
    ∙ there items (suc second) roots k t (omega (arith, is)) (omega (arith, lt))

found : (seconds : Seconds) (items : Contents) (t : ℕ) → items_at (journal_with seconds items) t ≡ items_of (kept_among (kept_with items seconds.start seconds.roots) t)
unfolding items_at
found seconds items t = refl

no_items : (image : List ℕ → List ℕ) (items : List Item) (root : List ℕ) → IsRootOf image items root → root ≡ zero_imprint → items ≡ []
no_items image [] root is none = refl
no_items image (item ∷ items) root is none = absurd (is.0 none)

-- of a second up to a covered one, whose items have the calendar's root
pub its_items : (image : List ℕ → List ℕ) (seconds : Seconds) (items : Contents) (p t : ℕ) → p < seconds.start + length seconds.roots → t ≤ p → IsRootOf image (items_at items t) (calendar_leaf seconds t)
    → items_at (journal_with seconds items) t ≡ items_at items t
its_items image seconds items p t last to is = elim (cases_lt t seconds.start) [
  | inl before ↦ (let zero_leaf : calendar_leaf seconds t ≡ zero_imprint = ap (λ (b : Bool). if b then zero_imprint else slice_index_or seconds.roots (t - seconds.start) zero_imprint) (lt-ltb t seconds.start before) in
      found seconds items t ∙ none_before items t seconds.start seconds.roots before ∙ sym (no_items image (items_at items t) (calendar_leaf seconds t) is zero_leaf))
  | inr from ↦ found seconds items t ∙ there items seconds.start seconds.roots (t - seconds.start) t (omega (arith, from)) (omega (arith, from, to, last))
]
