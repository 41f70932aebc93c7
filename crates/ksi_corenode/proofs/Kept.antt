-- The calendar of what is held: its leaves, what it leaves out, and how it grows.
use Rattle.std.proofs.Common.{◌≡◌, ◌∙◌, ℕ, zero, suc, ◌+◌, ◌-◌, ◌^◌, ◌<◌, ◌≤◌, List, [], ◌∷◌, ◌++◌, length, get_or, slice_get, Option, Some, None, true, false, refl, sym, ap, subst, arith, inl, inr, ltb, leb, le-leb, lt-ltb, length-append}
use Rattle.std.specs.Prelude.{◌==◌, is_some, IsSome, unwrap_or, Result, Ok, Err, OnOk, OnErr}
use Rattle.std.proofs.lemmas.Bool.{le-ltb, cond-true, cond-false, cond_both, eqb-true, cases_lt, eq-eqb, ne_eqb}
use Rattle.std.proofs.lemmas.Option.{slice_get-get_or, slice_get_past}
use Rattle.ksi_imprint.specs.Imprints.{zero_imprint}
use Rattle.ksi_calendar.specs.Calendar.{Seconds, calendar_leaf, calendar_root, root_to}
use Rattle.ksi_synod.specs.CorePlans.{CorePlanState}
use Rattle.ksi_corenode.specs.SecondState.{SecondState, fresh_second}
use Rattle.ksi_calendar.specs.Covered.{Roots, IsFirstMissing, covered_root, first_missing, second_leaf}
use Rattle.ksi_synod.specs.VoteState.{fresh_vote}
use Rattle.ksi_corenode.specs.Kept.{held_with}
use Rattle.ksi_corenode.specs.Settled.{IsCalendarOf}
use Rattle.ksi_corenode.specs.CoreState.{CoreState, state_of, held_by, IsSame, IsChange}
use Rattle.ksi_signature.specs.declared.answer.Answer.TheVariants.{Published, Late, Sealed}
use Rattle.ksi_aggtree.specs.declared.item.Item.{Item}
use Rattle.ksi_aggtree.specs.Entries.{candidate_of}
use Rattle.ksi_synod.specs.Rows.{seal, seal_of}
use Rattle.ksi_corenode.specs.Turns.{Turn, still}
use Rattle.ksi_corenode.specs.Rows.{taken, item_taken, submission_row, sealed_now, seal_row, publish_answer, publish_where}

-- WHAT IT HAS

-- the leaf of a second before the start
leaf_before : (seconds : Seconds) (t : ℕ) → t < seconds.start → calendar_leaf seconds t ≡ zero_imprint
leaf_before seconds t before = cond-true (ltb t seconds.start) zero_imprint (get_or seconds.roots (t - seconds.start) zero_imprint) (lt-ltb t seconds.start before)

module _ (held : Roots) (start : ℕ) (calendar : Seconds) (kept : IsCalendarOf held start calendar) where
  -- each of its roots is what is held for its second
  pub root_is : (t : ℕ) → start ≤ t → t < start + length calendar.roots → held t ≡ Some (calendar_leaf calendar t)
  root_is t from below =
      let here : start + (t - start) ≡ t = omega arith in
      let within : t - start < length calendar.roots = omega arith in
      let after : ltb t calendar.start ≡ false = le-ltb t calendar.start (omega (arith, kept.begins)) in
      ap held (sym here) ∙ kept.roots (t - start) (omega arith) (kept.most (t - start) within)
      ∙ slice_get-get_or calendar.roots (t - start) zero_imprint within
      ∙ ap (λ (n : ℕ). Some (get_or calendar.roots (t - n) zero_imprint)) (sym kept.begins)
      ∙ ap Some (sym (cond-false (ltb t calendar.start) zero_imprint (get_or calendar.roots (t - calendar.start) zero_imprint) after))

  is_held : (t : ℕ) → start ≤ t → t < start + length calendar.roots → IsSome (held t)
  is_held t from below = ap (λ (o : Option (List ℕ)). is_some o) (root_is t from below)

  -- the first second behind it is the first missing one
  pub kept_first : (last : ℕ) → start + length calendar.roots ≤ last → last < 2 ^ 63 → IsFirstMissing held start last (start + length calendar.roots)
  kept_first last to below = record {
    from = omega arith;
    to = to;
    missing = kept.roots (length calendar.roots) (omega arith) (omega (arith, to, below)) ∙ slice_get_past calendar.roots (length calendar.roots) (omega arith);
    before = λ t from before. is_held t from before;
  }

  -- none is missing in it
  pub kept_all : (last : ℕ) → last < start + length calendar.roots → (t : ℕ) → start ≤ t → t ≤ last → IsSome (held t)
  kept_all last covered t from to = is_held t from (omega (arith, to, covered))

  -- its leaves are those of all that is held
  pub kept_leaves : (last : ℕ) → last < start + length calendar.roots → (t : ℕ) → t ≤ last → calendar_leaf calendar t ≡ second_leaf held start t
  kept_leaves last covered t to = elim (cases_lt t start) [
    | inl before ↦ leaf_before calendar t (omega (arith, before, kept.begins))
        ∙ sym (cond-true (ltb t start) zero_imprint (unwrap_or (held t) zero_imprint) (lt-ltb t start before))
    | inr from ↦ ap (λ (o : Option (List ℕ)). unwrap_or o zero_imprint) (sym (root_is t from (omega (arith, to, covered))))
        ∙ sym (cond-false (ltb t start) zero_imprint (unwrap_or (held t) zero_imprint) (le-ltb t start from))
  ]

-- WHERE NOTHING OTHER IS HELD

pub kept_same : (old new : Roots) (start start2 : ℕ) (calendar : Seconds) → ((t : ℕ) → new t ≡ old t) → start2 ≡ start → IsCalendarOf old start calendar → IsCalendarOf new start2 calendar
kept_same old new start start2 calendar same begins kept = subst (λ (n : ℕ). IsCalendarOf new n calendar) (sym begins) (record {
  begins = kept.begins;
  most = kept.most;
  roots = λ k to below. same (start + k) ∙ kept.roots k to below;
})

-- nothing is held yet
pub kept_fresh : (core : CoreState) (me : ℕ) (plan : CorePlanState) (start : ℕ) → core.start ≡ start → ((t : ℕ) → state_of core t ≡ fresh_second me plan t) → IsCalendarOf (held_by core) core.start (record { start = start; roots = [] })
unfolding fresh_second fresh_vote
kept_fresh core me plan start begins fresh = subst (λ (n : ℕ). IsCalendarOf (held_by core) n (record { start = start; roots = [] })) (sym begins) (record {
  begins = refl;
  most = λ k within. absurd (omega (arith, within));
  roots = λ k to below. ap (λ (s : SecondState). s.vote.held) (fresh (start + k));
})

-- a second is another, for which the same is held
pub kept_after : {T E : Type 0} (old new : CoreState) (second : ℕ) (after : SecondState) (result : Result T E) (calendar : Seconds) →
    OnOk result (IsChange old new second after) → OnErr result (IsSame old new) → after.vote.held ≡ held_by old second →
    IsCalendarOf (held_by old) old.start calendar → IsCalendarOf (held_by new) new.start calendar
kept_after old new second after (Ok value) calendar change same holds kept =
    kept_same (held_by old) (held_by new) old.start new.start calendar
    (λ t. ap (λ (s : SecondState). s.vote.held) (change.seconds t)
    ∙ cond_both (t == second) after (state_of old t) (λ (s : SecondState). s.vote.held ≡ held_by old t) (λ here. holds ∙ ap (held_by old) (sym (eqb-true t second here))) (λ _. refl)) change.start kept
kept_after old new second after (Err error) calendar change same holds kept =
    kept_same (held_by old) (held_by new) old.start new.start calendar (λ t. ap (λ (s : SecondState). s.vote.held) (same.seconds t)) same.start kept

-- WHERE SOMETHING IS HELD FOR A SECOND

module _ (roots : Roots) (start second : ℕ) (calendar : Seconds) (kept : IsCalendarOf roots start calendar) where
  -- nothing is held for it, as before
  pub kept_none : ((root : List ℕ) → roots second ≡ Some root → None ≡ Some root) → IsCalendarOf (held_with roots second None) start calendar
  kept_none keeps = kept_same roots (held_with roots second None) start start calendar
      (λ t. cond_both (t == second) None (roots t) (λ (o : Option (List ℕ)). o ≡ roots t) (λ here. none (roots second) refl ∙ ap roots (sym (eqb-true t second here))) (λ _. refl)) refl kept
    where
      none : (o : Option (List ℕ)) → roots second ≡ o → None ≡ roots second
      none None is = sym is
      none (Some root) is = absurd (cc (keeps root is))

get_left : (xs ys : List (List ℕ)) (k : ℕ) → k < length xs → slice_get (xs ++ ys) k ≡ slice_get xs k
get_left [] ys k lt = absurd (omega arith)
get_left (x ∷ xs) ys zero lt = refl
get_left (x ∷ xs) ys (suc k) lt = get_left xs ys k (omega arith)

get_right : (xs ys : List (List ℕ)) (k : ℕ) → length xs ≤ k → slice_get (xs ++ ys) k ≡ slice_get ys (k - length xs)
get_right [] ys k le = let all : k ≡ k - 0 = omega arith in ap (slice_get ys) all
get_right (x ∷ xs) ys zero le = absurd (omega arith)
get_right (x ∷ xs) ys (suc k) le = let all : k - length xs ≡ suc k - suc (length xs) = omega arith in get_right xs ys k (omega arith) ∙ ap (slice_get ys) all

-- these are the roots of so many seconds from a first one on, up to one that nothing is held for, or to 2^63
pub record IsRun (held : Roots) (first : ℕ) (run : List (List ℕ)) : Type 0 where
  pub most : first + length run ≤ 2 ^ 63
  pub roots : (k : ℕ) → k ≤ length run → first + k < 2 ^ 63 → held (first + k) ≡ slice_get run k

-- it is the next one, and the roots from it on come behind the others
pub kept_longer : (roots : Roots) (start second : ℕ) (calendar : Seconds) → IsCalendarOf roots start calendar → (held : Option (List ℕ)) (run : List (List ℕ)) → second ≡ start + length calendar.roots →
    IsRun (held_with roots second held) second run → IsCalendarOf (held_with roots second held) start (record calendar { roots = calendar.roots ++ run })
kept_longer roots start second calendar kept held run next are = record {
  begins = kept.begins;
  most = λ k within. omega (arith, within, next, are.most, length-append calendar.roots run);
  roots = λ k to below. elim (cases_lt k (length calendar.roots)) [
    | inl before ↦ cond-false (start + k == second) held (roots (start + k)) (ne_eqb (start + k) second (λ same. omega (arith, same, next, before)))
        ∙ kept.roots k (omega arith) below ∙ sym (get_left calendar.roots run k before)
    | inr behind ↦
        let here : start + k ≡ second + (k - length calendar.roots) = omega (arith, next, behind) in
        ap (held_with roots second held) here
        ∙ are.roots (k - length calendar.roots) (omega (arith, to, length-append calendar.roots run)) (omega (arith, here, below))
        ∙ sym (get_right calendar.roots run k behind)
  ];
}

-- a run begins with what is held for its first second
pub run_first : (roots : Roots) (second : ℕ) (root : List ℕ) (k : ℕ) → k < 1 → held_with roots second (Some root) (second + k) ≡ slice_get (root ∷ []) k
run_first roots second root zero within = cond-true (second + 0 == second) (Some root) (roots (second + 0)) (eq-eqb (second + 0) second (omega arith))
run_first roots second root (suc k) within = absurd (omega arith)

-- one root more of a run, and its end
pub run_more : (held : Roots) (first t : ℕ) (run : List (List ℕ)) (root : List ℕ) → first + length run ≡ t → ((k : ℕ) → k < length run → held (first + k) ≡ slice_get run k) → held t ≡ Some root →
    (k : ℕ) → k < length (run ++ root ∷ []) → held (first + k) ≡ slice_get (run ++ root ∷ []) k
run_more held first t run root here roots is k within = elim (cases_lt k (length run)) [
  | inl before ↦ roots k before ∙ sym (get_left run (root ∷ []) k before)
  | inr behind ↦ let last : k ≡ length run = omega (arith, within, behind, length-append run (root ∷ [])) in
      let none : k - length run ≡ 0 = omega (arith, last) in
      ap held (ap (λ (n : ℕ). first + n) last ∙ here) ∙ is ∙ sym (get_right run (root ∷ []) k behind ∙ ap (slice_get (root ∷ [])) none)
]

pub run_ends : (held : Roots) (first t : ℕ) (run : List (List ℕ)) → first + length run ≡ t → ((k : ℕ) → k < length run → held (first + k) ≡ slice_get run k) → (t < 2 ^ 63 → held t ≡ None) →
    (k : ℕ) → k ≤ length run → first + k < 2 ^ 63 → held (first + k) ≡ slice_get run k
run_ends held first t run here roots none k to below = elim (cases_lt k (length run)) [
  | inl before ↦ roots k before
  | inr behind ↦ let same : first + k ≡ t = omega (arith, to, behind, here) in ap held same ∙ none (omega (arith, same, below)) ∙ sym (slice_get_past run k behind)
]

-- a second behind the first one
pub held_behind : (roots : Roots) (second t : ℕ) (held : Option (List ℕ)) → second < t → held_with roots second held t ≡ roots t
held_behind roots second t held later = cond-false (t == second) held (roots t) (ne_eqb t second (λ same. omega (arith, same, later)))

-- WHAT IS PUBLISHED

-- a second that the calendar covers has a root
pub rooted : (image : List ℕ → List ℕ) (start p : ℕ) (seconds : Seconds) → seconds.start ≡ start → start ≤ p → p < start + length seconds.roots → root_to image seconds p ≡ Some (calendar_root image seconds p)
rooted image start p seconds begins from covered =
    let after : leb seconds.start p ≡ true = le-leb seconds.start p (omega (arith, begins, from)) in
    let before : ltb p (seconds.start + length seconds.roots) ≡ true = lt-ltb p (seconds.start + length seconds.roots) (omega (arith, begins, covered)) in
    rw (after, before) refl

-- the root of the calendar is that of all that is held
pub published_root : (image : List ℕ → List ℕ) (held : Roots) (start p : ℕ) (calendar : Seconds) (root : List ℕ) → IsCalendarOf held start calendar → start ≤ p → p < calendar.start + length calendar.roots →
    first_missing held start p ≡ None →
    (((t : ℕ) → t ≤ p → calendar_leaf calendar t ≡ second_leaf held start t) → calendar_root image calendar p ≡ covered_root image held start p) →
    root_to image calendar p ≡ Some root → Published root ≡ publish_answer image held start p
unfolding publish_answer
published_root image held start p calendar root kept from inside none own is =
    let covered : p < start + length calendar.roots = omega (arith, inside, kept.begins) in
    let same : root ≡ calendar_root image calendar p = cc (sym is ∙ rooted image start p calendar kept.begins from covered) in
    ap Published (same ∙ own (kept_leaves held start calendar kept p covered))
    ∙ ap (λ (missing : Option ℕ). publish_where image held start p missing) (sym none)

-- WHAT A ROW LEAVES

pub submission_holds : (from : ℕ) (item : Item) (s : SecondState) → (submission_row from item s).after.vote.held ≡ s.vote.held
unfolding submission_row
submission_holds from item s = cond_both (is_some s.sealed) (still s Late) (item_taken s (taken from item s.open_items)) (λ (turn : Turn). turn.after.vote.held ≡ s.vote.held) (λ _. refl) (λ _. refl)

pub seal_holds : (image : List ℕ → List ℕ) (s : SecondState) → (seal_row image s).after.vote.held ≡ s.vote.held
unfolding seal_row seal
seal_holds image s = cond_both (is_some s.sealed) (still s Sealed) (sealed_now image s) (λ (turn : Turn). turn.after.vote.held ≡ s.vote.held) (λ _. refl) (λ _. by s.vote.candidate)
  where
    by : (o : Option (List ℕ)) → (seal_of o s.vote (candidate_of image s.open_items)).held ≡ s.vote.held
    by None = refl
    by (Some candidate) = refl
