-- The seconds that follow the start without a gap are those that are covered.
use Rattle.std.proofs.Common.{◌≡◌, ℕ, zero, suc, ◌+◌, ◌-◌, ◌^◌, ◌<◌, ◌≤◌, Bool, true, false, cond, leb, ltb, eqb, List, [], ◌∷◌, length, map, get_or, Option, Some, None, refl, sym, ap, subst, ◌∙◌, arith}
use Rattle.std.specs.Borrow.{Bor}
use Rattle.std.specs.Prelude.{IsSome, IsNone, is_some, IfSome, IsTrue, ◌↔◌, unwrap_or}
use Rattle.std.specs.List.{AllByRecursion}
use Rattle.std.proofs.lemmas.Bool.{cond-false, leb-true, ltb-true, ltb-false, eqb-true, eqb-false, eq-eqb, ne_eqb, le-ltb, lt-ltb, le-leb, and_parts}
use Rattle.ksi_imprint.specs.Imprints.{zero_imprint}
use Rattle.ksi_calendar.specs.Calendar.{Seconds, is_covered, calendar_leaf}
use Rattle.ksi_calendar.specs.Covered.{Roots, IsCovered, IsFirstMissing, first_missing, covered_seconds, second_leaf}
use Rattle.ksi_aggtree.specs.declared.second.Second.{Second}
use Rattle.ksi_journal.specs.Journal.{Contents, RiseFrom, IsSecond, IsJournal, kept_among, root_kept, root_at}
use Rattle.ksi_journal.specs.Kept.{at_place, place_of, view_kept}
use Rattle.ksi_journal.specs.Calendar.{roots_from, calendar_of}

abbrev times : List Second → List ℕ
times seconds = map (λ (kept : Second). kept.second) seconds

abbrev root_among : List Second → ℕ → Option (List ℕ)
root_among seconds t = root_kept (kept_among seconds t)

abbrev nothing : Option Second
nothing = None

abbrev no_root : Option (List ℕ)
no_root = None

-- what stands above is not kept below
pub above_none : (least t : ℕ) (seconds : List Second) → RiseFrom least (times seconds) → t < least → kept_among seconds t ≡ nothing
above_none least t [] rise lt = refl
above_none least t (kept ∷ others) rise lt =
    let le = rise.0 in
    let other : eqb kept.second t ≡ false = ne_eqb kept.second t (λ e. absurd (omega arith)) in
    rw other (above_none (kept.second + 1) t others rise.1 (omega arith))

-- one second of the run, and the one behind it
pub run_root : (t k : ℕ) (d : List ℕ) (seconds : List Second) → RiseFrom t (times seconds) → k < length (roots_from t seconds) → root_among seconds (t + k) ≡ Some (get_or (roots_from t seconds) k d)
run_root t k d [] rise lt = absurd (omega arith)
run_root t k d (kept ∷ others) rise lt = by (λ k rise lt. run_root (t + 1) k d others rise lt) (eqb kept.second t) refl k lt
  where
    by : ((k : ℕ) → RiseFrom (t + 1) (times others) → k < length (roots_from (t + 1) others) → root_among others (t + 1 + k) ≡ Some (get_or (roots_from (t + 1) others) k d)) → (here : Bool) → eqb kept.second t ≡ here → (k : ℕ) → k < length (cond here (kept.root ∷ roots_from (t + 1) others) []) → root_among (kept ∷ others) (t + k) ≡ Some (get_or (cond here (kept.root ∷ roots_from (t + 1) others) []) k d)
    by more false is k lt = absurd (omega arith)
    by more true is zero lt =
        let same : eqb kept.second (t + 0) ≡ true = (let e = eqb-true kept.second t is in eq-eqb kept.second (t + 0) (omega arith)) in rw same refl
    by more true is (suc k) lt =
        let at = eqb-true kept.second t is in
        let other : eqb kept.second (t + suc k) ≡ false = ne_eqb kept.second (t + suc k) (λ e. absurd (omega arith)) in
        let rise_on : RiseFrom (t + 1) (times others) = subst (λ (n : ℕ). RiseFrom (n + 1) (times others)) at rise.1 in
        let on = more k rise_on (omega arith) in
        let place : t + 1 + k ≡ t + suc k = omega arith in
        rw other (subst (λ (n : ℕ). root_among others n ≡ Some (get_or (roots_from (t + 1) others) k d)) place on)

pub run_end : (t : ℕ) (seconds : List Second) → RiseFrom t (times seconds) → root_among seconds (t + length (roots_from t seconds)) ≡ no_root
run_end t [] rise = refl
run_end t (kept ∷ others) rise = by (λ rise. run_end (t + 1) others rise) (eqb kept.second t) refl
  where
    by : (RiseFrom (t + 1) (times others) → root_among others (t + 1 + length (roots_from (t + 1) others)) ≡ no_root) → (here : Bool) → eqb kept.second t ≡ here → root_among (kept ∷ others) (t + length (cond here (kept.root ∷ roots_from (t + 1) others) [])) ≡ no_root
    by more false is =
        let ne = eqb-false kept.second t is in
        let le = rise.0 in
        let place : t + 0 ≡ t = omega arith in
        let later : t < kept.second + 1 = omega arith in
        let none : kept_among others t ≡ nothing = above_none (kept.second + 1) t others rise.1 later in
        rw (place, is, none) refl
    by more true is =
        let at = eqb-true kept.second t is in
        let n : ℕ = length (roots_from (t + 1) others) in
        let other : eqb kept.second (t + suc n) ≡ false = ne_eqb kept.second (t + suc n) (λ e. absurd (omega arith)) in
        let rise_on : RiseFrom (t + 1) (times others) = subst (λ (n : ℕ). RiseFrom (n + 1) (times others)) at rise.1 in
        let on = more rise_on in
        let place : t + 1 + n ≡ t + suc n = omega arith in
        rw other (subst (λ (n : ℕ). root_among others n ≡ no_root) place on)

-- the run ends at 2 ^ 63 at the latest
pub run_early : (image : List ℕ → List ℕ) (t : ℕ) (seconds : List Second) → t ≤ 2 ^ 63 → AllByRecursion (IsSecond image) seconds → t + length (roots_from t seconds) ≤ 2 ^ 63
run_early image t [] early all = omega arith
run_early image t (kept ∷ others) early all = by (λ early. run_early image (t + 1) others early all.1) (eqb kept.second t) refl
  where
    by : (t + 1 ≤ 2 ^ 63 → t + 1 + length (roots_from (t + 1) others) ≤ 2 ^ 63) → (here : Bool) → eqb kept.second t ≡ here → t + length (cond here (kept.root ∷ roots_from (t + 1) others) []) ≤ 2 ^ 63
    by more false is = omega arith
    by more true is =
        let at = eqb-true kept.second t is in
        let below = all.0.early in
        let on = more (omega arith) in
        omega (arith, on)

module _ (image : List ℕ → List ℕ) (journal : Contents) (is : IsJournal image journal) where
  abbrev run : List (List ℕ)
  run = roots_from journal.start journal.seconds

  kept_in : (t : ℕ) → journal.start ≤ t → t < journal.start + length run → root_at journal t ≡ Some (get_or run (t - journal.start) zero_imprint)
  unfolding root_at
  kept_in t le lt =
      let place : journal.start + (t - journal.start) ≡ t = omega arith in
      let here = run_root journal.start (t - journal.start) zero_imprint journal.seconds is.seconds_rise (omega arith) in
      subst (λ (n : ℕ). root_among journal.seconds n ≡ Some (get_or run (t - journal.start) zero_imprint)) place here

  not_kept : root_at journal (journal.start + length run) ≡ no_root
  unfolding root_at
  not_kept = run_end journal.start journal.seconds is.seconds_rise

  some_root : (t : ℕ) → journal.start ≤ t → t < journal.start + length run → IsSome (root_at journal t)
  some_root t le lt = rw (kept_in t le lt) refl

  none_here : IsSome (root_at journal (journal.start + length run)) → ⊥
  none_here some = absurd (let no : IsSome no_root = subst (λ (o : Option (List ℕ)). IsSome o) not_kept some in cc)

  -- a second that all are kept to stands in the run or before the start
  kept_to : (p : ℕ) → ((t : ℕ) → journal.start ≤ t → t ≤ p → IsSome (root_at journal t)) → p < journal.start + length run
  kept_to p all = by (ltb p (journal.start + length run)) refl
    where
      by : (covered : Bool) → ltb p (journal.start + length run) ≡ covered → p < journal.start + length run
      by true c = ltb-true p (journal.start + length run) c
      by false c = absurd (let more = ltb-false p (journal.start + length run) c in none_here (all (journal.start + length run) (omega arith) (omega arith)))

  pub early_words : journal.start + length (calendar_of journal).roots ≤ 2 ^ 63
  unfolding calendar_of
  early_words = let early = is.start in run_early image journal.start journal.seconds (omega arith) is.seconds

  -- ---- the first second that is not kept

  -- what is missing is the second behind the run, where that is at most p
  pub missing_is : ((roots : Roots) (start last second : ℕ) → (first_missing roots start last ≡ Some second) ↔ IsFirstMissing roots start last second)
      → ((roots : Roots) (start last : ℕ) → (first_missing roots start last ≡ None) ↔ ((t : ℕ) → start ≤ t → t ≤ last → IsSome (roots t)))
      → (p : ℕ) (result : Option ℕ) → IfSome result (λ second. (second ≡ journal.start + length (calendar_of journal).roots) × (second ≤ p)) → (IsNone result → p < journal.start + length (calendar_of journal).roots)
      → result ≡ first_missing (root_at journal) journal.start p
  unfolding calendar_of
  missing_is some none p (Some second) is past = sym ((some (root_at journal) journal.start p second).1 (record {
    from = omega (arith, is.0);
    to = is.1;
    missing = subst (λ (t : ℕ). root_at journal t ≡ no_root) (sym is.0) not_kept;
    before = λ t from lt. some_root t from (omega (arith, lt, is.0));
  }))
  missing_is some none p None is past = sym ((none (root_at journal) journal.start p).1 (λ t from to. some_root t from (omega (arith, to, past refl))))

  -- ---- the calendar

  pub before_end : (p : ℕ) → IsCovered (root_at journal) journal.start p → p < journal.start + length (calendar_of journal).roots
  unfolding calendar_of
  before_end p covered = kept_to p covered.each

  pub end_before : (p : ℕ) → journal.start ≤ p → p < journal.start + length (calendar_of journal).roots → IsCovered (root_at journal) journal.start p
  unfolding calendar_of
  end_before p from lt = record { from = from; each = λ t from to. some_root t from (omega (arith, to, lt)) }

  pub covered_words : (p : ℕ) → IsTrue (is_covered (calendar_of journal) p) ↔ IsCovered (root_at journal) journal.start p
  unfolding calendar_of
  covered_words p = (
    λ e. (let b = and_parts (leb journal.start p) (ltb p (journal.start + length run)) e in
        let early = ltb-true p (journal.start + length run) b.1 in
        record { from = leb-true journal.start p b.0; each = λ t from to. some_root t from (omega arith) }),
    λ covered. rw (le-leb journal.start p covered.from, lt-ltb p (journal.start + length run) (kept_to p covered.each)) refl,
  )

  leaf_by : (t : ℕ) (early : Bool) → ltb t journal.start ≡ early → t < journal.start + length run
      → cond early zero_imprint (get_or run (t - journal.start) zero_imprint) ≡ cond early zero_imprint (unwrap_or (root_at journal t) zero_imprint)
  leaf_by t true is lt = refl
  leaf_by t false is lt = let le = ltb-false t journal.start is in let kept = kept_in t (omega arith) lt in rw kept refl

  pub leaves_words : (t : ℕ) → t < journal.start + length (calendar_of journal).roots → calendar_leaf (calendar_of journal) t ≡ second_leaf (root_at journal) journal.start t
  unfolding calendar_of
  leaves_words t lt = leaf_by t (ltb t journal.start) refl lt

  leaf_kept : (t : ℕ) → journal.start ≤ t → t < journal.start + length run → root_at journal t ≡ Some (calendar_leaf (calendar_of journal) t)
  unfolding calendar_of
  leaf_kept t from lt = kept_in t from lt ∙ ap (λ (root : List ℕ). Some root) (sym (cond-false (ltb t journal.start) zero_imprint (get_or run (t - journal.start) zero_imprint) (le-ltb t journal.start from)))

  pub seconds_words : ((seconds : Seconds) (roots : Roots) (last : ℕ) → suc last ≡ seconds.start + length seconds.roots → ((t : ℕ) → seconds.start ≤ t → t ≤ last → roots t ≡ Some (calendar_leaf seconds t)) → seconds ≡ covered_seconds roots seconds.start last)
      → (last : ℕ) → suc last ≡ journal.start + length (calendar_of journal).roots → calendar_of journal ≡ covered_seconds (root_at journal) journal.start last
  unfolding calendar_of
  seconds_words known last end = known (calendar_of journal) (root_at journal) last end (λ t from to. leaf_kept t from (omega (arith, to, end)))
  -- ---- finding a second

pub found : (least t n : ℕ) (seconds : List Second) → RiseFrom least (times seconds) → ((j : ℕ) (d : Second) → j < n → (get_or seconds j d).second < t) → ((j : ℕ) (d : Second) → n ≤ j → j < length seconds → t ≤ (get_or seconds j d).second)
    → kept_among seconds t ≡ at_place (place_of seconds n) t
found least t n [] rise before behind = refl
found least t zero (kept ∷ others) rise before behind = by (eqb kept.second t) refl
  where
    by : (here : Bool) → eqb kept.second t ≡ here → cond here (Some kept) (kept_among others t) ≡ cond here (Some kept) nothing
    by true is = refl
    by false is =
        let ne = eqb-false kept.second t is in
        let le : t ≤ kept.second = behind 0 kept (omega arith) (omega arith) in
        above_none (kept.second + 1) t others rise.1 (omega arith)
found least t (suc n) (kept ∷ others) rise before behind =
    let lt : kept.second < t = before 0 kept (omega arith) in
    let other : eqb kept.second t ≡ false = ne_eqb kept.second t (λ e. absurd (omega arith)) in
    rw other (found (kept.second + 1) t n others rise.1 (λ j d lt. before (suc j) d (omega arith)) (λ j d le lt. behind (suc j) d (omega arith) (omega arith)))

pub place_in : (n : ℕ) (d : Second) (seconds : List Second) → n < length seconds → place_of seconds n ≡ Some (get_or seconds n d)
place_in n d [] lt = absurd (omega arith)
place_in zero d (kept ∷ others) lt = refl
place_in (suc n) d (kept ∷ others) lt = place_in n d others (omega arith)

pub place_past : (n : ℕ) (seconds : List Second) → length seconds ≤ n → place_of seconds n ≡ nothing
place_past n [] le = refl
place_past zero (kept ∷ others) le = absurd (omega arith)
place_past (suc n) (kept ∷ others) le = place_past n others (omega arith)

-- seconds that stand later are later
pub later : (least : ℕ) (d e : Second) (seconds : List Second) (i j : ℕ) → RiseFrom least (times seconds) → i ≤ j → j < length seconds → (get_or seconds i d).second ≤ (get_or seconds j e).second
later least d e [] i j rise le lt = absurd (omega arith)
later least d e (kept ∷ others) zero zero rise le lt = omega arith
later least d e (kept ∷ others) (suc i) zero rise le lt = absurd (omega arith)
later least d e (kept ∷ others) (suc i) (suc j) rise le lt = later (kept.second + 1) d e others i j rise.1 (omega arith) (omega arith)
later least d e (kept ∷ others) zero (suc j) rise le lt = let more = above (kept.second + 1) e others j rise.1 (omega arith) in omega (arith, more)
  where
    above : (least : ℕ) (d : Second) (seconds : List Second) (j : ℕ) → RiseFrom least (times seconds) → j < length seconds → least ≤ (get_or seconds j d).second
    above least d [] j rise lt = absurd (omega arith)
    above least d (kept ∷ others) zero rise lt = rise.0
    above least d (kept ∷ others) (suc j) rise lt = let le = rise.0 in let more = above (kept.second + 1) d others j rise.1 (omega arith) in omega (arith, more)

-- the second in the middle is the one that was read there
pub before_middle : (least : ℕ) (seconds : List Second) (t low middle : ℕ) (here : Second) → RiseFrom least (times seconds) → middle < length seconds → (get_or seconds middle here).second < t
    → (j : ℕ) (d : Second) → j < middle + 1 → (get_or seconds j d).second < t
before_middle least seconds t low middle here rise lt less j d le =
    let l = later least d here seconds j middle rise (omega arith) lt in omega (arith, l)

pub behind_middle : (least : ℕ) (seconds : List Second) (t middle : ℕ) (here : Second) → RiseFrom least (times seconds) → middle < length seconds → t ≤ (get_or seconds middle here).second
    → (j : ℕ) (d : Second) → middle ≤ j → j < length seconds → t ≤ (get_or seconds j d).second
behind_middle least seconds t middle here rise lt le j d from to =
    let l = later least here d seconds middle j rise from to in omega (arith, l)

-- what is read at a place
pub got : (r : Option (Bor Second)) (n : ℕ) (seconds : List Second) → is_some r ≡ ltb n (length seconds) → IfSome r (λ (x : Bor Second). x.now ≡ get_or seconds n x.now) → view_kept r ≡ place_of seconds n
got None n seconds is same = sym (place_past n seconds (ltb-false n (length seconds) (sym is)))
got (Some x) n seconds is same = ap (λ (kept : Second). Some kept) same ∙ sym (place_in n x.now seconds (ltb-true n (length seconds) (sym is)))
