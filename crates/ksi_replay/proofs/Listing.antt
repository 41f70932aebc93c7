-- What there is for seconds, listed and looked up again.
use Rattle.std.proofs.Common.{◌≡◌, ℕ, zero, suc, ◌+◌, ◌-◌, ◌^◌, ◌<◌, ◌≤◌, Bool, true, false, cond, ◌&&◌, eqb, ltb, List, [], ◌∷◌, ◌++◌, map, append-nil, append_assoc, Option, Some, None, refl, sym, ap, subst, ◌∙◌, arith}
use Rattle.std.specs.Prelude.{option_map}
use Rattle.std.specs.List.{AllByRecursion}
use Rattle.std.proofs.lemmas.Bool.{eqb-true, eqb-false, eq-eqb, ne_eqb, ltb-true, ltb-false}
use Rattle.ksi_aggtree.specs.declared.item.Item.{Item}
use Rattle.ksi_journal.specs.Journal.{RiseFrom}
use Rattle.ksi_mirror.specs.declared.sealed_list.SealedList.{SealedList}
use Rattle.ksi_mirror.specs.Mirrors.{root_among, list_among, rank_at, rank}
use Rattle.ksi_replay.specs.Mirrors.{put_before, those_from, each_second, root_with, list_with, list_at}
use Rattle.ksi_replay.proofs.Lawful.{rise_earlier}

module _ {A : Type 0} (f : ℕ → Option A) where
  -- what holds of each
  pub each_is : (P : A → Type 0) (lo n : ℕ) → ((t : ℕ) (x : A) → lo ≤ t → t < lo + n → f t ≡ Some x → P x) → AllByRecursion P (those_from f lo n)
  each_is P lo zero each = tt
  each_is P lo (suc n) each = by (f lo) refl (each_is P (suc lo) n (λ t x le lt. each t x (omega (arith, le)) (omega (arith, lt))))
    where
      by : (o : Option A) → f lo ≡ o → AllByRecursion P (those_from f (suc lo) n) → AllByRecursion P (put_before o (those_from f (suc lo) n))
      by None is later = later
      by (Some x) is later = (each lo x (omega arith) (omega arith) is, later)

  -- keys that rise with their seconds
  pub keys_rise : (key : A → ℕ) (least : ℕ → ℕ) → ((t : ℕ) → least t ≤ least (suc t)) → ((t : ℕ) (x : A) → f t ≡ Some x → (least t ≤ key x) × (key x + 1 ≤ least (suc t))) →
      (lo n : ℕ) → RiseFrom (least lo) (map key (those_from f lo n))
  keys_rise key least up between lo zero = tt
  keys_rise key least up between lo (suc n) = by (f lo) refl (keys_rise key least up between (suc lo) n)
    where
      by : (o : Option A) → f lo ≡ o → RiseFrom (least (suc lo)) (map key (those_from f (suc lo) n)) → RiseFrom (least lo) (map key (put_before o (those_from f (suc lo) n)))
      by None is later = rise_earlier (least lo) (least (suc lo)) (map key (those_from f (suc lo) n)) (up lo) later
      by (Some x) is later = let at = between lo x is in (at.0, rise_earlier (key x + 1) (least (suc lo)) (map key (those_from f (suc lo) n)) at.1 later)

-- LOOKED UP

module _ {A B : Type 0} (find : List A → Option B) (value : A → B) (fits : A → Bool) (nothing : find [] ≡ None) (step : (x : A) (xs : List A) → find (x ∷ xs) ≡ cond (fits x) (Some (value x)) (find xs)) (f : ℕ → Option A) where
  absent : (lo n : ℕ) → ((t : ℕ) (x : A) → lo ≤ t → t < lo + n → f t ≡ Some x → fits x ≡ false) → find (those_from f lo n) ≡ None
  absent lo zero others = nothing
  absent lo (suc n) others = by (f lo) refl (absent (suc lo) n (λ t x le lt. others t x (omega (arith, le)) (omega (arith, lt))))
    where
      by : (o : Option A) → f lo ≡ o → find (those_from f (suc lo) n) ≡ None → find (put_before o (those_from f (suc lo) n)) ≡ None
      by None is later = later
      by (Some x) is later = step x (those_from f (suc lo) n) ∙ ap (λ b. cond b (Some (value x)) (find (those_from f (suc lo) n))) (others lo x (omega arith) (omega arith) is) ∙ later

  found : (t lo n : ℕ) → lo ≤ t → t < lo + n → ((u : ℕ) (x : A) → f u ≡ Some x → fits x ≡ eqb u t) → find (those_from f lo n) ≡ option_map value (f t)
  found t lo zero le lt fit = absurd (omega (arith, le, lt))
  found t lo (suc n) le lt fit = by (f lo) refl (eqb lo t) refl (λ further. found t (suc lo) n further (omega (arith, lt)) fit)
    where
      -- none behind it is of its second
      behind : lo ≡ t → find (those_from f (suc lo) n) ≡ None
      behind same = absent (suc lo) n (λ u x low up is. fit u x is ∙ ne_eqb u t (λ e. absurd (omega (arith, e, same, low))))

      by : (o : Option A) → f lo ≡ o → (here : Bool) → eqb lo t ≡ here → (suc lo ≤ t → find (those_from f (suc lo) n) ≡ option_map value (f t)) → find (put_before o (those_from f (suc lo) n)) ≡ option_map value (f t)
      by None is true same later = let e = eqb-true lo t same in behind e ∙ sym (ap (λ u. option_map value (f u)) (sym e) ∙ ap (option_map value) is)
      by None is false other later = later (let ne = eqb-false lo t other in omega (arith, le, ne))
      by (Some x) is true same later =
          let e = eqb-true lo t same in
          step x (those_from f (suc lo) n) ∙ ap (λ b. cond b (Some (value x)) (find (those_from f (suc lo) n))) (fit lo x is ∙ same)
          ∙ sym (ap (λ u. option_map value (f u)) (sym e) ∙ ap (option_map value) is)
      by (Some x) is false other later =
          step x (those_from f (suc lo) n) ∙ ap (λ b. cond b (Some (value x)) (find (those_from f (suc lo) n))) (fit lo x is ∙ other)
          ∙ later (let ne = eqb-false lo t other in omega (arith, le, ne))

-- what there is is of the plan's seconds
abbrev pub IsWithin : {A : Type 0} → (start : ℕ) → (ℕ → Option A) → Type 0
IsWithin {A} start f = (t : ℕ) (x : A) → f t ≡ Some x → (start ≤ t) × (t < start + 2 ^ 24)

none_outside : {A : Type 0} (start : ℕ) (f : ℕ → Option A) → IsWithin start f → (t : ℕ) → ((start ≤ t) × (t < start + 2 ^ 24) → ⊥) → f t ≡ None
none_outside {A} start f within t out = by (f t) refl
  where
    by : (o : Option A) → f t ≡ o → o ≡ None
    by None is = refl
    by (Some x) is = absurd (out (within t x is))

-- ROOTS

module _ (roots : ℕ → Option (List ℕ)) (start : ℕ) where
  root_entry : (t : ℕ) (x : ℕ × List ℕ) → root_with roots t ≡ Some x → (x.0 ≡ t) × (roots t ≡ Some x.1)
  root_entry t x is = by (roots t) is
    where
      by : (o : Option (List ℕ)) → option_map (λ root. (t, root)) o ≡ Some x → (x.0 ≡ t) × (o ≡ Some x.1)
      by None is = absurd (cc is)
      by (Some root) is = let same : (t, root) ≡ x = cc is in (sym (ap (λ (x : ℕ × List ℕ). x.0) same), ap (λ (x : ℕ × List ℕ). Some x.1) same)

  pub roots_has : IsWithin start roots → (t : ℕ) → root_among (each_second (root_with roots) start) t ≡ roots t
  unfolding each_second
  roots_has within t = by (ltb t start) refl (ltb t (start + 2 ^ 24)) refl
    where
      looked : (u : ℕ) (x : ℕ × List ℕ) → root_with roots u ≡ Some x → eqb x.0 t ≡ eqb u t
      looked u x is = ap (λ n. eqb n t) (root_entry u x is).0

      back : (o : Option (List ℕ)) → option_map (λ (x : ℕ × List ℕ). x.1) (option_map (λ root. (t, root)) o) ≡ o
      back None = refl
      back (Some root) = refl

      outside : ((start ≤ t) × (t < start + 2 ^ 24) → ⊥) → root_among (those_from (root_with roots) start (2 ^ 24)) t ≡ roots t
      outside out =
          absent (λ xs. root_among xs t) (λ x. x.1) (λ x. eqb x.0 t) refl (λ x xs. refl) (root_with roots) start (2 ^ 24)
          (λ u x low up is. looked u x is ∙ ne_eqb u t (λ e. absurd (out (omega (arith, e, low), omega (arith, e, up)))))
          ∙ sym (none_outside start roots within t out)

      by : (low : Bool) → ltb t start ≡ low → (up : Bool) → ltb t (start + 2 ^ 24) ≡ up → root_among (those_from (root_with roots) start (2 ^ 24)) t ≡ roots t
      by true below up is = outside (λ in_it. let lt = ltb-true t start below in let le = in_it.0 in omega (arith, lt, le))
      by false from false above = outside (λ in_it. let le = ltb-false t (start + 2 ^ 24) above in let lt = in_it.1 in omega (arith, lt, le))
      by false from true before =
          found (λ xs. root_among xs t) (λ x. x.1) (λ x. eqb x.0 t) refl (λ x xs. refl) (root_with roots) t start (2 ^ 24) (let ge = ltb-false t start from in omega (arith, ge)) (ltb-true t (start + 2 ^ 24) before) looked
          ∙ back (roots t)

  pub roots_rise : RiseFrom start (map (λ (x : ℕ × List ℕ). x.0) (each_second (root_with roots) start))
  unfolding each_second
  roots_rise = keys_rise (root_with roots) (λ x. x.0) (λ t. t) (λ t. omega arith) (λ t x is. let same = (root_entry t x is).0 in (omega (arith, same), omega (arith, same))) start (2 ^ 24)

  pub roots_are : (P : ℕ × List ℕ → Type 0) → ((t : ℕ) (root : List ℕ) → start ≤ t → t < start + 2 ^ 24 → roots t ≡ Some root → P (t, root)) → AllByRecursion P (each_second (root_with roots) start)
  unfolding each_second
  roots_are P each = each_is (root_with roots) P start (2 ^ 24) (λ t x le lt is. by t x le lt (roots t) refl is)
    where
      by : (t : ℕ) (x : ℕ × List ℕ) → start ≤ t → t < start + 2 ^ 24 → (o : Option (List ℕ)) → roots t ≡ o → option_map (λ root. (t, root)) o ≡ Some x → P x
      by t x le lt None at is = absurd (cc is)
      by t x le lt (Some root) at is = let same : (t, root) ≡ x = cc is in subst P same (each t root le lt at)

-- LISTS

module _ (lists : ℕ → Option (List Item)) (core start : ℕ) where
  abbrev entry_of : ℕ → Option SealedList
  entry_of = list_at lists core

  list_entry : (t : ℕ) (x : SealedList) → entry_of t ≡ Some x → (x.second ≡ t) × (x.core ≡ core)
  list_entry t x is = by (lists t) is
    where
      by : (o : Option (List Item)) → option_map (list_with core t) o ≡ Some x → (x.second ≡ t) × (x.core ≡ core)
      by None is = absurd (cc is)
      by (Some items) is = let same : list_with core t items ≡ x = cc is in (sym (ap (λ (x : SealedList). x.second) same), sym (ap (λ (x : SealedList). x.core) same))

  abbrev looks : (t j : ℕ) → SealedList → Bool
  looks t j x = eqb x.second t && eqb x.core j

  other_core : (t j : ℕ) (x : SealedList) → (x.core ≡ j → ⊥) → looks t j x ≡ false
  other_core t j x other = by (eqb x.second t) (eqb x.core j) (ne_eqb x.core j other)
    where
      by : (a b : Bool) → b ≡ false → a && b ≡ false
      by true b is = is
      by false b is = refl

  this_core : (t j : ℕ) (x : SealedList) → x.core ≡ j → looks t j x ≡ eqb x.second t
  this_core t j x same = by (eqb x.second t) (eqb x.core j) (eq-eqb x.core j same)
    where
      by : (a b : Bool) → b ≡ true → a && b ≡ a
      by true b is = is
      by false b is = refl

  pub lists_of_others : (t j : ℕ) → (core ≡ j → ⊥) → list_among (each_second entry_of start) t j ≡ None
  unfolding each_second
  lists_of_others t j other = absent (λ xs. list_among xs t j) (λ (x : SealedList). x.items) (looks t j) refl (λ x xs. refl) entry_of start (2 ^ 24) (λ u x low up is. other_core t j x (λ e. other (sym (list_entry u x is).1 ∙ e)))

  pub lists_has : IsWithin start lists → (t : ℕ) → list_among (each_second entry_of start) t core ≡ lists t
  unfolding each_second
  lists_has within t = by (ltb t start) refl (ltb t (start + 2 ^ 24)) refl
    where
      looked : (u : ℕ) (x : SealedList) → entry_of u ≡ Some x → looks t core x ≡ eqb u t
      looked u x is = let at = list_entry u x is in this_core t core x at.1 ∙ ap (λ n. eqb n t) at.0

      back : (o : Option (List Item)) → option_map (λ (x : SealedList). x.items) (option_map (list_with core t) o) ≡ o
      back None = refl
      back (Some items) = refl

      outside : ((start ≤ t) × (t < start + 2 ^ 24) → ⊥) → list_among (those_from entry_of start (2 ^ 24)) t core ≡ lists t
      outside out =
          absent (λ xs. list_among xs t core) (λ (x : SealedList). x.items) (looks t core) refl (λ x xs. refl) entry_of start (2 ^ 24)
          (λ u x low up is. looked u x is ∙ ne_eqb u t (λ e. absurd (out (omega (arith, e, low), omega (arith, e, up)))))
          ∙ sym (none_outside start lists within t out)

      by : (low : Bool) → ltb t start ≡ low → (up : Bool) → ltb t (start + 2 ^ 24) ≡ up → list_among (those_from entry_of start (2 ^ 24)) t core ≡ lists t
      by true below up is = outside (λ in_it. let lt = ltb-true t start below in let le = in_it.0 in omega (arith, lt, le))
      by false from false above = outside (λ in_it. let le = ltb-false t (start + 2 ^ 24) above in let lt = in_it.1 in omega (arith, lt, le))
      by false from true before =
          found (λ xs. list_among xs t core) (λ (x : SealedList). x.items) (looks t core) refl (λ x xs. refl) entry_of t start (2 ^ 24) (let ge = ltb-false t start from in omega (arith, ge)) (ltb-true t (start + 2 ^ 24) before) looked
          ∙ back (lists t)

  pub lists_rise : core ≤ 8 → RiseFrom (rank_at start 0) (map rank (each_second entry_of start))
  unfolding each_second
  lists_rise few = keys_rise entry_of rank (λ t. rank_at t 0) (λ t. omega arith) (λ t x is. let at = list_entry t x is in (omega (arith, at.0), omega (arith, at.0, at.1, few))) start (2 ^ 24)

  pub lists_are : (P : SealedList → Type 0) → ((t : ℕ) (items : List Item) → start ≤ t → t < start + 2 ^ 24 → lists t ≡ Some items → P (list_with core t items)) → AllByRecursion P (each_second entry_of start)
  unfolding each_second
  lists_are P each = each_is entry_of P start (2 ^ 24) (λ t x le lt is. by t x le lt (lists t) refl is)
    where
      by : (t : ℕ) (x : SealedList) → start ≤ t → t < start + 2 ^ 24 → (o : Option (List Item)) → lists t ≡ o → option_map (list_with core t) o ≡ Some x → P x
      by t x le lt None at is = absurd (cc is)
      by t x le lt (Some items) at is = let same : list_with core t items ≡ x = cc is in subst P same (each t items le lt at)

-- ONE AFTER THE OTHER

pub those_same : {A : Type 0} (f g : ℕ → Option A) (lo n : ℕ) → ((t : ℕ) → f t ≡ g t) → those_from f lo n ≡ those_from g lo n
those_same f g lo zero same = refl
those_same f g lo (suc n) same = ap (λ o. put_before o (those_from f (suc lo) n)) (same lo) ∙ ap (put_before (g lo)) (those_same f g (suc lo) n same)

before_others : {A : Type 0} (xs : List A) (o : Option A) (later : List A) → (xs ++ put_before o []) ++ later ≡ xs ++ put_before o later
before_others xs None later = ap (λ ys. ys ++ later) (append-nil xs)
before_others xs (Some one) later = append_assoc xs (one ∷ []) later

module _ {A : Type 0} (f : ℕ → Option A) where
  -- those from one second on and before another
  abbrev pub those_to : (from end : ℕ) → List A
  those_to from end = those_from f from (end - from)

  those_next : (from end : ℕ) → from < end → those_to from end ≡ put_before (f from) (those_to (from + 1) end)
  those_next from end lt =
      let more : end - from ≡ suc (end - suc from) = omega (arith, lt) in
      let next : suc from ≡ from + 1 = omega arith in
      ap (λ n. those_from f from n) more ∙ ap (λ u. put_before (f from) (those_from f u (end - u))) next

  -- seconds for which there is nothing are skipped
  those_skip : (n from to end : ℕ) → to ≡ from + n → to ≤ end → ((t : ℕ) → from ≤ t → t < to → f t ≡ None) → those_to from end ≡ those_to to end
  those_skip zero from to end is le none = let same : from ≡ to = omega (arith, is) in ap (λ u. those_from f u (end - u)) same
  those_skip (suc n) from to end is le none =
      those_next from end (omega (arith, is, le))
      ∙ ap (λ o. put_before o (those_to (from + 1) end)) (none from (omega arith) (omega (arith, is)))
      ∙ those_skip n (from + 1) to end (omega (arith, is)) le (λ t low up. none t (omega (arith, low)) up)

  those_none : (from end : ℕ) → from ≤ end → ((t : ℕ) → from ≤ t → t < end → f t ≡ None) → those_to from end ≡ []
  those_none from end le none =
      let nothing : end - end ≡ 0 = omega arith in
      let so : end ≡ from + (end - from) = omega (arith, le) in
      let last : end ≤ end = omega arith in
      those_skip (end - from) from end end so last none ∙ ap (λ n. those_from f end n) nothing

  -- a second that is not skipped
  those_go : (xs : List A) (from second end : ℕ) → from ≤ second → second < end → ((t : ℕ) → from ≤ t → t < second → f t ≡ None) →
      (xs ++ put_before (f second) []) ++ those_to (second + 1) end ≡ xs ++ those_to from end
  those_go xs from second end le lt none =
      let so : second ≡ from + (second - from) = omega (arith, le) in
      let up : second ≤ end = omega (arith, lt) in
      before_others xs (f second) (those_to (second + 1) end)
      ∙ ap (λ ys. xs ++ ys) (sym (those_skip (second - from) from second end so up none ∙ those_next second end lt))

  -- what is listed so far, and what is still to come
  pub those_go_on : (xs more all : List A) (from second end : ℕ) → from ≤ second → second < end → ((t : ℕ) → from ≤ t → t < second → f t ≡ None)
      → more ≡ xs ++ put_before (f second) [] → xs ++ those_to from end ≡ all → more ++ those_to (second + 1) end ≡ all
  those_go_on xs more all from second end le lt none is so_far = ap (λ ys. ys ++ those_to (second + 1) end) is ∙ those_go xs from second end le lt none ∙ so_far

  pub those_end : (xs : List A) (start many from : ℕ) → from ≤ start + many → ((t : ℕ) → from ≤ t → t < start + many → f t ≡ None)
      → xs ++ those_to from (start + many) ≡ those_to start (start + many) → xs ≡ those_from f start many
  those_end xs start many from le none so_far =
      let all : start + many - start ≡ many = omega arith in
      sym (append-nil xs) ∙ ap (λ ys. xs ++ ys) (sym (those_none from (start + many) le none)) ∙ so_far ∙ ap (those_from f start) all
