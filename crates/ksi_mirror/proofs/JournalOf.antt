-- The journal of a mirror's roots.
use Rattle.std.proofs.Common.{◌≡◌, ℕ, zero, suc, ◌+◌, ◌<◌, ◌≤◌, Bool, true, false, cond, ◌&&◌, eqb, List, [], ◌∷◌, ◌++◌, length, map, Option, Some, None, Result, Ok, Err, refl, sym, ap, subst, ◌∙◌, arith, append_assoc}
use Rattle.std.specs.Prelude.{option_map}
use Rattle.std.specs.List.{AllByRecursion}
use Rattle.std.specs.Str.{bytes_eq}
use Rattle.std.proofs.lemmas.Bool.{eqb-true, eqb-false, eq-eqb, ne_eqb}
use Rattle.std.proofs.lemmas.Slice.Eq.{bytes_eq-Decides}
use Rattle.ksi_imprint.specs.Imprints.{zero_imprint}
use Rattle.ksi_aggtree.specs.declared.item.Item.{Item}
use Rattle.ksi_aggtree.specs.declared.second.Second.{Second}
use Rattle.ksi_aggtree.specs.Rounds.{item_at, leaf_level, tree_of}
use Rattle.ksi_synod.specs.declared.core_plan.VotersFrom.{VotersFrom}
use Rattle.ksi_journal.specs.Journal.{RiseFrom, IsItem, IsRootOf, IsSecond, IsJournal}
use Rattle.ksi_mirror.specs.declared.sealed_list.SealedList.{SealedList}
use Rattle.ksi_mirror.specs.declared.refusal.WholeRefusal.{WholeRefusal}
use Rattle.ksi_mirror.specs.declared.refusal.WholeRefusal.TheVariants.{NoTree}
use Rattle.ksi_mirror.specs.Maps.{or_else}
use Rattle.ksi_mirror.specs.Mirrors.{MirrorState, list_among, list_of, rank_at, rank, IsRoot, IsList, IsMirror}
use Rattle.ksi_mirror.specs.Whole.{lowest, kept_with, tree_as, items_from, second_from, second_for, with_second, seconds_for, first_tree}

-- ---- the items of a list make a round

low_items : (items : List Item) (k : ℕ) → AllByRecursion IsItem items → leaf_level (item_at items k) ≤ 239
low_items [] k all = omega arith
low_items (item ∷ items) zero all = all.0.low
low_items (item ∷ items) (suc k) all = low_items items k all.1

-- ---- the first of rising lists is that of the lowest core

-- what stands below all lists is not there
none_listed : (t j : ℕ) (xs : List SealedList) → RiseFrom (rank_at t j + 1) (map rank xs) → list_among xs t j ≡ None
none_listed t j [] rise = refl
none_listed t j (x ∷ xs) rise = by (eqb x.second t) (eqb x.core j) refl refl (none_listed t j xs (earlier (map rank xs) rise.1))
  where
    earlier : (ns : List ℕ) → RiseFrom (rank x + 1) ns → RiseFrom (rank_at t j + 1) ns
    earlier [] more = tt
    earlier (n ∷ ns) more = (let le = rise.0 in let up = more.0 in omega (arith, le, up), more.1)

    by : (second core : Bool) → eqb x.second t ≡ second → eqb x.core j ≡ core → list_among xs t j ≡ None → cond (second && core) (Some x.items) (list_among xs t j) ≡ None
    by true true a b more = absurd (let p = eqb-true x.second t a in let q = eqb-true x.core j b in let le = rise.0 in omega (arith, p, q, le))
    by true false a b more = more
    by false core a b more = more

listed_here : (x : SealedList) (xs : List SealedList) (t j : ℕ) → x.second ≡ t → x.core ≡ j → list_among (x ∷ xs) t j ≡ Some x.items
listed_here x xs t j e f = let a : eqb x.second t ≡ true = eq-eqb x.second t e in let b : eqb x.core j ≡ true = eq-eqb x.core j f in rw (a, b) refl

listed_later : (x : SealedList) (xs : List SealedList) (t j : ℕ) → (x.core ≡ j → ⊥) → list_among (x ∷ xs) t j ≡ list_among xs t j
listed_later x xs t j other = by (eqb x.second t) (eqb x.core j) refl
  where
    by : (second core : Bool) → eqb x.core j ≡ core → cond (second && core) (Some x.items) (list_among xs t j) ≡ list_among xs t j
    by second true is = absurd (other (eqb-true x.core j is))
    by true false is = refl
    by false false is = refl

lowest_same : {A : Type 0} (f g : ℕ → Option A) (core n : ℕ) → ((j : ℕ) → core ≤ j → f j ≡ g j) → lowest f core n ≡ lowest g core n
lowest_same f g core zero same = refl
lowest_same f g core (suc n) same =
    ap (λ o. or_else o (lowest f (suc core) n)) (same core (omega arith)) ∙ ap (λ o. or_else (g core) o) (lowest_same f g (suc core) n (λ j le. same j (omega (arith, le))))

module _ (image : List ℕ → List ℕ) where
  pub lowest_first : (t : ℕ) (root : List ℕ) (n core : ℕ) (xs : List SealedList) → core + n ≡ 9 → RiseFrom (rank_at t core) (map rank xs) → AllByRecursion IsList xs
      → lowest (λ j. tree_as image root (list_among xs t j)) core n ≡ first_tree image t root xs
  lowest_first t root zero core [] is rise all = refl
  lowest_first t root zero core (x ∷ xs) is rise all =
      let le = rise.0 in let few = all.0.core in
      let other : eqb x.second t ≡ false = ne_eqb x.second t (λ e. absurd (omega (arith, is, le, few, e))) in
      rw other refl
  lowest_first t root (suc n) core [] is rise all = lowest_first t root n (suc core) [] (omega (arith, is)) tt tt
  lowest_first t root (suc n) core (x ∷ xs) is rise all =
      by (λ rise. lowest_first t root n (suc core) xs (omega (arith, is)) rise all.1) (λ rise. lowest_first t root n (suc core) (x ∷ xs) (omega (arith, is)) rise all) (eqb (rank x) (rank_at t core)) refl
    where
      few : x.core ≤ 8
      few = all.0.core

      skipped : (ns : List ℕ) → RiseFrom (rank x + 1) ns → rank x ≡ rank_at t core → RiseFrom (rank_at t (suc core)) ns
      skipped [] more e = tt
      skipped (m ∷ ns) more e = (let up = more.0 in omega (arith, up, e), more.1)

      matched : (found : Bool) → bytes_eq (tree_of image x.items).imprint root ≡ found → x.second ≡ t → x.core ≡ core
          → lowest (λ j. tree_as image root (list_among xs t j)) (suc core) n ≡ first_tree image t root xs
          → or_else (tree_as image root (Some x.items)) (lowest (λ j. tree_as image root (list_among (x ∷ xs) t j)) (suc core) n) ≡ or_else (tree_as image root (Some x.items)) (first_tree image t root xs)
      matched found b e f more =
          ap (λ o. or_else (tree_as image root (Some x.items)) o)
          (lowest_same (λ j. tree_as image root (list_among (x ∷ xs) t j)) (λ j. tree_as image root (list_among xs t j)) (suc core) n
          (λ j le. ap (tree_as image root) (listed_later x xs t j (λ g. absurd (omega (arith, le, f, g))))) ∙ more)

      here : (RiseFrom (rank_at t (suc core)) (map rank xs) → lowest (λ j. tree_as image root (list_among xs t j)) (suc core) n ≡ first_tree image t root xs) → rank x ≡ rank_at t core → lowest (λ j. tree_as image root (list_among (x ∷ xs) t j)) core (suc n) ≡ first_tree image t root (x ∷ xs)
      here behind e =
          let bound : core ≤ 8 = omega (arith, is) in
          let second_is : x.second ≡ t = omega (arith, e, few, bound) in
          let core_is : x.core ≡ core = omega (arith, e, few, bound) in
          let same : eqb x.second t ≡ true = eq-eqb x.second t second_is in
          ap (λ o. or_else (tree_as image root o) (lowest (λ j. tree_as image root (list_among (x ∷ xs) t j)) (suc core) n)) (listed_here x xs t core second_is core_is)
          ∙ matched (bytes_eq (tree_of image x.items).imprint root) refl second_is core_is (behind (skipped (map rank xs) rise.1 e))
          ∙ sym (rw same refl)

      by : (RiseFrom (rank_at t (suc core)) (map rank xs) → lowest (λ j. tree_as image root (list_among xs t j)) (suc core) n ≡ first_tree image t root xs)
          → (RiseFrom (rank_at t (suc core)) (map rank (x ∷ xs)) → lowest (λ j. tree_as image root (list_among (x ∷ xs) t j)) (suc core) n ≡ first_tree image t root (x ∷ xs))
          → (found : Bool) → eqb (rank x) (rank_at t core) ≡ found → lowest (λ j. tree_as image root (list_among (x ∷ xs) t j)) core (suc n) ≡ first_tree image t root (x ∷ xs)
      by behind with_it true e = here behind (eqb-true (rank x) (rank_at t core) e)
      by behind with_it false e =
          let ne = eqb-false (rank x) (rank_at t core) e in
          let le = rise.0 in
          let up : RiseFrom (rank_at t core + 1) (map rank (x ∷ xs)) = (omega (arith, le, ne), rise.1) in
          let on : RiseFrom (rank_at t (suc core)) (map rank (x ∷ xs)) = (omega (arith, le, ne), rise.1) in
          ap (λ o. or_else (tree_as image root o) (lowest (λ j. tree_as image root (list_among (x ∷ xs) t j)) (suc core) n)) (none_listed t core (x ∷ xs) up)
          ∙ with_it on

  pub items_first : (t : ℕ) (root : List ℕ) (xs : List SealedList) → RiseFrom (rank_at t 0) (map rank xs) → AllByRecursion IsList xs → items_from image (list_among xs t) root ≡ first_tree image t root xs
  unfolding items_from
  items_first t root xs rise all = lowest_first t root 9 0 xs refl rise all

  -- ---- one list after the other

  -- ---- one root

  not_zero : (root : List ℕ) → (root ≡ zero_imprint → ⊥) → bytes_eq root zero_imprint ≡ false
  not_zero root other = by (bytes_eq root zero_imprint) refl
    where
      by : (zero_is : Bool) → bytes_eq root zero_imprint ≡ zero_is → zero_is ≡ false
      by true e = absurd (other ((bytes_eq-Decides root zero_imprint).0 e))
      by false e = refl

  pub second_tree : (xs : List SealedList) (one : ℕ × List ℕ) (found : Option (List Item)) → (one.1 ≡ zero_imprint → ⊥) → RiseFrom (rank_at one.0 0) (map rank xs) → AllByRecursion IsList xs → found ≡ first_tree image one.0 one.1 xs
      → second_from image (list_among xs one.0) one ≡ option_map (kept_with one.0 one.1) found
  second_tree xs one found other rise all is =
      let zero_is = not_zero one.1 other in
      let step : second_from image (list_among xs one.0) one ≡ option_map (kept_with one.0 one.1) (items_from image (list_among xs one.0) one.1) = rw zero_is refl in
      step ∙ ap (option_map (kept_with one.0 one.1)) (items_first one.0 one.1 xs rise all ∙ sym is)

  second_same : (f g : ℕ → Option (List Item)) (one : ℕ × List ℕ) → ((j : ℕ) → f j ≡ g j) → second_from image f one ≡ second_from image g one
  unfolding items_from
  second_same f g one same = ap (λ o. cond (bytes_eq one.1 zero_imprint) (Some (kept_with one.0 one.1 [])) (option_map (kept_with one.0 one.1) o)) (lowest_same (λ j. tree_as image one.1 (f j)) (λ j. tree_as image one.1 (g j)) 0 9 (λ j le. ap (tree_as image one.1) (same j)))

  -- ---- one root after the other

  abbrev pub before : List Second → Result (List Second) WholeRefusal → Result (List Second) WholeRefusal
  before done (Ok others) = Ok (done ++ others)
  before done (Err refusal) = Err refusal

  -- what is done, and what is left of the roots and of the lists
  pub record Journaling (mirror : MirrorState) (done : List Second) (left : List (ℕ × List ℕ)) (lists : List SealedList) : Type 0 where
    pub from : ℕ
    pub left_rises : RiseFrom from (map (λ one. one.0) left)
    pub all : AllByRecursion IsList lists
    pub rises : RiseFrom 0 (map rank lists)
    pub same : (t j : ℕ) → from ≤ t → list_among lists t j ≡ list_of mirror t j
    pub said : seconds_for image mirror mirror.roots ≡ before done (seconds_for image mirror left)

  pub journaling_begins : (mirror : MirrorState) (done : List Second) (lists : List SealedList) → IsMirror mirror → done ≡ [] → lists ≡ mirror.lists → Journaling mirror done mirror.roots lists
  journaling_begins mirror done lists is none e = record {
    from = mirror.start;
    left_rises = is.roots_rise;
    all = subst (AllByRecursion IsList) (sym e) is.lists;
    rises = subst (λ xs. RiseFrom 0 (map rank xs)) (sym e) (early (map rank mirror.lists) is.lists_rise);
    same = λ t j le. ap (λ xs. list_among xs t j) e;
    said = none_before (seconds_for image mirror mirror.roots) ∙ ap (λ xs. before xs (seconds_for image mirror mirror.roots)) (sym none);
  }
    where
      early : (ns : List ℕ) → RiseFrom (rank_at mirror.start 0) ns → RiseFrom 0 ns
      early [] rise = tt
      early (n ∷ ns) rise = (omega arith, rise.1)

      none_before : (r : Result (List Second) WholeRefusal) → r ≡ before [] r
      none_before (Ok xs) = refl
      none_before (Err e) = refl

  module _ (mirror : MirrorState) (done : List Second) (left rest : List (ℕ × List ℕ)) (one : ℕ × List ℕ) (lists : List SealedList) (so : Journaling mirror done left lists) (is : left ≡ one ∷ rest)
      (further : List SealedList) (further_all : AllByRecursion IsList further) (further_rises : RiseFrom (rank_at one.0 0) (map rank further)) (further_same : (t j : ℕ) → one.0 ≤ t → list_among further t j ≡ list_among lists t j) where
    rise_here : RiseFrom so.from (map (λ one. one.0) (one ∷ rest))
    rise_here = subst (λ xs. RiseFrom so.from (map (λ one. one.0) xs)) is so.left_rises

    second_is : second_from image (list_among further one.0) one ≡ second_for image mirror one
    second_is = second_same (list_among further one.0) (list_of mirror one.0) one (λ j. further_same one.0 j (omega arith) ∙ so.same one.0 j rise_here.0)

    said_here : seconds_for image mirror mirror.roots ≡ before done (with_second one.0 (second_from image (list_among further one.0) one) (seconds_for image mirror rest))
    said_here = so.said ∙ ap (λ xs. before done (seconds_for image mirror xs)) is ∙ ap (λ o. before done (with_second one.0 o (seconds_for image mirror rest))) (sym second_is)

    pub journaling_goes_on : (kept : Second) (more : List Second) → second_from image (list_among further one.0) one ≡ Some kept → more ≡ done ++ kept ∷ [] → Journaling mirror more rest further
    journaling_goes_on kept more found e =
        let up = rise_here.0 in
        record {
          from = one.0 + 1;
          left_rises = rise_here.1;
          all = further_all;
          rises = early (map rank further) further_rises;
          same = λ t j le. further_same t j (omega (arith, le)) ∙ so.same t j (omega (arith, le, up));
          said = said_here ∙ ap (λ o. before done (with_second one.0 o (seconds_for image mirror rest))) found ∙ moved (seconds_for image mirror rest) ∙ ap (λ xs. before xs (seconds_for image mirror rest)) (sym e);
        }
      where
        early : (ns : List ℕ) → RiseFrom (rank_at one.0 0) ns → RiseFrom 0 ns
        early [] rise = tt
        early (n ∷ ns) rise = (omega arith, rise.1)

        moved : (r : Result (List Second) WholeRefusal) → before done (with_second one.0 (Some kept) r) ≡ before (done ++ kept ∷ []) r
        moved (Ok ys) = ap Ok (sym (append_assoc done (kept ∷ []) ys))
        moved (Err e) = refl

    pub journaling_refused : second_from image (list_among further one.0) one ≡ None → seconds_for image mirror mirror.roots ≡ Err (NoTree one.0)
    journaling_refused none = said_here ∙ ap (λ o. before done (with_second one.0 o (seconds_for image mirror rest))) none

-- ---- lists of a second and behind it

pub record Skipping (second : ℕ) (rest lists : List SealedList) : Type 0 where
  pub same : (t j : ℕ) → second ≤ t → list_among rest t j ≡ list_among lists t j
  pub all : AllByRecursion IsList rest
  pub rises : RiseFrom 0 (map rank rest)

pub skipping_goes_on : (second : ℕ) (rest lists others : List SealedList) (one : SealedList) → Skipping second rest lists → rest ≡ one ∷ others → one.second < second → Skipping second others lists
skipping_goes_on second rest lists others one so is lt =
    let rises : RiseFrom 0 (map rank (one ∷ others)) = subst (λ xs. RiseFrom 0 (map rank xs)) is so.rises in
    let all : AllByRecursion IsList (one ∷ others) = subst (AllByRecursion IsList) is so.all in
    record {
      same = λ t j le. skipped t j (omega (arith, le, lt)) ∙ sym (ap (λ xs. list_among xs t j) is) ∙ so.same t j le;
      all = all.1;
      rises = early (map rank others) rises.1;
    }
  where
    early : (ns : List ℕ) → RiseFrom (rank one + 1) ns → RiseFrom 0 ns
    early [] rise = tt
    early (n ∷ ns) rise = (omega arith, rise.1)

    skipped : (t j : ℕ) → one.second < t → list_among others t j ≡ list_among (one ∷ others) t j
    skipped t j lt = let other : eqb one.second t ≡ false = ne_eqb one.second t (λ e. absurd (omega (arith, lt, e))) in rw other refl

-- ---- it is a journal

-- what is known of the items of a list
record AreItems (items : List Item) : Type 0 where
  some : 1 ≤ length items
  few : length items ≤ 65536
  each : AllByRecursion IsItem items

listed_are : (xs : List SealedList) (t j : ℕ) (items : List Item) → AllByRecursion IsList xs → list_among xs t j ≡ Some items → AreItems items
listed_are [] t j items all e = absurd cc
listed_are (x ∷ xs) t j items all e = by (λ e. listed_are xs t j items all.1 e) (eqb x.second t) (eqb x.core j) e
  where
    here : Some x.items ≡ Some items → AreItems items
    here e = let same : x.items ≡ items = cc in subst AreItems same (record { some = all.0.some; few = all.0.few; each = all.0.items })

    by : (list_among xs t j ≡ Some items → AreItems items) → (second core : Bool) → cond (second && core) (Some x.items) (list_among xs t j) ≡ Some items → AreItems items
    by more true true e = here e
    by more true false e = more e
    by more false core e = more e

module _ (image : List ℕ → List ℕ) where
  -- what the lowest core has that has something
  lowest_found : (f : ℕ → Option (List Item)) (root : List ℕ) (core n : ℕ) (items : List Item) → lowest (λ j. tree_as image root (f j)) core n ≡ Some items
      → (j : ℕ) × (f j ≡ Some items) × ((tree_of image items).imprint ≡ root)
  lowest_found f root core zero items e = absurd cc
  lowest_found f root core (suc n) items e = by (λ e. lowest_found f root (suc core) n items e) (f core) refl e
    where
      test : (list : List Item) (found : Bool) → bytes_eq (tree_of image list).imprint root ≡ found → f core ≡ Some list → (lowest (λ j. tree_as image root (f j)) (suc core) n ≡ Some items → (j : ℕ) × (f j ≡ Some items) × ((tree_of image items).imprint ≡ root))
          → or_else (cond found (Some list) None) (lowest (λ j. tree_as image root (f j)) (suc core) n) ≡ Some items → (j : ℕ) × (f j ≡ Some items) × ((tree_of image items).imprint ≡ root)
      test list true b is more e =
          let same : list ≡ items = cc in
          (core, is ∙ ap (λ list. Some list) same, ap (λ list. (tree_of image list).imprint) (sym same) ∙ (bytes_eq-Decides (tree_of image list).imprint root).0 b)
      test list false b is more e = more e

      by : (lowest (λ j. tree_as image root (f j)) (suc core) n ≡ Some items → (j : ℕ) × (f j ≡ Some items) × ((tree_of image items).imprint ≡ root))
          → (o : Option (List Item)) → f core ≡ o → or_else (tree_as image root o) (lowest (λ j. tree_as image root (f j)) (suc core) n) ≡ Some items → (j : ℕ) × (f j ≡ Some items) × ((tree_of image items).imprint ≡ root)
      by more None is e = more e
      by more (Some list) is e = test list (bytes_eq (tree_of image list).imprint root) refl is more e

  items_found : (f : ℕ → Option (List Item)) (root : List ℕ) (items : List Item) → items_from image f root ≡ Some items → (j : ℕ) × (f j ≡ Some items) × ((tree_of image items).imprint ≡ root)
  unfolding items_from
  items_found f root items e = lowest_found f root 0 9 items e

  rooted : (root : List ℕ) (items : List Item) → (root ≡ zero_imprint → ⊥) → 1 ≤ length items → (tree_of image items).imprint ≡ root → IsRootOf image items root
  rooted root [] real some tree = absurd (omega (arith, some))
  rooted root (item ∷ items) real some tree = (real, tree)

  record IsSecondOf (one : ℕ × List ℕ) (kept : Second) : Type 0 where
    is : IsSecond image kept
    second : kept.second ≡ one.0

  zero_second : (one : ℕ × List ℕ) → IsRoot one → one.1 ≡ zero_imprint → IsSecondOf one (kept_with one.0 one.1 [])
  zero_second one is zero_is = record { is = record { early = is.early; imprint = is.imprint; few = omega arith; items = tt; tree = zero_is }; second = refl }

  tree_second : (mirror : MirrorState) (one : ℕ × List ℕ) (items : List Item) → IsMirror mirror → IsRoot one → (one.1 ≡ zero_imprint → ⊥) → items_from image (list_of mirror one.0) one.1 ≡ Some items → IsSecondOf one (kept_with one.0 one.1 items)
  tree_second mirror one items all is real e =
      let found = items_found (list_of mirror one.0) one.1 items e in
      let are = listed_are mirror.lists one.0 found.0 items all.lists found.1 in
      record { is = record { early = is.early; imprint = is.imprint; few = are.few; items = are.each; tree = rooted one.1 items real are.some found.2 }; second = refl }

  second_is_one : (mirror : MirrorState) (one : ℕ × List ℕ) (kept : Second) → IsMirror mirror → IsRoot one → second_for image mirror one ≡ Some kept → IsSecondOf one kept
  second_is_one mirror one kept all is e = by (bytes_eq one.1 zero_imprint) refl e
    where
      by_items : (found : Option (List Item)) → items_from image (list_of mirror one.0) one.1 ≡ found → (one.1 ≡ zero_imprint → ⊥) → option_map (kept_with one.0 one.1) found ≡ Some kept → IsSecondOf one kept
      by_items None is_none real e = absurd cc
      by_items (Some items) some real e = let same : kept_with one.0 one.1 items ≡ kept = cc in subst (IsSecondOf one) same (tree_second mirror one items all is real some)

      by : (zero_is : Bool) → bytes_eq one.1 zero_imprint ≡ zero_is → cond zero_is (Some (kept_with one.0 one.1 [])) (option_map (kept_with one.0 one.1) (items_from image (list_of mirror one.0) one.1)) ≡ Some kept → IsSecondOf one kept
      by true z e = let same : kept_with one.0 one.1 [] ≡ kept = cc in subst (IsSecondOf one) same (zero_second one is ((bytes_eq-Decides one.1 zero_imprint).0 z))
      by false z e = by_items (items_from image (list_of mirror one.0) one.1) refl (λ zero_is. absurd (let t = (bytes_eq-Decides one.1 zero_imprint).1 zero_is in cc)) e

  record AreSecondsOf (roots : List (ℕ × List ℕ)) (seconds : List Second) : Type 0 where
    are : AllByRecursion (IsSecond image) seconds
    times : map (λ kept. kept.second) seconds ≡ map (λ one. one.0) roots

  seconds_are : (mirror : MirrorState) (roots : List (ℕ × List ℕ)) (seconds : List Second) → IsMirror mirror → AllByRecursion IsRoot roots → seconds_for image mirror roots ≡ Ok seconds → AreSecondsOf roots seconds
  seconds_are mirror [] seconds all is e = let same : [] ≡ seconds = cc in subst (AreSecondsOf []) same (record { are = tt; times = refl })
  seconds_are mirror (one ∷ others) seconds all is e =
      by (λ rest e. seconds_are mirror others rest all is.1 e) (second_for image mirror one) refl (seconds_for image mirror others) refl e
    where
      by : ((rest : List Second) → seconds_for image mirror others ≡ Ok rest → AreSecondsOf others rest) → (o : Option Second) → second_for image mirror one ≡ o
          → (r : Result (List Second) WholeRefusal) → seconds_for image mirror others ≡ r → with_second one.0 o r ≡ Ok seconds → AreSecondsOf (one ∷ others) seconds
      by more None is_none r rest e = absurd cc
      by more (Some kept) found (Err refusal) rest e = absurd cc
      by more (Some kept) found (Ok later) rest e =
          let same : kept ∷ later ≡ seconds = cc in
          let first = second_is_one mirror one kept all is.0 found in
          let behind = more later rest in
          subst (AreSecondsOf (one ∷ others)) same (record {
            are = (first.is, behind.are);
            times = ap (λ t. t ∷ map (λ (kept : Second). kept.second) later) first.second ∙ ap (λ ts. one.0 ∷ ts) behind.times;
          })

  pub journal_is : (mirror : MirrorState) (seconds : List Second) → IsMirror mirror → seconds_for image mirror mirror.roots ≡ Ok seconds
      → IsJournal image (record { start = mirror.start; voters = []; seconds = seconds; issued = []; publications = [] })
  journal_is mirror seconds is e =
      let are = seconds_are mirror mirror.roots seconds is is.roots e in
      record {
        start = is.start;
        voters = tt;
        voters_rise = tt;
        seconds = are.are;
        seconds_rise = subst (RiseFrom mirror.start) (sym are.times) is.roots_rise;
        issued = tt;
        numbers_rise = tt;
        publications = tt;
        times_rise = tt;
      }

  pub journal_by : (mirror : MirrorState) (start : ℕ) (voters : List VotersFrom) (seconds : List Second) (issued publications : List (ℕ × List ℕ)) → IsMirror mirror → start ≡ mirror.start → voters ≡ [] → issued ≡ [] → publications ≡ []
      → seconds_for image mirror mirror.roots ≡ Ok seconds → IsJournal image (record { start = start; voters = voters; seconds = seconds; issued = issued; publications = publications })
  journal_by mirror start voters seconds issued publications is a b c d e =
      let P : ℕ → List VotersFrom → List (ℕ × List ℕ) → List (ℕ × List ℕ) → Type 0 = λ start voters issued publications. IsJournal image (record { start = start; voters = voters; seconds = seconds; issued = issued; publications = publications }) in
      subst (λ start. P start voters issued publications) (sym a) (subst (λ voters. P mirror.start voters issued publications) (sym b)
      (subst (λ issued. P mirror.start [] issued publications) (sym c) (subst (λ publications. P mirror.start [] [] publications) (sym d) (journal_is mirror seconds is e))))

-- a test that failed
pub failed_test : (P : Type 0) (b : Bool) → (b ≡ true → P) × (P → b ≡ true) → b ≡ false → P → ⊥
failed_test P b iff is p = absurd (let t = iff.1 p in cc)
