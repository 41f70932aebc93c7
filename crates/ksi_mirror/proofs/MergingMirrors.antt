-- The union of the lists of two mirrors is the union of the mirrors, and where the lists differ so do the mirrors.
use Rattle.std.proofs.Common.{◌≡◌, ℕ, ◌+◌, ◌<◌, ◌≤◌, Bool, true, false, ltb, List, [], ◌∷◌, map, Option, Some, None, refl, sym, ap, subst, ◌∙◌, arith}
use Rattle.std.specs.Prelude.{option_map}
use Rattle.std.specs.List.{AllByRecursion}
use Rattle.std.proofs.lemmas.Bool.{ltb-true, ltb-false}
use Rattle.ksi_aggtree.specs.declared.item.Item.{Item}
use Rattle.ksi_mirror.specs.declared.sealed_list.SealedList.{SealedList}
use Rattle.ksi_mirror.specs.declared.refusal.MergeRefusal.{MergeRefusal}
use Rattle.ksi_mirror.specs.declared.refusal.MergeRefusal.TheVariants.{Starts, Conflict, Trees}
use Rattle.ksi_mirror.specs.Maps.{Agree, entry_at, or_else}
use Rattle.ksi_mirror.specs.Mirrors.{MirrorState, root_of, list_of, rank_at, rank, IsRoot, IsList, IsMirror}
use Rattle.ksi_mirror.specs.Merging.{Merges, FirstDifferAt, HaveRoots, HaveLists, AreTrees, IsMergeRefusal}
use Rattle.ksi_mirror.specs.Keys.{DifferFirst, IsUnited}
use Rattle.ksi_journal.specs.Journal.{RiseFrom}
use Rattle.ksi_mirror.proofs.ByKeys.{rise_earlier, at_key, at_first, at_later, none_below}
use Rattle.ksi_mirror.proofs.Lookups.{second_of_root, root_in, items_in, root_is, list_is, no_list, rank_second, rank_core, found_is, agree_map, or_map}

-- what holds of all that is found holds of all
from_entries : {A : Type 0} (key : A → ℕ) (P : A → Type 0) (least : ℕ) (zs : List A) → RiseFrom least (map key zs) → ((k : ℕ) (x : A) → entry_at key zs k ≡ Some x → P x) → AllByRecursion P zs
from_entries key P least [] rise each = tt
from_entries {A} key P least (z ∷ zs) rise each = (each (key z) z (at_first key z zs), from_entries key P (key z + 1) zs rise.1 (λ k x e. each k x (later k x e)))
  where
    later : (k : ℕ) (x : A) → entry_at key zs k ≡ Some x → entry_at key (z ∷ zs) k ≡ Some x
    later k x e = by (ltb (key z) k) refl
      where
        by : (above : Bool) → ltb (key z) k ≡ above → entry_at key (z ∷ zs) k ≡ Some x
        by true is = sym (at_later key z zs k (ltb-true (key z) k is)) ∙ e
        by false is = absurd (let le = ltb-false (key z) k is in let none = none_below key (key z + 1) zs k rise.1 (omega (arith, le)) in cc)

-- what is found in the union was found in one of both
united_are : {A : Type 0} (key : A → ℕ) (P : A → Type 0) (xs ys merged : List A) (least : ℕ) → IsUnited key xs ys merged → RiseFrom least (map key merged)
    → AllByRecursion P xs → AllByRecursion P ys → AllByRecursion P merged
united_are {A} key P xs ys merged least united rises all_first all_second =
    from_entries key P least merged rises (λ k x e. of_both k x (entry_at key xs k) (entry_at key ys k) refl refl (sym (united.both k) ∙ e))
  where
    of_both : (k : ℕ) (x : A) (o p : Option A) → entry_at key xs k ≡ o → entry_at key ys k ≡ p → or_else o p ≡ Some x → P x
    of_both k x (Some y) p ex ey e = found_is key P xs k x all_first (ex ∙ e)
    of_both k x None p ex ey e = found_is key P ys k x all_second (ey ∙ e)

abbrev pub pair : ℕ → List ℕ → ℕ × List ℕ
pair n root = (n, root)

abbrev pub listed : ℕ → ℕ → List Item → SealedList
listed t j items = record { second = t; core = j; items = items }

pub pair_of : (a b : ℕ × List ℕ) → a.0 ≡ b.0 → a.1 ≡ b.1 → a ≡ b
pair_of a b e f = ap (λ n. pair n a.1) e ∙ ap (λ root. pair b.0 root) f

pub list_by : (x y : SealedList) → x.second ≡ y.second → x.core ≡ y.core → x.items ≡ y.items → x ≡ y
list_by x y e f g = ap (λ t. listed t x.core x.items) e ∙ ap (λ j. listed y.second j x.items) f ∙ ap (λ items. listed y.second y.core items) g

pub core_in : (xs : List SealedList) (k : ℕ) (x : SealedList) → AllByRecursion IsList xs → entry_at rank xs k ≡ Some x → x.core < 16
core_in xs k x all e = let c = (found_is rank IsList xs k x all e).core in omega (arith, c)

module _ (one two : MirrorState) (is : IsMirror one) (other : IsMirror two) (start : one.start ≡ two.start) where
  -- ---- the lists of both that agree

  roots_agree : (t : ℕ) → Agree (entry_at second_of_root one.roots t) (entry_at second_of_root two.roots t) → Agree (root_of one t) (root_of two t)
  roots_agree t agree = subst (λ o. Agree o (root_of two t)) (sym (root_is one.roots t)) (subst (λ o. Agree (option_map root_in (entry_at second_of_root one.roots t)) o) (sym (root_is two.roots t))
      (agree_map root_in (entry_at second_of_root one.roots t) (entry_at second_of_root two.roots t) agree))

  lists_agree : (t j : ℕ) → Agree (entry_at rank one.lists (rank_at t j)) (entry_at rank two.lists (rank_at t j)) → Agree (list_of one t j) (list_of two t j)
  lists_agree t j agree = by (ltb j 16) refl
    where
      by : (small : Bool) → ltb j 16 ≡ small → Agree (list_of one t j) (list_of two t j)
      by true lt = subst (λ o. Agree o (list_of two t j)) (sym (list_is one.lists t j is.lists (ltb-true j 16 lt))) (subst (λ o. Agree (option_map items_in (entry_at rank one.lists (rank_at t j))) o) (sym (list_is two.lists t j other.lists (ltb-true j 16 lt)))
          (agree_map items_in (entry_at rank one.lists (rank_at t j)) (entry_at rank two.lists (rank_at t j)) agree))
      by false ge = subst (λ o. Agree o (list_of two t j)) (sym (no_list one.lists t j is.lists (let le = ltb-false j 16 ge in omega (arith, le)))) tt

  -- the same of lists of which those before a rank agree
  lists_before : (most : ℕ) → ((k : ℕ) → k < most → Agree (entry_at rank one.lists k) (entry_at rank two.lists k)) → (t j : ℕ) → (j < 16 → rank_at t j < most) → Agree (list_of one t j) (list_of two t j)
  lists_before most before t j lt = by (ltb j 16) refl
    where
      by : (small : Bool) → ltb j 16 ≡ small → Agree (list_of one t j) (list_of two t j)
      by true is_small = lists_agree t j (before (rank_at t j) (lt (ltb-true j 16 is_small)))
      by false ge = subst (λ o. Agree o (list_of two t j)) (sym (no_list one.lists t j is.lists (let le = ltb-false j 16 ge in omega (arith, le)))) tt

  -- ---- the union

  merged_is : (merged : MirrorState) → merged.start ≡ one.start → IsUnited second_of_root one.roots two.roots merged.roots → IsUnited rank one.lists two.lists merged.lists → IsMirror merged
  merged_is merged begins roots lists =
      let early = is.start in
      let start_first : one.start ≡ merged.start = sym begins in
      let start_second : two.start ≡ merged.start = sym start ∙ sym begins in
      let roots_rise : RiseFrom merged.start (map second_of_root merged.roots) =
      roots.rises merged.start (subst (λ n. RiseFrom n (map second_of_root one.roots)) start_first is.roots_rise) (subst (λ n. RiseFrom n (map second_of_root two.roots)) start_second other.roots_rise) in
      let lists_rise : RiseFrom (rank_at merged.start 0) (map rank merged.lists) =
      lists.rises (rank_at merged.start 0) (subst (λ n. RiseFrom (rank_at n 0) (map rank one.lists)) start_first is.lists_rise) (subst (λ n. RiseFrom (rank_at n 0) (map rank two.lists)) start_second other.lists_rise) in
      record {
        start = omega (arith, early, begins);
        roots = united_are second_of_root IsRoot one.roots two.roots merged.roots merged.start roots roots_rise is.roots other.roots;
        roots_rise = roots_rise;
        lists = united_are rank IsList one.lists two.lists merged.lists (rank_at merged.start 0) lists lists_rise is.lists other.lists;
        lists_rise = lists_rise;
      }

  pub merged_merges : (merged : MirrorState) → merged.start ≡ one.start → IsUnited second_of_root one.roots two.roots merged.roots → IsUnited rank one.lists two.lists merged.lists → IsMirror merged × Merges one two merged
  merged_merges merged begins roots lists = (
    merged_is merged begins roots lists,
    record {
      first = sym begins;
      second = sym start ∙ sym begins;
      roots = record { agree = λ t. roots_agree t (roots.agree t); both = both_roots };
      lists = λ t. record { agree = λ j. lists_agree t j (lists.agree (rank_at t j)); both = λ j. both_lists t j (ltb j 16) refl };
    },
  )
    where
      both_roots : (t : ℕ) → root_of merged t ≡ or_else (root_of one t) (root_of two t)
      both_roots t =
          root_is merged.roots t ∙ ap (λ o. option_map root_in o) (roots.both t)
          ∙ or_map root_in (entry_at second_of_root one.roots t) (entry_at second_of_root two.roots t)
          ∙ ap (λ o. or_else o (option_map root_in (entry_at second_of_root two.roots t))) (sym (root_is one.roots t)) ∙ ap (λ o. or_else (root_of one t) o) (sym (root_is two.roots t))

      both_lists : (t j : ℕ) (small : Bool) → ltb j 16 ≡ small → list_of merged t j ≡ or_else (list_of one t j) (list_of two t j)
      both_lists t j true is_small =
          let lt = ltb-true j 16 is_small in
          list_is merged.lists t j (merged_is merged begins roots lists).lists lt ∙ ap (λ o. option_map items_in o) (lists.both (rank_at t j))
          ∙ or_map items_in (entry_at rank one.lists (rank_at t j)) (entry_at rank two.lists (rank_at t j))
          ∙ ap (λ o. or_else o (option_map items_in (entry_at rank two.lists (rank_at t j)))) (sym (list_is one.lists t j is.lists lt)) ∙ ap (λ o. or_else (list_of one t j) o) (sym (list_is two.lists t j other.lists lt))
      both_lists t j false ge =
          let le = ltb-false j 16 ge in
          no_list merged.lists t j (merged_is merged begins roots lists).lists (omega (arith, le)) ∙ sym (no_list two.lists t j other.lists (omega (arith, le)))
          ∙ sym (ap (λ o. or_else o (list_of two t j)) (no_list one.lists t j is.lists (omega (arith, le))))

  -- ---- roots that differ, where the lists before their second agree

  pub roots_differ : (a b : ℕ × List ℕ) → DifferFirst second_of_root one.roots two.roots a b → ((k : ℕ) → k < rank_at a.0 0 → Agree (entry_at rank one.lists k) (entry_at rank two.lists k))
      → HaveRoots one two a.0 a.1 b.1
  roots_differ a b d before = record {
    start = start;
    before = λ t lt. record { root = roots_agree t (d.before t lt); lists = λ j. lists_before (rank_at a.0 0) before t j (λ small. omega (arith, lt, small)) };
    first = root_is one.roots a.0 ∙ ap (λ o. option_map root_in o) d.first;
    second_root = root_is two.roots a.0 ∙ ap (λ o. option_map root_in o) d.second;
    other = λ e. d.other (let same : b.0 ≡ a.0 = at_key second_of_root two.roots a.0 b d.second in pair_of a b (sym same) e);
  }

  -- ---- lists that differ, where the roots to their second agree

  pub lists_items : (x y : SealedList) → DifferFirst rank one.lists two.lists x y → x.items ≡ y.items → ⊥
  lists_items x y d e =
      let same : rank y ≡ rank x = at_key rank two.lists (rank x) y d.second in
      let small = core_in one.lists (rank x) x is.lists d.first in
      let small_second = core_in two.lists (rank x) y other.lists d.second in
      d.other (list_by x y (rank_second x.second x.core y.second y.core small small_second (sym same)) (rank_core x.second x.core y.second y.core small small_second (sym same)) e)

  pub lists_differ : (x y : SealedList) (place : ℕ) → DifferFirst rank one.lists two.lists x y → FirstDifferAt x.items y.items place → ((t : ℕ) → t ≤ x.second → Agree (entry_at second_of_root one.roots t) (entry_at second_of_root two.roots t))
      → HaveLists one two x.second x.core place
  lists_differ x y place d differ to =
      let small = core_in one.lists (rank x) x is.lists d.first in
      record {
        start = start;
        before = λ t lt. record { root = roots_agree t (to t (omega (arith, lt))); lists = λ j. lists_before (rank x) d.before t j (λ low. omega (arith, lt, low)) };
        root = roots_agree x.second (to x.second (omega arith));
        lower = λ j lt. lists_before (rank x) d.before x.second j (λ low. omega (arith, lt));
        first = x.items;
        second_list = y.items;
        has_first = list_is one.lists x.second x.core is.lists small ∙ ap (λ o. option_map items_in o) d.first;
        has_second = list_is two.lists x.second x.core other.lists small ∙ ap (λ o. option_map items_in o) d.second;
        differ = differ;
      }

  -- what the code says of such lists
  pub trees_refused : (x y : SealedList) (refusal : MergeRefusal) → DifferFirst rank one.lists two.lists x y → AreTrees x y refusal → ((t : ℕ) → t ≤ x.second → Agree (entry_at second_of_root one.roots t) (entry_at second_of_root two.roots t))
      → IsMergeRefusal one two refusal
  trees_refused x y (Trees second core place) d are to =
      subst (λ t. HaveLists one two t core place) (sym are.0) (subst (λ j. HaveLists one two x.second j place) (sym are.1) (lists_differ x y place d are.2 to))
  trees_refused x y (Starts a b) d are to = absurd are
  trees_refused x y (Conflict t a b) d are to = absurd are

-- ---- the lists as the code has them

pub united_by : {A : Type 0} (key : A → ℕ) (xs us ys vs merged : List A) → xs ≡ us → ys ≡ vs → IsUnited key xs ys merged → IsUnited key us vs merged
united_by key xs us ys vs merged e f united = subst (λ us. IsUnited key us vs merged) e (subst (λ vs. IsUnited key xs vs merged) f united)

pub differ_by : {A : Type 0} (key : A → ℕ) (xs us ys vs : List A) (x y : A) → xs ≡ us → ys ≡ vs → DifferFirst key xs ys x y → DifferFirst key us vs x y
differ_by key xs us ys vs x y e f d = subst (λ us. DifferFirst key us vs x y) e (subst (λ vs. DifferFirst key xs vs x y) f d)

pub lists_rise_by : (mirror : MirrorState) (xs : List SealedList) → IsMirror mirror → xs ≡ mirror.lists → RiseFrom 0 (map rank xs)
lists_rise_by mirror xs is e = subst (λ xs. RiseFrom 0 (map rank xs)) (sym e) (rise_earlier 0 (rank_at mirror.start 0) (map rank mirror.lists) (omega arith) is.lists_rise)

pub roots_rise_by : (mirror : MirrorState) (xs : List (ℕ × List ℕ)) → IsMirror mirror → xs ≡ mirror.roots → RiseFrom 0 (map second_of_root xs)
roots_rise_by mirror xs is e = subst (λ xs. RiseFrom 0 (map second_of_root xs)) (sym e) (rise_earlier 0 mirror.start (map second_of_root mirror.roots) (omega arith) is.roots_rise)

-- of the roots of two mirrors that agree, those to a second do
pub agree_to : (xs ys : List (ℕ × List ℕ)) (merged : List (ℕ × List ℕ)) (most : ℕ) → IsUnited second_of_root xs ys merged → (t : ℕ) → t ≤ most → Agree (entry_at second_of_root xs t) (entry_at second_of_root ys t)
agree_to xs ys merged most united t le = united.agree t

pub agree_before : (xs ys : List (ℕ × List ℕ)) (a b : ℕ × List ℕ) (most : ℕ) → DifferFirst second_of_root xs ys a b → most < a.0 → (t : ℕ) → t ≤ most → Agree (entry_at second_of_root xs t) (entry_at second_of_root ys t)
agree_before xs ys a b most d lt t le = d.before t (omega (arith, lt, le))

-- of lists that differ at a second, those of the seconds before it agree
pub lists_to : (xs ys : List SealedList) (x y : SealedList) (second : ℕ) → DifferFirst rank xs ys x y → second ≤ x.second → (k : ℕ) → k < rank_at second 0 → Agree (entry_at rank xs k) (entry_at rank ys k)
lists_to xs ys x y second d le k lt = d.before k (omega (arith, le, lt))
