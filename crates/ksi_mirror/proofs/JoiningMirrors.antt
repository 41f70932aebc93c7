-- Merging mirrors is a join, and is refused for one reason.
use Rattle.std.proofs.Common.{◌≡◌, ℕ, zero, suc, ◌<◌, Bool, true, false, ltb, List, [], ◌∷◌, map, take, Option, Some, None, refl, sym, ap, subst, ◌∙◌, arith}
use Rattle.std.specs.Prelude.{slice_get, option_map}
use Rattle.std.specs.List.{AllByRecursion}
use Rattle.std.proofs.lemmas.Bool.{ltb-true, ltb-false}
use Rattle.ksi_journal.specs.Journal.{RiseFrom}
use Rattle.ksi_aggtree.specs.declared.item.Item.{Item}
use Rattle.ksi_mirror.specs.declared.sealed_list.SealedList.{SealedList}
use Rattle.ksi_mirror.specs.declared.refusal.MergeRefusal.{MergeRefusal}
use Rattle.ksi_mirror.specs.declared.refusal.MergeRefusal.TheVariants.{Starts, Conflict, Trees}
use Rattle.ksi_mirror.specs.Maps.{Agree, entry_at}
use Rattle.ksi_mirror.specs.Mirrors.{MirrorState, root_of, list_of, rank_at, rank, IsList, IsMirror}
use Rattle.ksi_mirror.specs.Merging.{AgreeAt, MayMerge, Merges, FirstDifferAt, HaveRoots, HaveLists, IsMergeRefusal}
use Rattle.ksi_mirror.proofs.ByKeys.{same_entries, at_key}
use Rattle.ksi_mirror.proofs.Lookups.{second_of_root, root_in, items_in, root_is, list_is}
use Rattle.ksi_mirror.proofs.MergingMirrors.{pair_of, list_by, core_in}
use Rattle.ksi_mirror.proofs.Joining.{union_same, union_either, union_on, union_back, union_absorbs, agree_either}

pub merge_same : (one : MirrorState) → Merges one one one
merge_same one = record { first = refl; second = refl; roots = union_same (root_of one); lists = λ t. union_same (list_of one t) }

pub merge_either : (one two merged : MirrorState) → Merges one two merged → Merges two one merged
merge_either one two merged m = record {
  first = m.second;
  second = m.first;
  roots = union_either (root_of one) (root_of two) (root_of merged) m.roots;
  lists = λ t. union_either (list_of one t) (list_of two t) (list_of merged t) (m.lists t);
}

pub merge_on : (one two three first second merged : MirrorState) → Merges one two first → Merges two three second → Merges first three merged → Merges one second merged
merge_on one two three first second merged a b c = record {
  first = a.first ∙ c.first;
  second = sym b.second ∙ c.second;
  roots = union_on (root_of one) (root_of two) (root_of three) (root_of first) (root_of second) (root_of merged) a.roots b.roots c.roots;
  lists = λ t. union_on (list_of one t) (list_of two t) (list_of three t) (list_of first t) (list_of second t) (list_of merged t) (a.lists t) (b.lists t) (c.lists t);
}

pub merge_back : (one two three first second merged : MirrorState) → Merges one two first → Merges two three second → Merges one second merged → Merges first three merged
merge_back one two three first second merged a b c = record {
  first = sym a.first ∙ c.first;
  second = b.second ∙ c.second;
  roots = union_back (root_of one) (root_of two) (root_of three) (root_of first) (root_of second) (root_of merged) a.roots b.roots c.roots;
  lists = λ t. union_back (list_of one t) (list_of two t) (list_of three t) (list_of first t) (list_of second t) (list_of merged t) (a.lists t) (b.lists t) (c.lists t);
}

pub merge_absorbs : (one two merged : MirrorState) → Merges one two merged → Merges merged one merged
merge_absorbs one two merged m = record {
  first = refl;
  second = m.first;
  roots = union_absorbs (root_of one) (root_of two) (root_of merged) m.roots;
  lists = λ t. union_absorbs (list_of one t) (list_of two t) (list_of merged t) (m.lists t);
}

pub may_either : (one two : MirrorState) → MayMerge one two → MayMerge two one
may_either one two may = record {
  start = sym may.start;
  each = λ t. let here = may.each t in record {
    root = agree_either (root_of one t) (root_of two t) here.root;
    lists = λ j. agree_either (list_of one t j) (list_of two t j) (here.lists j);
  };
}

pub may_merge : (one two merged : MirrorState) → Merges one two merged → MayMerge one two
may_merge one two merged m = record {
  start = m.first ∙ sym m.second;
  each = λ t. record { root = m.roots.agree t; lists = (m.lists t).agree };
}

-- ---- a mirror is what it has

module _ {A B : Type 0} (key : A → ℕ) (f : A → B) (back : (x y : A) → key x ≡ key y → f x ≡ f y → x ≡ y) (xs ys : List A) where
  -- entries of one key are the same where what they hold is
  pub entries_by : (k : ℕ) → option_map f (entry_at key xs k) ≡ option_map f (entry_at key ys k) → entry_at key xs k ≡ entry_at key ys k
  entries_by k e = by (entry_at key xs k) (entry_at key ys k) refl refl e
    where
      by : (o p : Option A) → entry_at key xs k ≡ o → entry_at key ys k ≡ p → option_map f o ≡ option_map f p → o ≡ p
      by None None a b e = refl
      by None (Some y) a b e = absurd cc
      by (Some x) None a b e = absurd cc
      by (Some x) (Some y) a b e = let held : f x ≡ f y = cc in ap Some (back x y (at_key key xs k x a ∙ sym (at_key key ys k y b)) held)

-- the second and the core of a rank
rank_of_entry : (xs : List SealedList) (k : ℕ) (x : SealedList) → AllByRecursion IsList xs → entry_at rank xs k ≡ Some x → (x.core < 16) × (rank_at x.second x.core ≡ k)
rank_of_entry xs k x all e = (core_in xs k x all e, at_key rank xs k x e)

abbrev with_all : ℕ → List (ℕ × List ℕ) → List SealedList → MirrorState
with_all n roots lists = record { start = n; roots = roots; lists = lists }

pub same_mirror : (one two : MirrorState) → IsMirror one → IsMirror two → one.start ≡ two.start → ((t : ℕ) → root_of one t ≡ root_of two t) → ((t j : ℕ) → list_of one t j ≡ list_of two t j) → one ≡ two
same_mirror one two is other start roots lists =
    ap (λ n. with_all n one.roots one.lists) start ∙ ap (λ xs. with_all two.start xs one.lists) roots_are ∙ ap (λ xs. with_all two.start two.roots xs) lists_are
  where
    roots_are : one.roots ≡ two.roots
    roots_are = same_entries second_of_root one.start one.roots two.roots is.roots_rise (subst (λ n. RiseFrom n (map second_of_root two.roots)) (sym start) other.roots_rise)
        (λ t. entries_by second_of_root root_in pair_of one.roots two.roots t (sym (root_is one.roots t) ∙ roots t ∙ root_is two.roots t))

    -- where one of them has an entry, it is of a second and a core
    entry_same : (k : ℕ) → entry_at rank one.lists k ≡ entry_at rank two.lists k
    entry_same k = by (entry_at rank one.lists k) (entry_at rank two.lists k) refl refl
      where
        here : (t j : ℕ) → j < 16 → rank_at t j ≡ k → entry_at rank one.lists k ≡ entry_at rank two.lists k
        here t j lt e =
            subst (λ k. entry_at rank one.lists k ≡ entry_at rank two.lists k) e
            (by_items (rank_at t j) (sym (list_is one.lists t j is.lists lt) ∙ lists t j ∙ list_is two.lists t j other.lists lt))
          where
            by_items : (k : ℕ) → option_map items_in (entry_at rank one.lists k) ≡ option_map items_in (entry_at rank two.lists k) → entry_at rank one.lists k ≡ entry_at rank two.lists k
            by_items k e = by_both (entry_at rank one.lists k) (entry_at rank two.lists k) refl refl e
              where
                by_both : (o p : Option SealedList) → entry_at rank one.lists k ≡ o → entry_at rank two.lists k ≡ p → option_map items_in o ≡ option_map items_in p → o ≡ p
                by_both None None a b e = refl
                by_both None (Some y) a b e = absurd cc
                by_both (Some x) None a b e = absurd cc
                by_both (Some x) (Some y) a b e =
                    let held : items_in x ≡ items_in y = cc in
                    let ranks : rank x ≡ rank y = at_key rank one.lists k x a ∙ sym (at_key rank two.lists k y b) in
                    let low = core_in one.lists k x is.lists a in
                    let low_too = core_in two.lists k y other.lists b in
                    ap Some (list_by x y (omega (arith, ranks, low, low_too)) (omega (arith, ranks, low, low_too)) held)

        by : (o p : Option SealedList) → entry_at rank one.lists k ≡ o → entry_at rank two.lists k ≡ p → entry_at rank one.lists k ≡ entry_at rank two.lists k
        by None None a b = a ∙ sym b
        by (Some x) p a b = let at = rank_of_entry one.lists k x is.lists a in here x.second x.core at.0 at.1
        by None (Some y) a b = let at = rank_of_entry two.lists k y other.lists b in here y.second y.core at.0 at.1

    lists_are : one.lists ≡ two.lists
    lists_are = same_entries rank (rank_at one.start 0) one.lists two.lists is.lists_rise (subst (λ n. RiseFrom (rank_at n 0) (map rank two.lists)) (sym start) other.lists_rise) entry_same

pub merge_once : (one two merged other : MirrorState) → IsMirror merged → IsMirror other → Merges one two merged → Merges one two other → merged ≡ other
merge_once one two merged other is too a b =
    same_mirror merged other is too (sym a.first ∙ b.first) (λ t. a.roots.both t ∙ sym (b.roots.both t)) (λ t j. (a.lists t).both j ∙ sym ((b.lists t).both j))

-- ---- one reason

differ_not : {A : Type 0} (o p : Option A) (x y : A) → o ≡ Some x → p ≡ Some y → (x ≡ y → ⊥) → Agree o p → ⊥
differ_not o p x y a b other agree = other (let both : Agree (Some x) (Some y) = subst (λ o. Agree o (Some y)) a (subst (λ p. Agree o p) b agree) in both)

lists_not : (xs ys : List Item) (place : ℕ) → FirstDifferAt xs ys place → xs ≡ ys → ⊥
lists_not xs ys place d e = d.there (ap (λ zs. slice_get zs place) e)

pub not_refused : (one two : MirrorState) (refusal : MergeRefusal) → MayMerge one two → IsMergeRefusal one two refusal → ⊥
not_refused one two (Starts a b) may r = r.other (sym r.first ∙ may.start ∙ r.second)
not_refused one two (Conflict t a b) may r = differ_not (root_of one t) (root_of two t) a b r.first r.second_root r.other (may.each t).root
not_refused one two (Trees t j place) may r =
    differ_not (list_of one t j) (list_of two t j) r.first r.second_list r.has_first r.has_second (lists_not r.first r.second_list place r.differ) ((may.each t).lists j)

-- of two numbers of which neither may be below the other
apart : (m n : ℕ) → (m < n → ⊥) → (n < m → ⊥) → m ≡ n
apart m n low high = by (ltb m n) (ltb n m) refl refl
  where
    by : (a b : Bool) → ltb m n ≡ a → ltb n m ≡ b → m ≡ n
    by true b is other = absurd (low (ltb-true m n is))
    by false true is other = absurd (high (ltb-true n m other))
    by false false is other = let p = ltb-false m n is in let q = ltb-false n m other in omega (arith, p, q)

held : {A : Type 0} (o : Option A) (x y : A) → o ≡ Some x → o ≡ Some y → x ≡ y
held o x y a b = let same : Some x ≡ Some y = sym a ∙ b in cc

-- what is the same before a place is so at each place before it
slice_get_of : (xs ys : List Item) (p q : ℕ) → p < q → take q xs ≡ take q ys → slice_get xs p ≡ slice_get ys p
slice_get_of xs ys p zero lt e = absurd (omega arith)
slice_get_of [] [] p (suc q) lt e = refl
slice_get_of [] (y ∷ ys) p (suc q) lt e = absurd cc
slice_get_of (x ∷ xs) [] p (suc q) lt e = absurd cc
slice_get_of (x ∷ xs) (y ∷ ys) zero (suc q) lt e = let same : x ≡ y = cc in ap Some same
slice_get_of (x ∷ xs) (y ∷ ys) (suc p) (suc q) lt e = let rest : take q xs ≡ take q ys = cc in slice_get_of xs ys p q (omega (arith, lt)) rest

place_same : (xs ys : List Item) (p q : ℕ) → FirstDifferAt xs ys p → FirstDifferAt xs ys q → p < q → ⊥
place_same xs ys p q one two lt = one.there (slice_get_of xs ys p q lt two.before)

module _ (one two : MirrorState) where
  conflict_not : (t : ℕ) (a b : List ℕ) → HaveRoots one two t a b → AgreeAt one two t → ⊥
  conflict_not t a b r agree = differ_not (root_of one t) (root_of two t) a b r.first r.second_root r.other agree.root

  trees_not : (t j place : ℕ) → HaveLists one two t j place → Agree (list_of one t j) (list_of two t j) → ⊥
  trees_not t j place r agree = differ_not (list_of one t j) (list_of two t j) r.first r.second_list r.has_first r.has_second (lists_not r.first r.second_list place r.differ) agree

  conflict_trees : (t : ℕ) (a b : List ℕ) (u j place : ℕ) → HaveRoots one two t a b → HaveLists one two u j place → ⊥
  conflict_trees t a b u j place r q =
      let e : t ≡ u = apart t u (λ lt. conflict_not t a b r (q.before t lt)) (λ lt. trees_not u j place q ((r.before u lt).lists j)) in
      differ_not (root_of one t) (root_of two t) a b r.first r.second_root r.other (subst (λ t. Agree (root_of one t) (root_of two t)) (sym e) q.root)

  pub one_reason : (refusal other : MergeRefusal) → IsMergeRefusal one two refusal → IsMergeRefusal one two other → refusal ≡ other
  one_reason (Starts a b) (Starts c d) r q = ap (λ n. Starts n b) (sym r.first ∙ q.first) ∙ ap (λ n. Starts c n) (sym r.second ∙ q.second)
  one_reason (Starts a b) (Conflict u c d) r q = absurd (r.other (sym r.first ∙ q.start ∙ r.second))
  one_reason (Starts a b) (Trees u j p) r q = absurd (r.other (sym r.first ∙ q.start ∙ r.second))
  one_reason (Conflict t a b) (Starts c d) r q = absurd (q.other (sym q.first ∙ r.start ∙ q.second))
  one_reason (Trees t j p) (Starts c d) r q = absurd (q.other (sym q.first ∙ r.start ∙ q.second))
  one_reason (Conflict t a b) (Conflict u c d) r q =
      let e : t ≡ u = apart t u (λ lt. conflict_not t a b r (q.before t lt)) (λ lt. conflict_not u c d q (r.before u lt)) in
      ap (λ n. Conflict n a b) e
      ∙ ap (λ root. Conflict u root b) (held (root_of one u) a c (ap (root_of one) (sym e) ∙ r.first) q.first)
      ∙ ap (λ root. Conflict u c root) (held (root_of two u) b d (ap (root_of two) (sym e) ∙ r.second_root) q.second_root)
  one_reason (Conflict t a b) (Trees u j p) r q = absurd (conflict_trees t a b u j p r q)
  one_reason (Trees t j p) (Conflict u c d) r q = absurd (conflict_trees u c d t j p q r)
  one_reason (Trees t j p) (Trees u i q) r s =
      let e : t ≡ u = apart t u (λ lt. trees_not t j p r ((s.before t lt).lists j)) (λ lt. trees_not u i q s ((r.before u lt).lists i)) in
      let f : j ≡ i = apart j i (λ lt. trees_not t j p r (subst (λ t. Agree (list_of one t j) (list_of two t j)) (sym e) (s.lower j lt))) (λ lt. trees_not u i q s (subst (λ t. Agree (list_of one t i) (list_of two t i)) e (r.lower i lt))) in
      let first : r.first ≡ s.first = held (list_of one u i) r.first s.first (ap (λ t. list_of one t i) (sym e) ∙ ap (λ j. list_of one t j) (sym f) ∙ r.has_first) s.has_first in
      let second : r.second_list ≡ s.second_list = held (list_of two u i) r.second_list s.second_list (ap (λ t. list_of two t i) (sym e) ∙ ap (λ j. list_of two t j) (sym f) ∙ r.has_second) s.has_second in
      let differ : FirstDifferAt s.first s.second_list p = subst (λ xs. FirstDifferAt xs s.second_list p) first (subst (λ ys. FirstDifferAt r.first ys p) second r.differ) in
      let g : p ≡ q = apart p q (place_same s.first s.second_list p q differ s.differ) (place_same s.first s.second_list q p s.differ differ) in
      ap (λ n. Trees n j p) e ∙ ap (λ n. Trees u n p) f ∙ ap (λ n. Trees u i n) g
