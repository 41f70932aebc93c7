-- The union of two mirrors as a function is their union, or why there is none; and it is a join.
use Rattle.std.proofs.Common.{◌≡◌, ℕ, suc, ◌<◌, ◌≤◌, Bool, true, false, cond, ◌&&◌, eqb, ltb, List, [], ◌∷◌, map, take, Option, Some, None, Result, Ok, Err, refl, sym, ap, subst, ◌∙◌, arith}
use Rattle.std.specs.Prelude.{◌↔◌, slice_get, option_map}
use Rattle.std.specs.Str.{bytes_eq}
use Rattle.std.proofs.lemmas.Bool.{ltb-true, ltb-false, eqb-true, eqb-false, eq-eqb}
use Rattle.std.proofs.lemmas.Slice.Eq.{bytes_eq-Decides}
use Rattle.ksi_journal.specs.Journal.{RiseFrom}
use Rattle.ksi_aggtree.specs.declared.item.Item.{Item}
use Rattle.ksi_mirror.specs.declared.sealed_list.SealedList.{SealedList}
use Rattle.ksi_mirror.specs.declared.refusal.MergeRefusal.{MergeRefusal}
use Rattle.ksi_mirror.specs.declared.refusal.MergeRefusal.TheVariants.{Starts, Conflict, Trees}
use Rattle.ksi_mirror.specs.Maps.{Agree, entry_at}
use Rattle.ksi_mirror.specs.Mirrors.{MirrorState, root_of, list_of, rank_at, rank, IsRoot, IsList, IsMirror}
use Rattle.ksi_mirror.specs.Merging.{MayMerge, Merges, FirstDifferAt, AreTrees, IsMergeRefusal}
use Rattle.ksi_mirror.specs.Merged.{same_name, same_item, differ_at, roots_refusal, lists_refusal, first_differing, second_of, earlier, unless_refused, union_of, why_not, merged_of, merged_then, SameOrRefused}
use Rattle.ksi_mirror.proofs.ByKeys.{at_key}
use Rattle.ksi_mirror.proofs.Lookups.{second_of_root, rank_second, rank_core}
use Rattle.ksi_mirror.proofs.MergingMirrors.{pair_of, list_by, merged_merges, roots_differ, trees_refused, agree_before, lists_to}
use Rattle.ksi_mirror.proofs.JoiningMirrors.{merge_same, merge_either, merge_on, merge_back, merge_absorbs, merge_once, may_merge, may_either, not_refused, one_reason}
use Rattle.ksi_mirror.proofs.Joining.{union_agree}
use Rattle.ksi_mirror.proofs.UnionOf.{Says, Differing, united_is, differing_says}

-- ---- items

both_true : (a b : Bool) → a && b ≡ true → (a ≡ true) × (b ≡ true)
both_true true b e = (refl, e)
both_true false b e = absurd (cc e)

name_is : (o p : Option (List ℕ)) → same_name o p ≡ true → o ≡ p
name_is None None e = refl
name_is None (Some y) e = absurd (cc e)
name_is (Some x) None e = absurd (cc e)
name_is (Some x) (Some y) e = ap Some ((bytes_eq-Decides x y).0 e)

name_itself : (o : Option (List ℕ)) → same_name o o ≡ true
name_itself None = refl
name_itself (Some x) = (bytes_eq-Decides x x).1 refl

abbrev item_with : List ℕ → ℕ → Option (List ℕ) → Item
item_with imprint level name = record { imprint = imprint; level = level; name = name }

item_is : (x y : Item) → same_item x y ≡ true → x ≡ y
item_is x y e =
    let imprints = both_true (bytes_eq x.imprint y.imprint) (eqb x.level y.level && same_name x.name y.name) e in
    let others = both_true (eqb x.level y.level) (same_name x.name y.name) imprints.1 in
    ap (λ i. item_with i x.level x.name) ((bytes_eq-Decides x.imprint y.imprint).0 imprints.0)
    ∙ ap (λ l. item_with y.imprint l x.name) (eqb-true x.level y.level others.0)
    ∙ ap (λ n. item_with y.imprint y.level n) (name_is x.name y.name others.1)

item_itself : (x : Item) → same_item x x ≡ true
item_itself x = rw ((bytes_eq-Decides x.imprint x.imprint).1 refl, eq-eqb x.level x.level refl, name_itself x.name) refl

-- where two lists differ first, or that they are the same
abbrev DifferAs : List Item → List Item → Option ℕ → Type 0
DifferAs xs ys None = xs ≡ ys
DifferAs xs ys (Some place) = FirstDifferAt xs ys place

differ_as : (xs ys : List Item) → DifferAs xs ys (differ_at xs ys)
differ_as [] [] = refl
differ_as [] (y ∷ ys) = record { before = refl; there = λ e. absurd (cc e) }
differ_as (x ∷ xs) [] = record { before = refl; there = λ e. absurd (cc e) }
differ_as (x ∷ xs) (y ∷ ys) = by (same_item x y) refl (differ_at xs ys) (differ_as xs ys)
  where
    by : (same : Bool) → same_item x y ≡ same → (o : Option ℕ) → DifferAs xs ys o → DifferAs (x ∷ xs) (y ∷ ys) (cond same (option_map suc o) (Some 0))
    by true e None more = ap (λ z. z ∷ xs) (item_is x y e) ∙ ap (λ zs. y ∷ zs) more
    by true e (Some place) more = record {
      before = ap (λ z. z ∷ take place xs) (item_is x y e) ∙ ap (λ zs. y ∷ zs) more.before;
      there = more.there;
    }
    by false e o more = record {
      before = refl;
      there = λ same. absurd (let is : x ≡ y = cc in let yes = subst (λ z. same_item x z ≡ true) is (item_itself x) in cc);
    }

-- ---- entries

roots_same : (x y : ℕ × List ℕ) → IsRoot x → IsRoot y → x.0 ≡ y.0 → roots_refusal x y ≡ None → x ≡ y
roots_same x y px py keys e = by (bytes_eq x.1 y.1) refl e
  where
    by : (same : Bool) → bytes_eq x.1 y.1 ≡ same → cond same None (Some (Conflict x.0 x.1 y.1)) ≡ None → x ≡ y
    by true is e = pair_of x y keys ((bytes_eq-Decides x.1 y.1).0 is)
    by false is e = absurd (cc e)

roots_apart : (x y : ℕ × List ℕ) (refusal : MergeRefusal) → roots_refusal x y ≡ Some refusal → x ≡ y → ⊥
roots_apart x y refusal e same = by (bytes_eq x.1 y.1) refl e
  where
    by : (one : Bool) → bytes_eq x.1 y.1 ≡ one → cond one None (Some (Conflict x.0 x.1 y.1)) ≡ Some refusal → ⊥
    by true is e = absurd (cc e)
    by false is e = absurd (let yes = (bytes_eq-Decides x.1 y.1).1 (ap (λ (one : ℕ × List ℕ). one.1) same) in cc)

roots_say : (x y : ℕ × List ℕ) (refusal : MergeRefusal) → roots_refusal x y ≡ Some refusal → refusal ≡ Conflict x.0 x.1 y.1
roots_say x y refusal e = by (bytes_eq x.1 y.1) e
  where
    by : (one : Bool) → cond one None (Some (Conflict x.0 x.1 y.1)) ≡ Some refusal → refusal ≡ Conflict x.0 x.1 y.1
    by true e = absurd (cc e)
    by false e = sym cc

lists_same : (x y : SealedList) → IsList x → IsList y → rank x ≡ rank y → lists_refusal x y ≡ None → x ≡ y
lists_same x y px py keys e = by (differ_at x.items y.items) (differ_as x.items y.items) e
  where
    by : (o : Option ℕ) → DifferAs x.items y.items o → option_map (λ place. Trees x.second x.core place) o ≡ None → x ≡ y
    by None same e =
        let low = px.core in
        let low_too = py.core in
        list_by x y (rank_second x.second x.core y.second y.core (omega (arith, low)) (omega (arith, low_too)) keys) (rank_core x.second x.core y.second y.core (omega (arith, low)) (omega (arith, low_too)) keys) same
    by (Some place) same e = absurd (cc e)

lists_say : (x y : SealedList) (refusal : MergeRefusal) → lists_refusal x y ≡ Some refusal → (second_of refusal ≡ x.second) × AreTrees x y refusal
lists_say x y refusal e = by (differ_at x.items y.items) (differ_as x.items y.items) e
  where
    by : (o : Option ℕ) → DifferAs x.items y.items o → option_map (λ place. Trees x.second x.core place) o ≡ Some refusal → (second_of refusal ≡ x.second) × AreTrees x y refusal
    by None same e = absurd (cc e)
    by (Some place) differ e =
        let is : Trees x.second x.core place ≡ refusal = cc in
        subst (λ refusal. (second_of refusal ≡ x.second) × AreTrees x y refusal) is (refl, (refl, refl, differ))

trees_apart : (x y : SealedList) (refusal : MergeRefusal) → AreTrees x y refusal → x ≡ y → ⊥
trees_apart x y (Trees t j place) are same = are.2.there (ap (λ (one : SealedList). slice_get one.items place) same)
trees_apart x y (Starts a b) are same = are
trees_apart x y (Conflict t a b) are same = are

lists_apart : (x y : SealedList) (refusal : MergeRefusal) → lists_refusal x y ≡ Some refusal → x ≡ y → ⊥
lists_apart x y refusal e same = trees_apart x y refusal (lists_say x y refusal e).1 same

-- ---- mirrors

-- what the function says
abbrev pub MergedSays : MirrorState → MirrorState → Result MirrorState MergeRefusal → Type 0
MergedSays one two (Ok merged) = IsMirror merged × Merges one two merged
MergedSays one two (Err refusal) = IsMergeRefusal one two refusal

module _ (one two : MirrorState) (is : IsMirror one) (other : IsMirror two) (start : one.start ≡ two.start) where
  abbrev SayRoots : Option MergeRefusal → Type 0
  SayRoots o = Says second_of_root roots_refusal one.roots two.roots o

  abbrev SayLists : Option MergeRefusal → Type 0
  SayLists o = Says rank lists_refusal one.lists two.lists o

  say_roots : SayRoots (first_differing second_of_root roots_refusal one.roots two.roots)
  say_roots = differing_says second_of_root IsRoot roots_refusal roots_same roots_apart one.start one.roots two.roots is.roots_rise is.roots other.roots (at_key second_of_root two.roots)

  say_lists : SayLists (first_differing rank lists_refusal one.lists two.lists)
  say_lists = differing_says rank IsList lists_refusal lists_same lists_apart (rank_at one.start 0) one.lists two.lists is.lists_rise is.lists other.lists (at_key rank two.lists)

  conflict : (refusal : MergeRefusal) → (d : Differing second_of_root roots_refusal one.roots two.roots refusal) → ((k : ℕ) → k < rank_at d.one.0 0 → Agree (entry_at rank one.lists k) (entry_at rank two.lists k))
      → IsMergeRefusal one two refusal
  conflict refusal d before =
      subst (λ refusal. IsMergeRefusal one two refusal) (sym (roots_say d.one d.two refusal d.says)) (roots_differ one two is other start d.one d.two d.differ_first before)

  trees : (refusal : MergeRefusal) → (d : Differing rank lists_refusal one.lists two.lists refusal) → ((t : ℕ) → t ≤ d.one.second → Agree (entry_at second_of_root one.roots t) (entry_at second_of_root two.roots t))
      → IsMergeRefusal one two refusal
  trees refusal d to = trees_refused one two is other start d.one d.two refusal d.differ_first (lists_say d.one d.two refusal d.says).1 to

  both : (r q : MergeRefusal) → (c : Differing second_of_root roots_refusal one.roots two.roots r) → (d : Differing rank lists_refusal one.lists two.lists q)
      → (low : Bool) → ltb (second_of q) (second_of r) ≡ low → MergedSays one two (unless_refused (union_of one two) (cond low (Some q) (Some r)))
  both r q c d true lt =
      let less = ltb-true (second_of q) (second_of r) lt in
      let q_is = (lists_say d.one d.two q d.says).0 in
      let r_is : second_of r ≡ c.one.0 = ap second_of (roots_say c.one c.two r c.says) in
      trees q d (agree_before one.roots two.roots c.one c.two d.one.second c.differ_first (omega (arith, less, q_is, r_is)))
  both r q c d false lt =
      let ge = ltb-false (second_of q) (second_of r) lt in
      let q_is = (lists_say d.one d.two q d.says).0 in
      let r_is : second_of r ≡ c.one.0 = ap second_of (roots_say c.one c.two r c.says) in
      conflict r c (lists_to one.lists two.lists d.one d.two c.one.0 d.differ_first (omega (arith, ge, q_is, r_is)))

  by_both : (o p : Option MergeRefusal) → SayRoots o → SayLists p → MergedSays one two (unless_refused (union_of one two) (earlier o p))
  by_both None None roots lists =
      merged_merges one two is other start (union_of one two) refl
      (united_is second_of_root one.start one.roots two.roots is.roots_rise (subst (λ n. RiseFrom n (map second_of_root two.roots)) (sym start) other.roots_rise) roots)
      (united_is rank (rank_at one.start 0) one.lists two.lists is.lists_rise (subst (λ n. RiseFrom (rank_at n 0) (map rank two.lists)) (sym start) other.lists_rise) lists)
  by_both None (Some q) roots lists = trees q lists (λ t le. roots t)
  by_both (Some r) None roots lists = conflict r roots (λ k lt. lists k)
  by_both (Some r) (Some q) roots lists = both r q roots lists (ltb (second_of q) (second_of r)) refl

module _ (one two : MirrorState) (is : IsMirror one) (other : IsMirror two) where
  pub merged_says : MergedSays one two (merged_of one two)
  unfolding merged_of
  merged_says = by (eqb one.start two.start) refl
    where
      by : (same : Bool) → eqb one.start two.start ≡ same → MergedSays one two (cond same (unless_refused (union_of one two) (why_not one two)) (Err (Starts one.start two.start)))
      by true e = let start = eqb-true one.start two.start e in by_both one two is other start _ _ (say_roots one two is other start) (say_lists one two is other start)
      by false e = record { first = refl; second = refl; other = eqb-false one.start two.start e }

  pub merged_iff : (merged : MirrorState) → (merged_of one two ≡ Ok merged) ↔ (IsMirror merged × Merges one two merged)
  merged_iff merged = (λ e. subst (λ r. MergedSays one two r) e merged_says, λ m. by m (merged_of one two) merged_says)
    where
      by : IsMirror merged × Merges one two merged → (r : Result MirrorState MergeRefusal) → MergedSays one two r → r ≡ Ok merged
      by m (Ok found) says = ap Ok (merge_once one two found merged says.0 m.0 says.1 m.1)
      by m (Err refusal) says = absurd (not_refused one two refusal (may_merge one two merged m.1) says)

  pub refused_iff : (refusal : MergeRefusal) → (merged_of one two ≡ Err refusal) ↔ IsMergeRefusal one two refusal
  refused_iff refusal = (λ e. subst (λ r. MergedSays one two r) e merged_says, λ m. by m (merged_of one two) merged_says)
    where
      by : IsMergeRefusal one two refusal → (r : Result MirrorState MergeRefusal) → MergedSays one two r → r ≡ Err refusal
      by m (Ok found) says = absurd (not_refused one two refusal (may_merge one two found says.1) m)
      by m (Err reason) says = ap Err (one_reason one two reason refusal says m)

-- ---- a join

may_second : (one two three merged : MirrorState) → Merges one two merged → MayMerge merged three → MayMerge two three
may_second one two three merged m may = record {
  start = m.second ∙ may.start;
  each = λ t. record {
    root = union_agree (root_of one) (root_of two) (root_of three) (root_of merged) m.roots (λ k. (may.each k).root) t;
    lists = union_agree (list_of one t) (list_of two t) (list_of three t) (list_of merged t) (m.lists t) (may.each t).lists;
  };
}

may_first : (one two three merged : MirrorState) → Merges two three merged → MayMerge one merged → MayMerge one two
may_first one two three merged m may = may_either two one (may_second three two one merged (merge_either two three merged m) (may_either one merged may))

pub joined_same : (one : MirrorState) → IsMirror one → merged_of one one ≡ Ok one
joined_same one is = (merged_iff one one is is one).1 (is, merge_same one)

pub joined_either : (one two : MirrorState) → IsMirror one → IsMirror two → SameOrRefused (merged_of one two) (merged_of two one)
joined_either one two is other = by (merged_of one two) (merged_of two one) (merged_says one two is other) (merged_says two one other is)
  where
    by : (r q : Result MirrorState MergeRefusal) → MergedSays one two r → MergedSays two one q → SameOrRefused r q
    by (Ok a) (Ok b) m n = merge_once one two a b m.0 n.0 m.1 (merge_either two one b n.1)
    by (Ok a) (Err b) m n = not_refused two one b (may_either one two (may_merge one two a m.1)) n
    by (Err a) (Ok b) m n = not_refused one two a (may_either two one (may_merge two one b n.1)) m
    by (Err a) (Err b) m n = tt

pub joined_again : (one two merged : MirrorState) → IsMirror one → IsMirror two → merged_of one two ≡ Ok merged → merged_of merged one ≡ Ok merged
joined_again one two merged is other e =
    let m = (merged_iff one two is other merged).0 e in (merged_iff merged one m.0 is merged).1 (m.0, merge_absorbs one two merged m.1)

module _ (one two three : MirrorState) (is : IsMirror one) (other : IsMirror two) (third : IsMirror three) where
  in_order : (first second : MirrorState) → IsMirror first × Merges one two first → IsMirror second × Merges two three second
      → (r q : Result MirrorState MergeRefusal) → MergedSays first three r → MergedSays one second q → SameOrRefused r q
  in_order first second a b (Ok m) (Ok n) says said = merge_once one second m n says.0 said.0 (merge_on one two three first second m a.1 b.1 says.1) said.1
  in_order first second a b (Ok m) (Err n) says said = not_refused one second n (may_merge one second m (merge_on one two three first second m a.1 b.1 says.1)) said
  in_order first second a b (Err m) (Ok n) says said = not_refused first three m (may_merge first three n (merge_back one two three first second n a.1 b.1 said.1)) says
  in_order first second a b (Err m) (Err n) says said = tt

  no_second : (first : MirrorState) (b : MergeRefusal) → Merges one two first → IsMergeRefusal two three b → (r : Result MirrorState MergeRefusal) → MergedSays first three r → SameOrRefused r (Err b)
  no_second first b m refused (Ok n) says = not_refused two three b (may_second one two three first m (may_merge first three n says.1)) refused
  no_second first b m refused (Err n) says = tt

  no_first : (second : MirrorState) (a : MergeRefusal) → Merges two three second → IsMergeRefusal one two a → (q : Result MirrorState MergeRefusal) → MergedSays one second q → SameOrRefused (Err a) q
  no_first second a m refused (Ok n) says = not_refused one two a (may_first one two three second m (may_merge one second n says.1)) refused
  no_first second a m refused (Err n) says = tt

  pub joined_any_order : SameOrRefused (merged_then (merged_of one two) (λ first. merged_of first three)) (merged_then (merged_of two three) (λ second. merged_of one second))
  joined_any_order = by (merged_of one two) (merged_of two three) (merged_says one two is other) (merged_says two three other third)
    where
      by : (r q : Result MirrorState MergeRefusal) → MergedSays one two r → MergedSays two three q → SameOrRefused (merged_then r (λ first. merged_of first three)) (merged_then q (λ second. merged_of one second))
      by (Ok a) (Ok b) m n = in_order a b m n (merged_of a three) (merged_of one b) (merged_says a three m.0 third) (merged_says one b is n.0)
      by (Ok a) (Err b) m n = no_second a b m.1 n (merged_of a three) (merged_says a three m.0 third)
      by (Err a) (Ok b) m n = no_first b a n.1 m (merged_of one b) (merged_says one b is n.0)
      by (Err a) (Err b) m n = tt
