-- The next second that something is held or sealed for, found along the entries of a map and beside a list.
use Rattle.std.proofs.Common.{◌≡◌, ◌∙◌, ℕ, ◌+◌, ◌<◌, ◌≤◌, Bool, true, false, ◌&&◌, List, [], ◌∷◌, length, cond, All, Some, None, Option, refl, sym, ap, subst, arith, inl, inr}
use Rattle.std.specs.Prelude.{unwrap_or, max, min, option_map, is_some, IsSome, IfSome, ◌||◌, ◌-◌, slice_index_or}
use Rattle.std.specs.Ordering.{is_le, is_gt, is_eq}
use Rattle.std.proofs.lemmas.Bool.{cond_both, cases_lt, and_parts, ltb-true, leb-true}
use Rattle.std.specs.List.{filter}
use Rattle.std.specs.List.Sorted.{IsStrictlySortedBy}
use Rattle.std.specs.Ordering.{nat_cmp}
use Rattle.std.specs.declared.cmp.Ordering.TheVariants.{Less, Equal, Greater}
use Rattle.std.specs.declared.cmp.Ordering.{Ordering}
use Rattle.std.specs.declared.ops.Bound.TheVariants.{Included, Unbounded}
use Rattle.std.specs.Cmp.{nat_cmp_is}
use Rattle.std.specs.Map.{lookup, keys_of}
use Rattle.std.specs.BTreeMap.{is_at}
use Rattle.std.specs.BTreeMap.Range.{range_contains}
use Rattle.std.proofs.lemmas.Cmp.{ranked}
use Rattle.std.proofs.lemmas.List.Elements.{All-head, All-tail, All-weaker}
use Rattle.std.proofs.lemmas.List.Kept.{IsStrictlySortedBy-filter}
use Rattle.std.proofs.lemmas.Map.Entries.{lookup-filter-keys}
use Rattle.std.proofs.lemmas.Map.Keys.{sorted_tail, le_from_not_gt}
use Rattle.std.proofs.lemmas.Map.Lookups.{exact_unsigned}
use Rattle.std.proofs.lemmas.Map.Views.{All-after_first}
use Rattle.ksi_corenode.specs.declared.stable.StablePart.{StablePart}
use Rattle.ksi_corenode.specs.Stored.{fresh_part, in_list, unsettled_at, part_at, items_from, second_of}
use Rattle.ksi_corenode.specs.Next.{IsNext, held_or_sealed, part_held_or_sealed}
use Rattle.ksi_corenode.specs.CoreState.{CoreState, stable_at, state_of}

-- ALONG THE ENTRIES OF A MAP

-- something is held or sealed for a second, by these entries
abbrev pub so_at : List (ℕ × StablePart) → ℕ → Bool
so_at entries t = part_held_or_sealed (unsettled_at entries t)

-- the entry is one of the map, of a second from this one on
abbrev pub IsEntry : List (ℕ × StablePart) → (from : ℕ) → ℕ × StablePart → Type 0
IsEntry entries from e = (from ≤ e.0) × (lookup (is_at (nat_cmp e.0)) entries ≡ Some e.1)

-- these entries are left to look at: they are the map's in order, and what is so of a second from this one on is so by them
pub record IsRest (entries rest : List (ℕ × StablePart)) (from : ℕ) : Type 0 where
  pub each : All (IsEntry entries from) rest
  pub ordered : IsStrictlySortedBy nat_cmp (keys_of rest)
  pub there : (t : ℕ) → from ≤ t → so_at entries t ≡ true → so_at rest t ≡ true

not_at : (t k : ℕ) → t < k → is_at (nat_cmp t) k ≡ false
not_at t k before = rw (← nat_cmp_is t k Less before) refl

none_before : (t u : ℕ) → u < t → (es : List (ℕ × StablePart)) → All (λ (k : ℕ). nat_cmp t k ≡ Less) (keys_of es) → lookup (is_at (nat_cmp u)) es ≡ None
none_before t u before [] all = refl
none_before t u before (e ∷ es) all =
    let later : t < e.0 = ranked t e.0 Less (sym (All-head (λ (k : ℕ). nat_cmp t k ≡ Less) _ _ all)) in
    ap (λ (b : Bool). cond b (Some e.1) (lookup (is_at (nat_cmp u)) es)) (not_at u e.0 (omega (arith, later, before)))
    ∙ none_before t u before es (All-tail (λ (k : ℕ). nat_cmp t k ≡ Less) _ _ all)

-- the entries of seconds from one on are left at first
keys_filter : (p : ℕ → Bool) (es : List (ℕ × StablePart)) → keys_of (filter (λ (e : ℕ × StablePart). p e.0) es) ≡ filter p (keys_of es)
keys_filter p [] = refl
keys_filter p (e ∷ es) = by (p e.0) (filter (λ (e : ℕ × StablePart). p e.0) es) (keys_filter p es)
  where
    by : (b : Bool) (rest : List (ℕ × StablePart)) → keys_of rest ≡ filter p (keys_of es) → keys_of (cond b (e ∷ rest) rest) ≡ cond b (e.0 ∷ filter p (keys_of es)) (filter p (keys_of es))
    by true rest same = ap (λ (ks : List ℕ). e.0 ∷ ks) same
    by false rest same = same

is_equal : (o : Ordering) → is_eq o ≡ true → o ≡ Equal
is_equal Less is = absurd (cc is)
is_equal Equal is = refl
is_equal Greater is = absurd (cc is)

from_here : (from t : ℕ) → from ≤ t → is_le (nat_cmp from t) ≡ true
from_here from t behind = elim (cases_lt from t) [
  | inl before ↦ rw (← nat_cmp_is from t Less before) refl
  | inr later ↦ let same : from ≡ t = omega (arith, behind, later) in rw (← nat_cmp_is from t Equal same) refl
]

pub rest_first : (entries rest : List (ℕ × StablePart)) (from : ℕ) → rest ≡ filter (λ (e : ℕ × StablePart). range_contains nat_cmp (Included from) Unbounded e.0) entries →
    IsStrictlySortedBy nat_cmp (keys_of entries) → All (λ (e : ℕ × StablePart). ((is_gt (nat_cmp from e.0) ≡ false) × Unit {0}) × (lookup (is_at (nat_cmp e.0)) entries ≡ Some e.1)) rest →
    IsRest entries rest from
rest_first entries rest from is ordered each = record {
  each = All-weaker (λ (e : ℕ × StablePart). ((is_gt (nat_cmp from e.0) ≡ false) × Unit {0}) × (lookup (is_at (nat_cmp e.0)) entries ≡ Some e.1)) (IsEntry entries from)
      (λ e in_range. (le_from_not_gt from e.0 in_range.0.0, in_range.1)) rest each;
  ordered = subst (λ (es : List (ℕ × StablePart)). IsStrictlySortedBy nat_cmp (keys_of es)) (sym is)
      (subst (IsStrictlySortedBy nat_cmp) (sym (keys_filter contains entries)) (IsStrictlySortedBy-filter nat_cmp contains (keys_of entries) ordered));
  there = λ t behind so.
      let same : lookup (is_at (nat_cmp t)) rest ≡ lookup (is_at (nat_cmp t)) entries =
      ap (lookup (is_at (nat_cmp t))) is ∙ lookup-filter-keys (is_at (nat_cmp t)) contains true (λ k at. within t behind k at) entries in
      ap (λ (o : Option StablePart). part_held_or_sealed (unwrap_or o fresh_part)) same ∙ so;
}
  where
    contains : ℕ → Bool
    contains k = range_contains nat_cmp (Included from) Unbounded k

    within : (t : ℕ) → from ≤ t → (k : ℕ) → is_at (nat_cmp t) k ≡ true → contains k ≡ true
    within t behind k at = let same : t ≡ k = exact_unsigned t k (is_equal (nat_cmp t k) at) in ap (λ (b : Bool). b && true) (from_here from k (omega (arith, same, behind)))

-- of no entries nothing is so
pub rest_none : (entries : List (ℕ × StablePart)) (from : ℕ) → IsRest entries [] from → (t : ℕ) → from ≤ t → so_at entries t ≡ false
rest_none entries from rest t behind = by (so_at entries t) refl
  where
    by : (b : Bool) → so_at entries t ≡ b → b ≡ false
    by true is = absurd (cc (rest.there t behind is))
    by false is = refl

module _ (entries rest : List (ℕ × StablePart)) (from t : ℕ) (part : StablePart) (left : IsRest entries ((t, part) ∷ rest) from) where
  -- where nothing is held or sealed for the first one, the others are left
  pub rest_next : part_held_or_sealed part ≡ false → IsRest entries rest from
  rest_next not_so = record {
    each = All-tail (IsEntry entries from) _ _ left.each;
    ordered = sorted_tail nat_cmp t (keys_of rest) left.ordered;
    there = λ u behind so. by u (is_at (nat_cmp u) t) (left.there u behind so);
  }
    where
      by : (u : ℕ) (b : Bool) → part_held_or_sealed (unwrap_or (cond b (Some part) (lookup (is_at (nat_cmp u)) rest)) fresh_part) ≡ true → so_at rest u ≡ true
      by u true so = absurd (cc (so, not_so))
      by u false so = so

  -- else it is the next one
  pub rest_here : part_held_or_sealed part ≡ true → IsNext (so_at entries) from t
  rest_here so = record {
    behind = here.0;
    this = ap (λ (o : Option StablePart). part_held_or_sealed (unwrap_or o fresh_part)) here.1 ∙ so;
    before = λ u behind earlier. by u earlier (so_at entries u) (left.there u behind);
  }
    where
      here : IsEntry entries from (t, part)
      here = All-head (IsEntry entries from) _ _ left.each

      by : (u : ℕ) → u < t → (b : Bool) → (b ≡ true → so_at ((t, part) ∷ rest) u ≡ true) → b ≡ false
      by u earlier true there =
          let none : lookup (is_at (nat_cmp u)) ((t, part) ∷ rest) ≡ None =
          ap (λ (b : Bool). cond b (Some part) (lookup (is_at (nat_cmp u)) rest)) (not_at u t earlier)
          ∙ none_before t u earlier rest (All-after_first nat_cmp t (keys_of rest) left.ordered) in
          absurd (cc (sym (there refl) ∙ ap (λ (o : Option StablePart). part_held_or_sealed (unwrap_or o fresh_part)) none))
      by u earlier false there = refl

-- BESIDE A LIST

-- what the parts of so many seconds say where all in the list are so: the others are as in the map
pub record IsBeside (so others : ℕ → Bool) (start count : ℕ) : Type 0 where
  pub listed : (t : ℕ) → start ≤ t → t < start + count → so t ≡ true
  pub other : (t : ℕ) → (start ≤ t → start + count ≤ t) → so t ≡ others t

pub parts_beside : (start : ℕ) (settled : List StablePart) (unsettled : List (ℕ × StablePart)) →
    ((t : ℕ) → start ≤ t → t < start + length settled → IsSome (part_at start settled unsettled t).vote.held) →
    IsBeside (λ t. part_held_or_sealed (part_at start settled unsettled t)) (so_at unsettled) start (length settled)
unfolding part_at
parts_beside start settled unsettled held = record {
  listed = λ t from below. ap (λ (b : Bool). b || is_some (part_at start settled unsettled t).vote.candidate) (held t from below);
  other = λ t outside. cond_both (in_list start settled t) (slice_index_or settled (t - start) fresh_part) (unsettled_at unsettled t)
      (λ (part : StablePart). part_held_or_sealed part ≡ so_at unsettled t)
      (λ both. let from : start ≤ t = leb-true start t (and_parts _ _ both).0 in
      absurd (omega (arith, outside from, ltb-true t (start + length settled) (and_parts _ _ both).1)))
      (λ _. refl);
}

module _ (so others : ℕ → Bool) (start count from : ℕ) (beside : IsBeside so others start count) where
  -- where the list ends before the first second, the next one is that of the map
  beyond_next : start + count ≤ max from start → (t : ℕ) → IsNext others from t → IsNext so from t
  beyond_next beyond t next = record {
    behind = next.behind;
    this = beside.other t (λ later. omega (arith, beyond, next.behind, later)) ∙ next.this;
    before = λ u behind earlier. beside.other u (λ later. omega (arith, beyond, behind, later)) ∙ next.before u behind earlier;
  }

  pub beyond_some : start + count ≤ max from start → (found : Option ℕ) → IfSome found (IsNext others from) → IfSome found (IsNext so from)
  beyond_some beyond None next = tt
  beyond_some beyond (Some t) next = beyond_next beyond t next

  pub beyond_none : start + count ≤ max from start → ((t : ℕ) → from ≤ t → others t ≡ false) → (t : ℕ) → from ≤ t → so t ≡ false
  beyond_none beyond none t behind = beside.other t (λ later. omega (arith, beyond, behind, later)) ∙ none t behind

  -- else it is the first second, unless the map has one before it
  pub first_next : max from start < start + count → ((t : ℕ) → from ≤ t → t < max from start → others t ≡ false) → IsNext so from (max from start)
  first_next within none = record {
    behind = omega arith;
    this = beside.listed (max from start) (omega arith) within;
    before = λ u behind earlier. beside.other u (λ later. omega (arith, behind, earlier, later)) ∙ none u behind earlier;
  }

  -- a second in the list is itself the next one
  pub here_next : start ≤ from → from < start + count → IsNext so from from
  here_next behind within = record {
    behind = omega arith;
    this = beside.listed from behind within;
    before = λ u later earlier. absurd (omega (arith, later, earlier));
  }

  pub earlier_next : (t : ℕ) → max from start < start + count → IsNext others from t → IsNext so from (min t (max from start))
  earlier_next t within next = elim (cases_lt t (max from start)) [
    | inl earlier ↦ let same : t ≡ min t (max from start) = omega (arith, earlier) in subst (λ (s : ℕ). IsNext so from s) same (record {
      behind = next.behind;
      this = beside.other t (λ later. omega (arith, next.behind, earlier, later)) ∙ next.this;
      before = λ u behind before. beside.other u (λ later. omega (arith, behind, before, earlier, later)) ∙ next.before u behind before;
    })
    | inr later ↦ let same : max from start ≡ min t (max from start) = omega (arith, later) in subst (λ (s : ℕ). IsNext so from s) same
        (first_next within (λ u behind before. next.before u behind (omega (arith, before, later))))
  ]

-- THE SAME OF THE SECONDS

pub next_same : (a b : ℕ → Bool) → ((t : ℕ) → b t ≡ a t) → (from : ℕ) (found : Option ℕ) → IfSome found (IsNext a from) → IfSome found (IsNext b from)
next_same a b same from None next = tt
next_same a b same from (Some t) next = record {
  behind = next.behind;
  this = same t ∙ next.this;
  before = λ u behind earlier. same u ∙ next.before u behind earlier;
}

pub second_so : (core : CoreState) (t : ℕ) → held_or_sealed (state_of core t) ≡ part_held_or_sealed (stable_at core t)
unfolding state_of second_of
second_so core t = by (stable_at core t).vote.candidate
  where
    by : (o : Option (List ℕ)) → (is_some (stable_at core t).vote.held || is_some (option_map (λ (candidate : List ℕ). items_from core.items (stable_at core t).first (stable_at core t).count) o)) ≡ (is_some (stable_at core t).vote.held || is_some o)
    by None = refl
    by (Some candidate) = refl
