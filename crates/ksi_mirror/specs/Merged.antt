-- The union of two mirrors, or why there is none, as a function. The law `merged_is_merging` says that these are those of
-- `Merging`, and `merged_is_a_join` what holds of it.
use Rattle.std.specs.Prelude.{◌≡◌, ℕ, suc, ◌==◌, ◌&&◌, nat_lt, Bool, true, false, List, [], ◌∷◌, Option, Some, None, option_map, Result, Ok, Err, if◌then◌else◌}
use Rattle.std.specs.Str.{bytes_eq}
use Rattle.ksi_aggtree.specs.declared.item.Item.{Item}
use Rattle.ksi_mirror.specs.declared.sealed_list.SealedList.{SealedList}
use Rattle.ksi_mirror.specs.declared.refusal.MergeRefusal.{MergeRefusal}
use Rattle.ksi_mirror.specs.declared.refusal.MergeRefusal.TheVariants.{Starts, Conflict, Trees}
use Rattle.ksi_mirror.specs.Maps.{entry_at, or_else}
use Rattle.ksi_mirror.specs.Mirrors.{MirrorState, rank}

-- ---- the entries of two lists, in order of their keys

-- one more in its place, unless there is one of its key
abbrev pub put_in : {A : Type 0} → (A → ℕ) → A → List A → List A
put_in key y [] = y ∷ []
put_in key y (x ∷ xs) = if nat_lt (key y) (key x) then y ∷ x ∷ xs else if key x == key y then x ∷ xs else x ∷ put_in key y xs

abbrev pub united : {A : Type 0} → (A → ℕ) → List A → List A → List A
united key xs [] = xs
united key xs (y ∷ ys) = put_in key y (united key xs ys)

-- ---- where they differ

abbrev pub same_name : Option (List ℕ) → Option (List ℕ) → Bool
same_name None None = true
same_name None (Some other) = false
same_name (Some name) None = false
same_name (Some name) (Some other) = bytes_eq name other

abbrev pub same_item : Item → Item → Bool
same_item x y = bytes_eq x.imprint y.imprint && (x.level == y.level && same_name x.name y.name)

-- the first place at which two lists of items differ, if there is one
abbrev pub differ_at : List Item → List Item → Option ℕ
differ_at [] [] = None
differ_at [] (y ∷ ys) = Some 0
differ_at (x ∷ xs) [] = Some 0
differ_at (x ∷ xs) (y ∷ ys) = if same_item x y then option_map suc (differ_at xs ys) else Some 0

-- why two roots of a second, two lists of a second and core, are not one
abbrev pub roots_refusal : ℕ × List ℕ → ℕ × List ℕ → Option MergeRefusal
roots_refusal x y = if bytes_eq x.1 y.1 then None else Some (Conflict x.0 x.1 y.1)

abbrev pub lists_refusal : SealedList → SealedList → Option MergeRefusal
lists_refusal x y = option_map (λ place. Trees x.second x.core place) (differ_at x.items y.items)

abbrev pub differs_from : {A : Type 0} → (A → A → Option MergeRefusal) → A → Option A → Option MergeRefusal
differs_from differ x None = None
differs_from differ x (Some y) = differ x y

-- of the entries of a list that differ from that of their key in the second one, the first
abbrev pub first_differing : {A : Type 0} → (A → ℕ) → (A → A → Option MergeRefusal) → List A → List A → Option MergeRefusal
first_differing key differ [] ys = None
first_differing key differ (x ∷ xs) ys = or_else (differs_from differ x (entry_at key ys (key x))) (first_differing key differ xs ys)

-- ---- both

-- the second for which mirrors are not merged that start with one second
abbrev pub second_of : MergeRefusal → ℕ
second_of (Starts one two) = one
second_of (Conflict second one two) = second
second_of (Trees second core place) = second

-- that of the lesser second; at one second the first
abbrev pub earlier : Option MergeRefusal → Option MergeRefusal → Option MergeRefusal
earlier None other = other
earlier (Some refusal) None = Some refusal
earlier (Some refusal) (Some other) = if nat_lt (second_of other) (second_of refusal) then Some other else Some refusal

abbrev pub unless_refused : MirrorState → Option MergeRefusal → Result MirrorState MergeRefusal
unless_refused merged None = Ok merged
unless_refused merged (Some refusal) = Err refusal

abbrev pub union_of : MirrorState → MirrorState → MirrorState
union_of one two = record { start = one.start; roots = united (λ root. root.0) one.roots two.roots; lists = united rank one.lists two.lists }

abbrev pub why_not : MirrorState → MirrorState → Option MergeRefusal
why_not one two = earlier (first_differing (λ root. root.0) roots_refusal one.roots two.roots) (first_differing rank lists_refusal one.lists two.lists)

unfoldable pub merged_of : MirrorState → MirrorState → Result MirrorState MergeRefusal
merged_of one two = if one.start == two.start then unless_refused (union_of one two) (why_not one two) else Err (Starts one.start two.start)

-- ---- in any order

-- merged further
abbrev pub merged_then : Result MirrorState MergeRefusal → (MirrorState → Result MirrorState MergeRefusal) → Result MirrorState MergeRefusal
merged_then (Ok merged) next = next merged
merged_then (Err refusal) next = Err refusal

-- both are the same mirror, or both are refused, perhaps for different reasons
abbrev pub SameOrRefused : Result MirrorState MergeRefusal → Result MirrorState MergeRefusal → Type 0
SameOrRefused (Ok merged) (Ok other) = merged ≡ other
SameOrRefused (Ok merged) (Err other) = ⊥
SameOrRefused (Err refusal) (Ok other) = ⊥
SameOrRefused (Err refusal) (Err other) = Unit {0}
