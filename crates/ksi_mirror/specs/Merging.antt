-- Two mirrors as one, and why they are not merged.
use Rattle.std.specs.Prelude.{◌≡◌, ◌≢◌, ℕ, ◌<◌, List, take, slice_get, Some}
use Rattle.ksi_aggtree.specs.declared.item.Item.{Item}
use Rattle.ksi_mirror.specs.declared.sealed_list.SealedList.{SealedList}
use Rattle.ksi_mirror.specs.declared.refusal.MergeRefusal.{MergeRefusal}
use Rattle.ksi_mirror.specs.declared.refusal.MergeRefusal.TheVariants.{Starts, Conflict, Trees}
use Rattle.ksi_mirror.specs.Maps.{Agree, AgreeAll, IsUnion}
use Rattle.ksi_mirror.specs.Mirrors.{MirrorState, root_of, list_of}

-- what both have for a second is the same
pub record AgreeAt (one two : MirrorState) (second : ℕ) : Type 0 where
  pub root : Agree (root_of one second) (root_of two second)
  pub lists : AgreeAll (list_of one second) (list_of two second)

-- they start with one second, and what both have is the same
pub record MayMerge (one two : MirrorState) : Type 0 where
  pub start : one.start ≡ two.start
  pub each : (second : ℕ) → AgreeAt one two second

-- the third is the union of the first two
pub record Merges (one two merged : MirrorState) : Type 0 where
  pub first : one.start ≡ merged.start
  pub second : two.start ≡ merged.start
  pub roots : IsUnion (root_of one) (root_of two) (root_of merged)
  pub lists : (t : ℕ) → IsUnion (list_of one t) (list_of two t) (list_of merged t)

-- ---- why two mirrors are not merged

pub record HaveStarts (one two : MirrorState) (a b : ℕ) : Type 0 where
  pub first : one.start ≡ a
  pub second : two.start ≡ b
  pub other : a ≢ b

-- the roots of a second differ, and before it all is the same
pub record HaveRoots (one two : MirrorState) (second : ℕ) (a b : List ℕ) : Type 0 where
  pub start : one.start ≡ two.start
  pub before : (t : ℕ) → t < second → AgreeAt one two t
  pub first : root_of one second ≡ Some a
  pub second_root : root_of two second ≡ Some b
  pub other : a ≢ b

-- two lists differ at a place, and not before it
pub record FirstDifferAt (xs ys : List Item) (place : ℕ) : Type 0 where
  pub before : take place xs ≡ take place ys
  pub there : slice_get xs place ≢ slice_get ys place

-- a core's lists of a second differ; before it all is the same, and for it the roots and the lists of lower cores
pub record HaveLists (one two : MirrorState) (second core place : ℕ) : Type 0 where
  pub start : one.start ≡ two.start
  pub before : (t : ℕ) → t < second → AgreeAt one two t
  pub root : Agree (root_of one second) (root_of two second)
  pub lower : (j : ℕ) → j < core → Agree (list_of one second j) (list_of two second j)
  pub first : List Item
  pub second_list : List Item
  pub has_first : list_of one second core ≡ Some first
  pub has_second : list_of two second core ≡ Some second_list
  pub differ : FirstDifferAt first second_list place

-- M1, M2 and M3
abbrev pub IsMergeRefusal : MirrorState → MirrorState → MergeRefusal → Type 0
IsMergeRefusal one two (Starts a b) = HaveStarts one two a b
IsMergeRefusal one two (Conflict second a b) = HaveRoots one two second a b
IsMergeRefusal one two (Trees second core place) = HaveLists one two second core place

-- ---- in the code

-- two lists of a core and a second, named by the place where they differ first
abbrev pub AreTrees : SealedList → SealedList → MergeRefusal → Type 0
AreTrees one two (Trees second core place) = (second ≡ one.second) × (core ≡ one.core) × FirstDifferAt one.items two.items place
AreTrees one two _ = ⊥
