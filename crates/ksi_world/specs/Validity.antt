-- What a decided second is: missed, or the tree of items that a core sealed. And which seconds were published.
use Rattle.std.specs.Prelude.{◌≡◌, ◌≢◌, ◌⊎◌, ℕ, suc, ◌<◌, ◌≤◌, List, [], ◌∷◌, length, Some, IfSome}
use Rattle.std.specs.List.{AllByRecursion}
use Rattle.ksi_imprint.specs.Imprints.{IsImprint, zero_imprint}
use Rattle.ksi_aggtree.specs.declared.entries.Entry.{Entry}
use Rattle.ksi_aggtree.specs.Names.{IsName}
use Rattle.ksi_aggtree.specs.Rounds.{IsRound, tree_of}
use Rattle.ksi_aggtree.specs.Entries.{items_of, candidate_of}
use Rattle.ksi_schedule.specs.Plans.{PlanState}
use Rattle.ksi_aggtree.specs.declared.second.Second.{Second}
use Rattle.ksi_world.specs.Histories.{WorldState}

-- a core of the plan sealed items for the second, at least one, and the root is their candidate
pub record IsProposed (image : List ℕ → List ℕ) (plan : PlanState) (w : WorldState) (second : ℕ) (root : List ℕ) : Type 0 where
  pub owner : ℕ
  pub entries : List Entry
  pub there : owner < plan.cores
  pub sealed : (w.seconds owner second).sealed ≡ Some entries
  pub candidate : candidate_of image entries ≡ root
  pub some : 1 ≤ length entries
  pub round : IsRound (items_of entries)

-- a second with the zero imprint has no items
pub record IsMissed (kept : Second) : Type 0 where
  pub zero : kept.root ≡ zero_imprint
  pub none : kept.items ≡ []

-- any other has at least one, at most 65,536, whose leaves have levels to 239, and its root is the imprint of their tree
pub record HasTree (image : List ℕ → List ℕ) (kept : Second) : Type 0 where
  pub real : kept.root ≢ zero_imprint
  pub some : 1 ≤ length kept.items
  pub round : IsRound kept.items
  pub tree : (tree_of image kept.items).imprint ≡ kept.root

abbrev pub IsKept : (List ℕ → List ℕ) → Second → Type 0
IsKept image kept = IsMissed kept ⊎ HasTree image kept

-- its root and its items' imprints are imprints, and their names are names
abbrev pub HasImprints : Second → Type 0
HasImprints kept = IsImprint kept.root × AllByRecursion (λ item. IsImprint item.imprint × IfSome item.name IsName) kept.items

abbrev pub EachKept : (Second → Type 0) → List Second → Type 0
EachKept P [] = Unit {0}
EachKept P (kept ∷ others) = P kept × EachKept P others

-- the seconds rise from this one on
abbrev pub AreRising : (from : ℕ) → List Second → Type 0
AreRising from [] = Unit {0}
AreRising from (kept ∷ others) = (from ≤ kept.second) × AreRising (suc kept.second) others

-- the published times rise from this one on, and are before the other
abbrev pub AreTimes : (from before : ℕ) → List (ℕ × List ℕ) → Type 0
AreTimes from before [] = Unit {0}
AreTimes from before (x ∷ xs) = (from ≤ x.0) × (x.0 < before) × AreTimes (suc x.0) before xs
