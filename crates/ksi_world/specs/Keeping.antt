-- What a list of cores holds and sealed for a second.
use Rattle.std.specs.Prelude.{◌≡◌, ℕ, ◌≤◌, ◌<◌, if◌then◌else◌, List, [], ◌∷◌, slice_get, Option, Some, None, option_map, unwrap_or}
use Rattle.std.specs.Str.{bytes_eq}
use Rattle.ksi_imprint.specs.Imprints.{zero_imprint}
use Rattle.ksi_aggtree.specs.declared.item.Item.{Item}
use Rattle.ksi_corenode.specs.CoreState.{CoreState, state_of, held_by}
use Rattle.ksi_aggtree.specs.declared.second.Second.{Second}
use Rattle.ksi_world.specs.Records.{or_else, kept_with, sealed_as}

-- what the first has that has something
abbrev pub first_of : {A B : Type 0} → (A → Option B) → List A → Option B
first_of f [] = None
first_of f (x ∷ xs) = or_else (f x) (first_of f xs)

-- the root of the first core that holds one
abbrev pub root_among : List CoreState → (second : ℕ) → Option (List ℕ)
root_among cores t = first_of (λ (core : CoreState). held_by core t) cores

-- the core holds nothing for the seconds from one on and before another
abbrev pub IsIdle : CoreState → (from end : ℕ) → Type 0
IsIdle core from end = (t : ℕ) → from ≤ t → t < end → held_by core t ≡ None

-- none of the cores holds anything for them
abbrev pub AreIdle : List CoreState → (from end : ℕ) → Type 0
AreIdle cores from end = (j : ℕ) (core : CoreState) → slice_get cores j ≡ Some core → IsIdle core from end

-- the core holds nothing before the known second, which is at most the end; nothing is said of one that has passed
abbrev pub IsKnown : CoreState → (from end known : ℕ) → Type 0
IsKnown core from end known = from ≤ known → (known ≤ end) × IsIdle core from known

-- this is so of each core, and the known second at its place
abbrev pub AreKnown : List CoreState → (from end : ℕ) → List ℕ → Type 0
AreKnown cores from end known = (j : ℕ) (core : CoreState) (one : ℕ) → slice_get cores j ≡ Some core → slice_get known j ≡ Some one → IsKnown core from end one

module _ (image : List ℕ → List ℕ) where
  -- the sealed items of the first core whose candidate the root is
  abbrev pub sealed_among : List CoreState → (second : ℕ) → (root : List ℕ) → Option (List Item)
  sealed_among cores t root = first_of (λ (core : CoreState). sealed_as image root (state_of core t).sealed) cores

  abbrev pub items_among : List CoreState → (second : ℕ) → (root : List ℕ) → List Item
  items_among cores t root = if bytes_eq root zero_imprint then [] else unwrap_or (sealed_among cores t root) []

  unfoldable pub second_among : List CoreState → (second : ℕ) → Option Second
  second_among cores t = option_map (λ root. kept_with t root (items_among cores t root)) (root_among cores t)
