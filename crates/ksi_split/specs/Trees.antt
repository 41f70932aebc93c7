-- Trees over numbered leaves, whatever joins their nodes: a part of more than one leaf is cut at the greatest power of
-- two below the number of its leaves.
use Rattle.std.specs.Prelude.{ℕ, zero, suc, ◌+◌, ◌-◌, ◌^◌, nat_lt, Option, Some, None, Result, Ok, Err, List, [], ◌∷◌, ◌++◌, if◌then◌else◌}
use Rattle.ksi_split.specs.declared.side.Side.{Side}
use Rattle.ksi_split.specs.declared.side.Side.TheVariants.{Left, Right}
use Rattle.ksi_split.specs.declared.tree_link.TreeLink.{TreeLink}
use Rattle.ksi_split.specs.Parts.{Part, part_at}

-- the tree over the n leaves from lo, of which there are at most 2 ^ k
unfoldable pub tree_within : {A : Type 0} → (A → A → A) → (ℕ → A) → ℕ → ℕ → ℕ → A
tree_within join leaf zero lo n = leaf lo
tree_within join leaf (suc k) lo n =
    if nat_lt (2 ^ k) n
    then join (tree_within join leaf k lo (2 ^ k)) (tree_within join leaf k (lo + 2 ^ k) (n - 2 ^ k))
    else tree_within join leaf k lo n

-- the tree over the n leaves from lo
unfoldable pub tree : {A : Type 0} → (A → A → A) → (ℕ → A) → ℕ → ℕ → A
tree join leaf lo n = tree_within join leaf n lo n

-- the links from leaf lo + t up, among the n leaves from lo, of which there are at most 2 ^ k
unfoldable pub path_within : {A : Type 0} → (A → A → A) → (ℕ → A) → ℕ → ℕ → ℕ → ℕ → List (TreeLink A)
path_within join leaf zero lo t n = []
path_within join leaf (suc k) lo t n =
    if nat_lt (2 ^ k) n
    then (if nat_lt t (2 ^ k)
    then path_within join leaf k lo t (2 ^ k) ++ record { side = Left; sibling = tree join leaf (lo + 2 ^ k) (n - 2 ^ k) } ∷ []
    else path_within join leaf k (lo + 2 ^ k) (t - 2 ^ k) (n - 2 ^ k) ++ record { side = Right; sibling = tree join leaf lo (2 ^ k) } ∷ [])
    else path_within join leaf k lo t n

-- the links from leaf lo + t up, among the n leaves from lo
unfoldable pub path_of : {A : Type 0} → (A → A → A) → (ℕ → A) → ℕ → ℕ → ℕ → List (TreeLink A)
path_of join leaf lo t n = path_within join leaf n lo t n

-- the node that one link leads to, by the side of the node below it
abbrev pub link_from : {A : Type 0} → (A → A → A) → A → TreeLink A → Side → A
link_from join x s Left = join x s.sibling
link_from join x s Right = join s.sibling x

-- the node that links lead to, the lowest first
abbrev pub climb_links : {A : Type 0} → (A → A → A) → A → List (TreeLink A) → A
climb_links join x [] = x
climb_links join x (s ∷ links) = climb_links join (link_from join x s s.side) links

-- ---- nodes

-- the tree of the part that sides lead to, if they lead to one
abbrev pub node_in : {A : Type 0} → (A → A → A) → (ℕ → A) → Result Part ℕ → Option A
node_in join leaf (Ok part) = Some (tree join leaf part.first part.count)
node_in join leaf (Err place) = None

-- the node of the tree over the leaves from 0 to `last` that sides lead to
abbrev pub node_at : {A : Type 0} → (A → A → A) → (ℕ → A) → ℕ → List Side → Option A
node_at join leaf last sides = node_in join leaf (part_at 0 (record { first = 0; count = last + 1 }) sides)
