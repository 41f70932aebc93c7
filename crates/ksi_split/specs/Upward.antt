-- The same trees from the bottom up, by the places of the parts that have 2 ^ k leaves.
use Rattle.std.specs.Prelude.{ℕ, zero, suc, ◌+◌, ◌-◌, ◌*◌, ◌/◌, ◌%◌, ◌==◌, nat_lt, List, [], ◌∷◌, ◌++◌, if◌then◌else◌}
use Rattle.ksi_split.specs.declared.side.Side.TheVariants.{Left, Right}
use Rattle.ksi_split.specs.declared.tree_link.TreeLink.{TreeLink}

-- n halved k times
abbrev pub halves : ℕ → ℕ → ℕ
halves zero n = n
halves (suc k) n = halves k n / 2

-- the complete part j of 2 ^ k leaves
unfoldable pub whole : {A : Type 0} → (A → A → A) → (ℕ → A) → ℕ → ℕ → A
whole join leaf zero j = leaf j
whole join leaf (suc k) j = join (whole join leaf k (2 * j)) (whole join leaf k (2 * j + 1))

-- part j of 2 ^ k leaves, if `last` is the last leaf
unfoldable pub node : {A : Type 0} → (A → A → A) → (ℕ → A) → ℕ → ℕ → ℕ → A
node join leaf last zero j = leaf j
node join leaf last (suc k) j =
    if nat_lt (2 * j) (halves k last)
    then join (node join leaf last k (2 * j)) (node join leaf last k (2 * j + 1))
    else node join leaf last k (2 * j)

-- the link up from part j of 2 ^ k leaves: none from a last part without a sibling
unfoldable pub link_up : {A : Type 0} → (A → A → A) → (ℕ → A) → ℕ → ℕ → ℕ → List (TreeLink A)
link_up join leaf last k j =
    if j % 2 == 1 then record { side = Right; sibling = node join leaf last k (j - 1) } ∷ []
    else if nat_lt j (halves k last) then record { side = Left; sibling = node join leaf last k (j + 1) } ∷ []
    else []

-- the links from leaf t up to the parts of 2 ^ k leaves
unfoldable pub links_up : {A : Type 0} → (A → A → A) → (ℕ → A) → ℕ → ℕ → ℕ → List (TreeLink A)
links_up join leaf last zero t = []
links_up join leaf last (suc k) t = links_up join leaf last k t ++ link_up join leaf last k (halves k t)
