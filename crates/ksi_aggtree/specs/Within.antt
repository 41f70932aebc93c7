-- A borrowed tree and the nodes that sides lead to in it, for the proof of the code.
use Rattle.std.specs.Prelude.{ℕ, ◌+◌, ◌<◌, ◌≤◌, List, length}
use Rattle.ksi_aggtree.specs.declared.item.Item.{Item}
use Rattle.ksi_aggtree.specs.declared.reached.Reached.{Reached}
use Rattle.ksi_aggtree.specs.declared.reached.Reached.TheVariants.{Items, Below}
use Rattle.ksi_aggtree.specs.Rounds.{most_items, highest_item, leaf_level, item_at}

-- a last item after the others of its round
pub record IsLent (others : List Item) (last : Item) : Type 0 where
  pub few : length others < most_items
  pub low : (k : ℕ) → leaf_level (item_at others k) ≤ highest_item
  pub last_low : leaf_level last ≤ highest_item

-- all that sides lead to is before item n
abbrev pub IsWithin : ℕ → Reached → Type 0
IsWithin n (Items first count) = (0 < count) × (first + count ≤ n)
IsWithin n (Below k) = k < n
