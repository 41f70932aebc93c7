-- The items of a round with their origins. The tree is built over the items without their origins.
use Rattle.std.specs.Prelude.{◌≡◌, ℕ, Bool, false, ◌==◌, List, [], ◌∷◌, length, map}
use Rattle.std.specs.List.{list_any}
use Rattle.ksi_imprint.specs.Imprints.{zero_imprint}
use Rattle.ksi_aggtree.specs.declared.item.Item.{Item}
use Rattle.ksi_aggtree.specs.declared.entries.Origin.{Origin}
use Rattle.ksi_aggtree.specs.declared.entries.Origin.TheVariants as origins
use Rattle.ksi_aggtree.specs.declared.entries.Entry.{Entry}
use Rattle.ksi_aggtree.specs.Rounds.{most_items, tree_of}

-- the items without their origins
abbrev pub items_of : List Entry → List Item
items_of entries = map (λ (entry : Entry). entry.item) entries

-- the origin is this aggregator
abbrev pub is_from : ℕ → Origin → Bool
is_from aggregator (origins.Request number) = false
is_from aggregator (origins.Aggregator from) = from == aggregator

-- an item of the aggregator is there
abbrev pub has_from : ℕ → List Entry → Bool
has_from aggregator entries = list_any (λ (entry : Entry). is_from aggregator entry.origin) entries

-- the messages to the origin of an item: one to an aggregator, none for a request
abbrev pub to_sender : {Sent : Type 0} → (ℕ → Sent) → Origin → List Sent
to_sender send (origins.Request number) = []
to_sender send (origins.Aggregator from) = send from ∷ []

-- a round takes no more
abbrev pub is_full : List Entry → Bool
is_full entries = length entries == most_items

-- the imprint of a round's tree, or the zero imprint if it has no items
abbrev pub candidate_of : (List ℕ → List ℕ) → List Entry → List ℕ
candidate_of image [] = zero_imprint
candidate_of image (entry ∷ entries) = (tree_of image (items_of (entry ∷ entries))).imprint

-- each origin paired with its item
abbrev pub entries_of : List Origin → List Item → List Entry
entries_of [] items = []
entries_of (origin ∷ others) [] = []
entries_of (origin ∷ others) (item ∷ items) = record { origin = origin; item = item } ∷ entries_of others items

-- what is stored with the items: an origin for each, and the aggregators among the origins
pub record AreKept (origins : List Origin) (items : List Item) (has_sender : ℕ → Bool) : Type 0 where
  pub count : length origins ≡ length items
  pub senders : (aggregator : ℕ) → has_sender aggregator ≡ list_any (is_from aggregator) origins
