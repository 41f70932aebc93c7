-- How items are stored, for the proof of the code.
use Rattle.std.specs.Prelude.{List}
use Rattle.ksi_aggtree.specs.declared.item.Item.{Item}
use Rattle.ksi_aggtree.specs.declared.items.KeptItems.{KeptItems}
use Rattle.ksi_aggtree.specs.declared.items.KeptItems.TheVariants.{One, Many}

-- the items that are stored
abbrev pub items_in : KeptItems → List Item
items_in (One one) = one
items_in (Many vec) = vec.items
