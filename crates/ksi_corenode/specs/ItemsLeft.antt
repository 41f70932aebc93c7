-- The items that an iterator over the sealed items of a second has yet to return.
use Rattle.std.specs.Prelude.{List}
use Rattle.ksi_aggtree.specs.declared.item.Item.{Item}
use Rattle.ksi_aggtree.specs.Entries.{items_of}
use Rattle.ksi_corenode.specs.declared.lent_items.LentItems.{LentItems}

abbrev pub items_left : LentItems → List Item
items_left lent = items_of lent.entries.now
