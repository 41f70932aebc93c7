use Rattle.std.proofs.Common.{◌≡◌, ◌++◌, drop, map}
use Rattle.ksi_tlv.specs.Writing.{texts}
use Rattle.ksi_journal.specs.Written.{item_element}
use Rattle.ksi_mirror.proofs.writer.put_items.Given as goal

abbrev pub invariant-items : goal.invariant-items
invariant-items l = l.writer ++ texts (map item_element (drop l.item-index l.items)) ≡ l.fn.writer ++ texts (map item_element l.items)
