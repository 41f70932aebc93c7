use Rattle.std.proofs.Common.{◌≡◌, ◌++◌, drop, map}
use Rattle.ksi_aggtree.specs.Entries.{items_of}
use Rattle.ksi_schedule.specs.Printed.{text_of_lines}
use Rattle.ksi_wire.specs.Told.{sealed_words}
use Rattle.ksi_wire.proofs.telling.put_items.Given as goal

-- the text so far and the lines to come make the whole
abbrev pub invariant-items : goal.invariant-items
invariant-items l = l.text.items ++ text_of_lines (map (sealed_words l.second) (items_of (drop l.entry-index l.entries))) ≡ l.fn.text.items ++ text_of_lines (map (sealed_words l.second) (items_of l.entries))
