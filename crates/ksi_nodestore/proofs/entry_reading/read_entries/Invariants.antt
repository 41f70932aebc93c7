use Rattle.std.specs.List.{All, flat_map}
use Rattle.std.proofs.Common.{◌≡◌, ◌+◌, ◌≤◌, length, take, drop}
use Rattle.ksi_nodestore.specs.Texts.{entry_text, IsSpelled}
use Rattle.ksi_nodestore.specs.TextReading.{entries_at}
use Rattle.ksi_nodestore.proofs.Sound.{prepended}
use Rattle.ksi_nodestore.proofs.entry_reading.read_entries.Given as goal

-- so many items were read, up to this place, and the others are read from there on
abbrev pub invariant-reading : goal.invariant-reading
invariant-reading l = record {
  so_far : entries_at l.count l.bytes ≡ prepended l.entries.items (entries_at l.left (drop l.place l.bytes));
  size : length l.entries.items + l.left ≡ l.count;
  each : All IsSpelled l.entries.items;
  text : flat_map entry_text l.entries.items ≡ take l.place l.bytes;
  within : l.place ≤ length l.bytes;
}

abbrev pub decreases-reading : goal.decreases-reading
decreases-reading l = l.left
