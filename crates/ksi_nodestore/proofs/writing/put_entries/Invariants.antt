use Rattle.std.specs.List.{All, flat_map}
use Rattle.std.proofs.Common.{◌≡◌, ◌-◌, ◌*◌, ◌≤◌, ◌++◌, length, take}
use Rattle.ksi_nodestore.specs.Texts.{entry_text, IsSpelled}
use Rattle.ksi_nodestore.proofs.writing.put_entries.Given as goal

-- so many items were spelled, and there is room for the others
abbrev pub invariant-writing : goal.invariant-writing
invariant-writing l = record {
  text : l.record_.content ≡ l.fn.record_.content ++ flat_map entry_text (take l.k l.entries);
  each : All IsSpelled (take l.k l.entries);
  room : 103 * (length l.entries - l.k) ≤ l.record_.room;
}
