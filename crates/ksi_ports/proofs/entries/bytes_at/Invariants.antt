use Rattle.std.proofs.Common.{◌≡◌, drop}
use Rattle.ksi_ports.specs.Memory.{held_in}
use Rattle.ksi_ports.proofs.entries.bytes_at.Given as goal

-- no entry so far has the name
abbrev pub invariant-loop-entry : goal.invariant-loop-entry
invariant-loop-entry l = held_in (drop l.entry-index l.entries) l.name ≡ held_in l.entries l.name
