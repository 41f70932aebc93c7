use Rattle.std.proofs.Common.{◌≡◌, ◌+◌, ◌-◌, ◌++◌}
use Rattle.ksi_schedule.specs.Printed.{text_of_lines}
use Rattle.ksi_wire.specs.Told.{held_lines}
use Rattle.ksi_wire.proofs.telling.put_held.Given as goal

-- the text so far and the lines to come make the whole
abbrev pub invariant-telling : goal.invariant-telling
invariant-telling g l = l.text.items ++ text_of_lines (held_lines l.core (l.from + l.behind) (l.count - l.behind)) ≡ l.fn.text.items ++ text_of_lines (held_lines l.core l.from l.count)
