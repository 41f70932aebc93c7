use Rattle.std.proofs.Common.{◌≡◌, ◌++◌, drop}
use Rattle.ksi_printed.specs.Printed.{groups_text}
use Rattle.ksi_printed.proofs.printer.push_groups.Given as goal

abbrev pub invariant-loop-place : goal.invariant-loop-place
invariant-loop-place l = l.text.items ++ groups_text l.place (drop l.place l.numbers) ≡ l.fn.text.items ++ groups_text 0 l.fn.numbers
