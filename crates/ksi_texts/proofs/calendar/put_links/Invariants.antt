use Rattle.std.proofs.Common.{◌≡◌, ◌++◌, drop}
use Rattle.ksi_schedule.specs.Printed.{text_of_lines}
use Rattle.ksi_texts.specs.Calendar.{leaf_rows}
use Rattle.ksi_texts.proofs.calendar.put_links.Given as goal

abbrev pub invariant-loop-place : goal.invariant-loop-place
invariant-loop-place l = l.text.items ++ text_of_lines (leaf_rows l.place l.node (drop l.place l.links)) ≡ l.fn.text.items ++ text_of_lines (leaf_rows 0 l.fn.start l.fn.links)
