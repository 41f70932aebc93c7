use Rattle.std.proofs.Common.{◌≡◌, ◌++◌, drop}
use Rattle.ksi_schedule.specs.Printed.{parent_words, text_of_lines}
use Rattle.ksi_schedule.proofs.printing.put_parents.Given as goal

-- the text so far and the lines to come make the whole
abbrev pub invariant-loop-k : goal.invariant-loop-k
invariant-loop-k l = l.text.items ++ text_of_lines (parent_words l.k (drop l.k l.parents)) ≡ l.fn.text.items ++ text_of_lines (parent_words 0 l.parents)
