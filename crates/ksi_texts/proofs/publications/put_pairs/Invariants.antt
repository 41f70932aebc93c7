use Rattle.std.proofs.Common.{◌≡◌, ◌++◌, drop}
use Rattle.ksi_schedule.specs.Printed.{text_of_lines}
use Rattle.ksi_texts.specs.Text.{pairs_rows}
use Rattle.ksi_texts.proofs.publications.put_pairs.Given as goal

abbrev pub invariant-loop-pair : goal.invariant-loop-pair
invariant-loop-pair l = l.text.items ++ text_of_lines (pairs_rows (drop l.pair-index l.pairs)) ≡ l.fn.text.items ++ text_of_lines (pairs_rows l.fn.pairs)
