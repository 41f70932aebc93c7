use Rattle.std.proofs.Common.{◌≡◌, ◌++◌, ◌*◌, drop}
use Rattle.ksi_printed.specs.Printed.{words}
use Rattle.ksi_printed.proofs.numbers.push_words.Given as goal

abbrev pub invariant-loop-place : goal.invariant-loop-place
invariant-loop-place l = l.numbers.items ++ words (drop (2 * l.place) l.bytes) ≡ l.fn.numbers.items ++ words l.fn.bytes
