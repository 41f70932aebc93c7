use Rattle.std.proofs.Common.{◌≡◌, ◌++◌, drop}
use Rattle.ksi_printed.specs.Reading.{bytes_of}
use Rattle.ksi_printed.proofs.numbers.push_bytes.Given as goal

abbrev pub invariant-loop-number : goal.invariant-loop-number
invariant-loop-number l = l.bytes.items ++ bytes_of (drop l.number-index l.numbers) ≡ l.fn.bytes.items ++ bytes_of l.fn.numbers
