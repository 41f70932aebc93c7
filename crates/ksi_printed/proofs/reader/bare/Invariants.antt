use Rattle.std.proofs.Common.{◌≡◌, ◌++◌, drop}
use Rattle.ksi_printed.specs.Reading.{bare}
use Rattle.ksi_printed.proofs.reader.bare.Given as goal

abbrev pub invariant-loop-byte : goal.invariant-loop-byte
invariant-loop-byte l = l.kept.items ++ bare (drop l.byte-index l.text) ≡ bare l.text
