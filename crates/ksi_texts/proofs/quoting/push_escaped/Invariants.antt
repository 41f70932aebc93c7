use Rattle.std.proofs.Common.{◌≡◌, ◌++◌, drop}
use Rattle.ksi_texts.specs.Words.{escaped}
use Rattle.ksi_texts.proofs.quoting.push_escaped.Given as goal

abbrev pub invariant-loop-byte : goal.invariant-loop-byte
invariant-loop-byte l = l.text.items ++ escaped (drop l.byte-index l.bytes) ≡ l.fn.text.items ++ escaped l.fn.bytes
