use Rattle.std.proofs.Common.{◌≡◌, ◌+◌, ◌%◌, take, sum}
use Rattle.ksi_imprint.proofs.compress.add_up.Given as goal

abbrev pub invariant-loop-byte : goal.invariant-loop-byte
invariant-loop-byte l = l.total ≡ (l.start + sum (take l.byte-index l.bytes)) % 256
