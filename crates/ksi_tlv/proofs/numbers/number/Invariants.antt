use Rattle.std.proofs.Common.{◌≡◌, ◌^◌, ◌<◌, drop}
use Rattle.ksi_tlv.specs.Numerals.{number_of}
use Rattle.ksi_tlv.proofs.NumberLaws.{number_from}
use Rattle.ksi_tlv.proofs.numbers.number.Given as goal

abbrev pub invariant-loop-byte : goal.invariant-loop-byte
invariant-loop-byte l = (number_from l.value (drop l.byte-index l.bytes) ≡ number_of l.bytes) × (l.value < 256 ^ l.byte-index)
