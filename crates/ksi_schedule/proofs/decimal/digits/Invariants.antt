use Rattle.std.proofs.Common.{◌≡◌, drop}
use Rattle.ksi_schedule.specs.Decimal.{digits_after}
use Rattle.ksi_schedule.proofs.decimal.digits.Given as goal

-- what is left gives what the whole gives
abbrev pub invariant-loop-byte : goal.invariant-loop-byte
invariant-loop-byte l = digits_after l.value (drop l.byte-index l.word) ≡ digits_after 0 l.word
