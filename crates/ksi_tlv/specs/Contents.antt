-- The values in the bodies of elements, and the faults of bodies without a value.
use Rattle.std.specs.Prelude.{ℕ, ◌^◌, nat_lt, nat_le, ◌==◌, ◌&&◌, List, length, Result, Ok, Err, if◌then◌else◌}
use Rattle.ksi_imprint.specs.declared.fault.ImprintFault.{ImprintFault}
use Rattle.ksi_imprint.specs.Reading.{imprint_at}
use Rattle.ksi_tlv.specs.Walking.{PlacedTlv}
use Rattle.ksi_tlv.specs.Numerals.{number_of}
use Rattle.ksi_tlv.specs.declared.grammar.fault.ElementFault.{ElementFault}
use Rattle.ksi_tlv.specs.declared.grammar.fault.ElementFault.TheVariants as faults
use Rattle.ksi_tlv.specs.Table.{Verdict}
use Rattle.ksi_tlv.specs.Containing.{◌>>=◌}

-- the fault, without the value
abbrev pub passes : {A : Type 0} → Result A ElementFault → Verdict
passes answer = answer >>= λ _. Ok tt

-- a number has at most 8 bytes
abbrev pub number_in : PlacedTlv → Result ℕ ElementFault
number_in at = if nat_lt 8 (length at.element.body) then Err (faults.Number at.place) else Ok (number_of at.element.body)

-- a time is a number below 2^63
unfoldable pub time_in : PlacedTlv → Result ℕ ElementFault
time_in at = number_in at >>= λ n. if nat_lt n (2 ^ 63) then Ok n else Err (faults.Time at.place)

-- a level correction is a number of at most 255
unfoldable pub level_in : PlacedTlv → Result ℕ ElementFault
level_in at = number_in at >>= λ n. if nat_lt n 256 then Ok n else Err (faults.Number at.place)

-- the algorithm is 1, SHA-256
unfoldable pub algorithm_in : PlacedTlv → Result ℕ ElementFault
algorithm_in at = number_in at >>= λ n. if n == 1 then Ok n else Err (faults.Algorithm n)

abbrev pub imprint_or : ℕ → Result (List ℕ) ImprintFault → Result (List ℕ) ElementFault
imprint_or place (Ok imprint) = Ok imprint
imprint_or place (Err fault) = Err (faults.Imprint place)

-- the imprint that the body is
unfoldable pub imprint_in : PlacedTlv → Result (List ℕ) ElementFault
imprint_in at = imprint_or at.place (imprint_at at.element.body)

-- a sibling that is not an imprint has 1 to 4,096 bytes
unfoldable pub raw_in : PlacedTlv → Verdict
raw_in at = if nat_lt 0 (length at.element.body) && nat_le (length at.element.body) 4096 then Ok tt else Err (faults.Sibling at.place)
