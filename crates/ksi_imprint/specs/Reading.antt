-- The result of reading an imprint.
use Rattle.std.specs.Prelude.{ℕ, ◌+◌, ◌*◌, List, [], ◌∷◌, length, ◌==◌, not, unwrap_or, Option, Some, None, Result, Ok, Err, if◌then◌else◌}
use Rattle.std.specs.List.{position_from}
use Rattle.ksi_imprint.specs.declared.fault.ImprintFault.{ImprintFault}
use Rattle.ksi_imprint.specs.declared.fault.ImprintFault.TheVariants.{Algorithm, Length}
use Rattle.ksi_imprint.specs.declared.fault.HexFault.{HexFault}
use Rattle.ksi_imprint.specs.declared.fault.HexFault.TheVariants.{Digit}
use Rattle.ksi_imprint.specs.declared.fault.HexFault.TheVariants as hex
use Rattle.hex.specs.Hex.{is_hex_digit, hex_digit_value}
use Rattle.hex.specs.declared.error.FromHexError.{FromHexError}
use Rattle.hex.specs.declared.error.FromHexError.TheVariants.{InvalidHexCharacter, OddLength, InvalidStringLength, OutOfMemory}

-- the imprint that the bytes are, or the fault if they are not an imprint
abbrev pub imprint_at : List ℕ → Result (List ℕ) ImprintFault
imprint_at [] = Err (Length 0)
imprint_at (algorithm ∷ digest) =
    if algorithm == 1
    then (if length digest == 32 then Ok (algorithm ∷ digest) else Err (Length (length (algorithm ∷ digest))))
    else Err (Algorithm algorithm)

-- the value of a hex digit, of either case
abbrev pub digit_value : ℕ → ℕ
digit_value c = unwrap_or (hex_digit_value c) 0

-- the byte of each two hex digits, the high four bits first
abbrev pub hex_bytes : List ℕ → List ℕ
hex_bytes [] = []
hex_bytes (high ∷ []) = []
hex_bytes (high ∷ low ∷ rest) = (digit_value high * 16 + digit_value low) ∷ hex_bytes rest

-- the imprint of a text of hex digits, or the place of the first byte that is not a digit
abbrev pub digits_at : List ℕ → Option ℕ → Result (List ℕ) HexFault
digits_at text None = Ok (1 ∷ hex_bytes text)
digits_at text (Some place) = Err (Digit place)

-- the imprint whose digest the text encodes in hex, or the fault
unfoldable pub hex_at : List ℕ → Result (List ℕ) HexFault
hex_at text =
    if length text == 64
    then digits_at text (position_from (λ c. not (is_hex_digit c)) 0 text)
    else Err (hex.Length (length text))

-- the fault of a text of 64 bytes from the decoder's error; only the first case occurs
abbrev pub digit_fault_of : FromHexError → HexFault
digit_fault_of (InvalidHexCharacter c place) = Digit place
digit_fault_of OddLength = hex.Length 64
digit_fault_of InvalidStringLength = hex.Length 64
digit_fault_of OutOfMemory = hex.Length 64
