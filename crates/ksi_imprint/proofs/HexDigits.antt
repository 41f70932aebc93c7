-- Decoding pairs of digits, against the definition of an imprint in hex.
use Rattle.std.proofs.Common.{◌≡◌, ◌≢◌, ℕ, ◌+◌, ◌*◌, ◌%◌, Bool, not, List, [], ◌∷◌, length, drop, slice_index, Option, Some, None, Result, Ok, Err, refl, sym, ap, ◌∙◌, arith}
use Rattle.std.proofs.lemmas.Bool.{ne_eqb}
use Rattle.std.specs.Prelude.{MatchResult}
use Rattle.std.specs.List.{position_from}
use Rattle.hex.specs.Hex.{IsBytes, decode_pairs, decode_sized, encode_lower, hex_digit_value, is_hex_digit, lower_digits, ◌>>=◌}
use Rattle.hex.specs.declared.error.FromHexError.{FromHexError}
use Rattle.hex.specs.declared.error.FromHexError.TheVariants.{InvalidHexCharacter, OddLength, InvalidStringLength, OutOfMemory}
use Rattle.hex.proofs.HexLemmas.{decode_pairs-encode_with, IsDigits-lower_digits, length-encode_with}
use Rattle.hex.proofs.Pairs.{decode_sized-pairs}
use Rattle.ksi_imprint.specs.Reading.{hex_bytes, digits_at, hex_at, digit_fault_of}
use Rattle.ksi_imprint.specs.declared.fault.HexFault.{HexFault}
use Rattle.ksi_imprint.specs.declared.fault.HexFault.TheVariants.{Digit, Length}

abbrev is_bad : ℕ → Bool
is_bad c = not (is_hex_digit c)

-- the bytes of a decoding, or the place of a byte that is no digit; none where it fails otherwise
abbrev outcome : Result (List ℕ) FromHexError → Result (List ℕ) (Option ℕ)
outcome (Ok bytes) = Ok bytes
outcome (Err (InvalidHexCharacter c place)) = Err (Some place)
outcome (Err OddLength) = Err None
outcome (Err InvalidStringLength) = Err None
outcome (Err OutOfMemory) = Err None

-- the same, as the definition has it
abbrev expected : List ℕ → Option ℕ → Result (List ℕ) (Option ℕ)
expected bytes None = Ok bytes
expected bytes (Some place) = Err (Some place)

abbrev ok : List ℕ → Result (List ℕ) (Option ℕ)
ok bytes = Ok bytes

ok_is : (xs ys : List ℕ) → ok xs ≡ ok ys → xs ≡ ys
ok_is xs ys e = cc

cons_outcome : (x : ℕ) (r : Result (List ℕ) FromHexError) (bytes : List ℕ) (bad : Option ℕ) → outcome r ≡ expected bytes bad
    → outcome (r >>= (λ rest. Ok (x ∷ rest))) ≡ expected (x ∷ bytes) bad
cons_outcome x (Ok rest) bytes None e = ap (λ (xs : List ℕ). ok (x ∷ xs)) (ok_is rest bytes e)
cons_outcome x (Ok rest) bytes (Some place) e = absurd cc
cons_outcome x (Err (InvalidHexCharacter c place)) bytes None e = absurd cc
cons_outcome x (Err OddLength) bytes None e = absurd cc
cons_outcome x (Err InvalidStringLength) bytes None e = absurd cc
cons_outcome x (Err OutOfMemory) bytes None e = absurd cc
cons_outcome x (Err (InvalidHexCharacter c place)) bytes (Some at) e = e
cons_outcome x (Err OddLength) bytes (Some at) e = e
cons_outcome x (Err InvalidStringLength) bytes (Some at) e = e
cons_outcome x (Err OutOfMemory) bytes (Some at) e = e

-- one pair of digits, by what each of them is
pair_outcome : (i high low : ℕ) (rest : List ℕ) (h l : Option ℕ) → hex_digit_value high ≡ h → hex_digit_value low ≡ l
    → outcome (decode_pairs (i + 2) rest) ≡ expected (hex_bytes rest) (position_from is_bad (i + 2) rest)
    → outcome (decode_pairs i (high ∷ low ∷ rest)) ≡ expected (hex_bytes (high ∷ low ∷ rest)) (position_from is_bad i (high ∷ low ∷ rest))
unfolding decode_pairs
pair_outcome i high low rest None l eh el others = rw eh refl
pair_outcome i high low rest (Some v) None eh el others = rw (eh, el) refl
pair_outcome i high low rest (Some v) (Some w) eh el others =
    let two : i + 1 + 1 ≡ i + 2 = omega arith in
    rw (eh, el, two) (cons_outcome (v * 16 + w) (decode_pairs (i + 2) rest) (hex_bytes rest) (position_from is_bad (i + 2) rest) others)

-- the pairs of a text of even length
decode_pairs-outcome : (i : ℕ) (text : List ℕ) → length text % 2 ≡ 0 → outcome (decode_pairs i text) ≡ expected (hex_bytes text) (position_from is_bad i text)
unfolding decode_pairs
decode_pairs-outcome i [] even = refl
decode_pairs-outcome i (high ∷ []) even = absurd (omega arith)
decode_pairs-outcome i (high ∷ low ∷ rest) even =
    pair_outcome i high low rest (hex_digit_value high) (hex_digit_value low) refl refl (decode_pairs-outcome (i + 2) rest (omega arith))

-- what the definition makes of an outcome
abbrev imprint_in : Result (List ℕ) (Option ℕ) → Result (List ℕ) HexFault
imprint_in (Ok bytes) = Ok (1 ∷ bytes)
imprint_in (Err None) = Err (Digit 0)
imprint_in (Err (Some place)) = Err (Digit place)

digits_at-expected : (text : List ℕ) (bad : Option ℕ) → digits_at text bad ≡ imprint_in (expected (hex_bytes text) bad)
digits_at-expected text None = refl
digits_at-expected text (Some place) = refl

hex_at-outcome : (text : List ℕ) → length text ≡ 64 → hex_at text ≡ imprint_in (outcome (decode_pairs 0 text))
unfolding hex_at
hex_at-outcome text size =
    rw size (digits_at-expected text (position_from is_bad 0 text) ∙ ap imprint_in (sym (decode_pairs-outcome 0 text (omega arith))))

sized : (text : List ℕ) → length text ≡ 64 → decode_sized text 32 ≡ decode_pairs 0 text
sized text size = decode_sized-pairs text 32 (omega (arith, size)) (omega (arith, size))

-- ---- what the decoder answers, by its contract

abbrev Answer : Type 0
Answer = Result (Unit {0}) FromHexError

abbrev fine : Unit {0} → Answer
fine u = Ok u

abbrev err : FromHexError → Answer
err e = Err e

same_fault : (e f : FromHexError) → err e ≡ err f → e ≡ f
same_fault e f is = cc

pub decoded_by : (r : Result (List ℕ) FromHexError) (answer : Answer) (out : List ℕ) (u : Unit {0}) → MatchResult r (λ bytes. (answer ≡ Ok tt) × (out ≡ bytes)) (λ e. answer ≡ Err e) → answer ≡ Ok u → r ≡ Ok out
decoded_by (Ok bytes) answer out u told is = ap Ok (sym told.1)
decoded_by (Err e) answer out u told is = let two : err e ≡ fine u = sym told ∙ is in absurd cc

pub refused_by_decoder : (r : Result (List ℕ) FromHexError) (answer : Answer) (out : List ℕ) (fault : FromHexError) → MatchResult r (λ bytes. (answer ≡ Ok tt) × (out ≡ bytes)) (λ e. answer ≡ Err e) → answer ≡ Err fault → r ≡ Err fault
refused_by_decoder (Ok bytes) answer out fault told is = let two : fine tt ≡ err fault = sym told.0 ∙ is in absurd cc
refused_by_decoder (Err e) answer out fault told is = let two : err e ≡ err fault = sym told ∙ is in ap Err (same_fault e fault two)

-- ---- what reading a digest rests on

pub hex_at-decoded : (text digest : List ℕ) → length text ≡ 64 → decode_sized text 32 ≡ Ok digest → hex_at text ≡ Ok (1 ∷ digest)
hex_at-decoded text digest size decoded = hex_at-outcome text size ∙ ap (λ (r : Result (List ℕ) FromHexError). imprint_in (outcome r)) (sym (sized text size) ∙ decoded)

-- a text of even length has no other fault than a byte that is no digit
refused_by : (text : List ℕ) (fault : FromHexError) (bad : Option ℕ) → outcome (Err fault) ≡ expected (hex_bytes text) bad → imprint_in (outcome (Err fault)) ≡ Err (digit_fault_of fault)
refused_by text (InvalidHexCharacter c place) bad e = refl
refused_by text OddLength None e = absurd cc
refused_by text OddLength (Some place) e = absurd cc
refused_by text InvalidStringLength None e = absurd cc
refused_by text InvalidStringLength (Some place) e = absurd cc
refused_by text OutOfMemory None e = absurd cc
refused_by text OutOfMemory (Some place) e = absurd cc

pub hex_at-refused : (text : List ℕ) (fault : FromHexError) → length text ≡ 64 → decode_sized text 32 ≡ Err fault → hex_at text ≡ Err (digit_fault_of fault)
hex_at-refused text fault size refused =
    let pairs : decode_pairs 0 text ≡ Err fault = sym (sized text size) ∙ refused in
    hex_at-outcome text size
    ∙ ap (λ (r : Result (List ℕ) FromHexError). imprint_in (outcome r)) pairs
    ∙ refused_by text fault (position_from is_bad 0 text) (ap outcome (sym pairs) ∙ decode_pairs-outcome 0 text (omega (arith, size)))

pub hex_at-length : (text : List ℕ) → length text ≢ 64 → hex_at text ≡ Err (Length (length text))
unfolding hex_at
hex_at-length text other = rw (ne_eqb (length text) 64 other) refl

-- what is written is read again
pub hex_at-encode_lower : (digest : List ℕ) → IsBytes digest → length digest ≡ 32 → hex_at (encode_lower digest) ≡ Ok (1 ∷ digest)
hex_at-encode_lower digest bytes size =
    let text = encode_lower digest in
    let long : length (encode_lower digest) ≡ 64 = omega (arith, length-encode_with lower_digits digest, size) in
    hex_at-decoded text digest long (sized text long ∙ decode_pairs-encode_with lower_digits IsDigits-lower_digits 0 digest bytes)

-- an imprint is its algorithm byte and its digest
pub digest_behind : (bytes : List ℕ) → slice_index bytes 0 ≡ 1 → length bytes ≡ 33 → 1 ∷ drop 1 bytes ≡ bytes
digest_behind [] first size = absurd (omega (arith, size))
digest_behind (b ∷ bytes) first size = ap (λ (c : ℕ). c ∷ bytes) (sym first)
