-- Words that are digests in hex.
use Rattle.std.proofs.Common.{◌≡◌, ◌≢◌, ℕ, suc, zero, ◌+◌, ◌*◌, ◌<◌, ◌≤◌, Bool, true, false, not, cond, ◌&&◌, eqb, List, [], ◌∷◌, length, Option, Some, None, Result, Ok, Err, refl, ap, subst, arith}
use Rattle.std.specs.Prelude.{All}
use Rattle.std.specs.List.{list_all, position_from}
use Rattle.std.proofs.lemmas.List.Elements.{All-nil, All-cons}
use Rattle.std.specs.Str.{IsUtf8, IsAscii}
use Rattle.std.proofs.lemmas.Bool.{ne_eqb}
use Rattle.std.proofs.lemmas.Str.{IsUtf8-from_ascii}
use Rattle.hex.specs.Hex.{is_hex_digit}
use Rattle.std.proofs.lemmas.Bool.{eqb-true}
use Rattle.ksi_imprint.specs.Imprints.{IsImprint}
use Rattle.ksi_imprint.specs.Reading.{hex_at, digits_at, digit_value, hex_bytes}
use Rattle.ksi_imprint.specs.declared.fault.HexFault.{HexFault}
use Rattle.ksi_schedule.specs.Pieces.{Text}
use Rattle.ksi_schedule.specs.Words.{digest_at, or_hash}
use Rattle.ksi_schedule.specs.declared.fault.LineFault.{LineFault}
use Rattle.ksi_schedule.specs.declared.fault.LineFault.TheVariants.{Hash}
use Rattle.ksi_schedule.proofs.Cuts.{Lacks}

abbrev is_bad : ℕ → Bool
is_bad c = not (is_hex_digit c)

all_good : (i : ℕ) (word : Text) → position_from is_bad i word ≡ None → list_all is_hex_digit word ≡ true
all_good i [] none = refl
all_good i (c ∷ word) none = by_first (is_hex_digit c) refl none (λ rest. all_good (i + 1) word rest)
  where
    by_first : (b : Bool) → is_hex_digit c ≡ b → cond (not b) (Some i) (position_from is_bad (i + 1) word) ≡ None → (position_from is_bad (i + 1) word ≡ None → list_all is_hex_digit word ≡ true) → list_all is_hex_digit (c ∷ word) ≡ true
    by_first true is none more = rw is (more none)
    by_first false is none more = absurd cc

pub digit_range : (c : ℕ) → is_hex_digit c ≡ true → (48 ≤ c) × (c ≤ 102)
digit_range c is = (grind arith, grind arith)

-- what is read as a digest has hex digits alone
pub hex_digits : (word imprint : List ℕ) → hex_at word ≡ Ok imprint → list_all is_hex_digit word ≡ true
unfolding hex_at
hex_digits word imprint is = by_length (eqb (length word) 64) is
  where
    by_place : (place : Option ℕ) → position_from is_bad 0 word ≡ place → digits_at word place ≡ Ok imprint → list_all is_hex_digit word ≡ true
    by_place None at is = all_good 0 word at
    by_place (Some place) at is = absurd cc

    by_length : (b : Bool) → cond b (digits_at word (position_from is_bad 0 word)) (Err (Rattle.ksi_imprint.specs.declared.fault.HexFault.TheVariants.Length (length word))) ≡ Ok imprint → list_all is_hex_digit word ≡ true
    by_length true is = by_place (position_from is_bad 0 word) refl is
    by_length false is = absurd cc

abbrev okay_of : List ℕ → Result (List ℕ) LineFault
okay_of x = Ok x

ok_same : {x y : List ℕ} → okay_of x ≡ okay_of y → x ≡ y
ok_same is = cc

bytes_half : (n : ℕ) (word : List ℕ) → length word ≡ 2 * n → length (hex_bytes word) ≡ n
bytes_half n [] is = omega (arith, is)
bytes_half n (c ∷ []) is = absurd (omega (arith, is))
bytes_half zero (c ∷ d ∷ word) is = absurd (omega (arith, is))
bytes_half (suc n) (c ∷ d ∷ word) is = ap suc (bytes_half n word (omega (arith, is)))

-- what is read as a digest is an imprint
pub read_imprint : (word imprint : List ℕ) → digest_at word ≡ Ok imprint → IsImprint imprint
unfolding hex_at
read_imprint word imprint is = by_length (eqb (length word) 64) refl is
  where
    by_place : (place : Option ℕ) → length word ≡ 64 → or_hash (digits_at word place) ≡ Ok imprint → IsImprint imprint
    by_place None size is = subst IsImprint (ok_same is) (record { algorithm = refl; size = ap suc (bytes_half 32 word size) })
    by_place (Some place) size is = absurd cc

    by_length : (b : Bool) → eqb (length word) 64 ≡ b → or_hash (cond b (digits_at word (position_from is_bad 0 word)) (Err (Rattle.ksi_imprint.specs.declared.fault.HexFault.TheVariants.Length (length word)))) ≡ Ok imprint → IsImprint imprint
    by_length true size is = by_place (position_from is_bad 0 word) (eqb-true (length word) 64 size) is
    by_length false size is = absurd cc

digit_small : (c : ℕ) → digit_value c ≤ 15
digit_small c = grind arith

half_bytes : (word : List ℕ) → All (λ b. b < 256) (hex_bytes word)
half_bytes [] = All-nil (λ b. b < 256)
half_bytes (c ∷ []) = All-nil (λ b. b < 256)
half_bytes (c ∷ d ∷ word) = All-cons (λ b. b < 256) (digit_value c * 16 + digit_value d) (hex_bytes word) (omega (arith, digit_small c, digit_small d)) (half_bytes word)

-- and its numbers are bytes
pub read_bytes : (word imprint : List ℕ) → digest_at word ≡ Ok imprint → All (λ b. b < 256) imprint
unfolding hex_at
read_bytes word imprint is = by_length (eqb (length word) 64) is
  where
    by_place : (place : Option ℕ) → or_hash (digits_at word place) ≡ Ok imprint → All (λ b. b < 256) imprint
    by_place None is = subst (All (λ b. b < 256)) (ok_same is) (All-cons (λ b. b < 256) 1 (hex_bytes word) (omega arith) (half_bytes word))
    by_place (Some place) is = absurd cc

    by_length : (b : Bool) → or_hash (cond b (digits_at word (position_from is_bad 0 word)) (Err (Rattle.ksi_imprint.specs.declared.fault.HexFault.TheVariants.Length (length word)))) ≡ Ok imprint → All (λ b. b < 256) imprint
    by_length true is = by_place (position_from is_bad 0 word) is
    by_length false is = absurd cc

both : (b c : Bool) → (b && c) ≡ true → (b ≡ true) × (c ≡ true)
both true c e = (refl, e)
both false c e = absurd cc

digits_ascii : (word : List ℕ) → list_all is_hex_digit word ≡ true → IsAscii word
digits_ascii [] all i = omega arith
digits_ascii (c ∷ word) all zero = omega (arith, (digit_range c (both (is_hex_digit c) (list_all is_hex_digit word) all).0).1)
digits_ascii (c ∷ word) all (suc i) = digits_ascii word (both (is_hex_digit c) (list_all is_hex_digit word) all).1 i

-- bytes that are no text are no digest
pub no_text : (word : List ℕ) → (IsUtf8 word → ⊥) → Err Hash ≡ digest_at word
no_text word none = by_answer (hex_at word) refl
  where
    by_answer : (r : Result (List ℕ) HexFault) → hex_at word ≡ r → Err Hash ≡ or_hash r
    by_answer (Ok imprint) is = absurd (none (IsUtf8-from_ascii word (digits_ascii word (hex_digits word imprint is))))
    by_answer (Err fault) is = refl

pub hex_lacks : (mark : ℕ) (word : List ℕ) → mark < 48 → list_all is_hex_digit word ≡ true → Lacks mark word
hex_lacks mark [] low all = tt
hex_lacks mark (c ∷ word) low all =
    let is = both (is_hex_digit c) (list_all is_hex_digit word) all in
    let ne : c ≢ mark = omega (arith, (digit_range c is.0).0) in
    (ne_eqb _ _ ne, hex_lacks mark word low is.1)
