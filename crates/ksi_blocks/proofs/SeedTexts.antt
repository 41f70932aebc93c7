-- Lower hex digits are text.
use Rattle.std.proofs.Common.{◌≡◌, ℕ, suc, zero, ◌≤◌, Bool, true, false, ◌&&◌, List, [], ◌∷◌, refl, arith}
use Rattle.std.specs.List.{list_all}
use Rattle.std.specs.Str.{IsAscii, IsUtf8}
use Rattle.std.proofs.lemmas.Str.{IsUtf8-from_ascii}
use Rattle.ksi_blocks.specs.Seeds.{is_lower_digit}

digit_small : (c : ℕ) → is_lower_digit c ≡ true → c ≤ 102
digit_small c is = grind arith

both : (b c : Bool) → (b && c) ≡ true → (b ≡ true) × (c ≡ true)
both true c e = (refl, e)
both false c e = absurd cc

digits_ascii : (word : List ℕ) → list_all is_lower_digit word ≡ true → IsAscii word
digits_ascii [] all i = omega arith
digits_ascii (c ∷ word) all zero = omega (arith, digit_small c (both (is_lower_digit c) (list_all is_lower_digit word) all).0)
digits_ascii (c ∷ word) all (suc i) = digits_ascii word (both (is_lower_digit c) (list_all is_lower_digit word) all).1 i

pub lower_is_text : (word : List ℕ) → list_all is_lower_digit word ≡ true → IsUtf8 word
lower_is_text word all = IsUtf8-from_ascii word (digits_ascii word all)
