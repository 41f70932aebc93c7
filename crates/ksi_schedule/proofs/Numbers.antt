-- Numbers, digit by digit.
use Rattle.std.proofs.Common.{◌≡◌, ℕ, ◌+◌, ◌-◌, ◌*◌, ◌^◌, ◌<◌, ◌≤◌, Bool, true, false, cond, ltb, ◌&&◌, List, [], ◌∷◌, length, Option, Some, None, refl, sym, arith, inl, inr}
use Rattle.std.specs.Char.{is_ascii_digit, digit_value}
use Rattle.std.specs.List.{list_all}
use Rattle.std.specs.Str.Parse.{digits_value_after}
use Rattle.std.proofs.lemmas.Bool.{lt-ltb, le-ltb, le-leb, cases_lt}
use Rattle.ksi_schedule.specs.Decimal.{digits_after, number_of}

digit_is : (c : ℕ) → is_ascii_digit c ≡ true → digit_value c ≡ c - 48
digit_is c h = grind arith

grows : (n : ℕ) (cs : List ℕ) → n ≤ digits_value_after 10 n cs
grows n [] = omega arith
grows n (c ∷ cs) = omega (arith, grows (n * 10 + digit_value c) cs)

no_more : (b : Bool) (r : Option ℕ) → cond (b && false) r None ≡ None
no_more true r = refl
no_more false r = refl

abbrev Steps : ℕ → List ℕ → Type 0
Steps n cs = digits_after n cs ≡ cond (list_all is_ascii_digit cs && ltb (digits_value_after 10 n cs) (2 ^ 64)) (Some (digits_value_after 10 n cs)) None

one_more : (d : Bool) (n c : ℕ) (cs : List ℕ) → is_ascii_digit c ≡ d → ((m : ℕ) → m < 2 ^ 64 → Steps m cs) → Steps n (c ∷ cs)
one_more false n c cs is more = rw is refl
one_more true n c cs is more =
    let same : n * 10 + digit_value c ≡ 10 * n + (c - 48) = omega (arith, digit_is c is) in
    elim (cases_lt (10 * n + (c - 48)) (2 ^ 64)) [
      | inl lt ↦ rw (is, lt-ltb _ _ lt, same) (more (10 * n + (c - 48)) lt)
      | inr ge ↦
          let over : ltb (digits_value_after 10 (10 * n + (c - 48)) cs) (2 ^ 64) ≡ false = le-ltb _ _ (omega (arith, ge, grows (10 * n + (c - 48)) cs)) in
          rw (is, le-ltb _ _ ge, same, over) (sym (no_more (list_all is_ascii_digit cs) _))
    ]

by_steps : (n : ℕ) (cs : List ℕ) → n < 2 ^ 64 → Steps n cs
by_steps n [] lt = rw (lt-ltb _ _ lt) refl
by_steps n (c ∷ cs) lt = one_more (is_ascii_digit c) n c cs refl (λ m lt. by_steps m cs lt)

pub number_by_steps : (word : List ℕ) → 0 < length word → length word ≤ 20 → digits_after 0 word ≡ number_of word
unfolding number_of
number_by_steps word some few = rw (lt-ltb _ _ some, le-leb _ _ few) (by_steps 0 word (omega arith))

pub no_number : (word : List ℕ) → (0 < length word → length word ≤ 20 → ⊥) → None ≡ number_of word
unfolding number_of
no_number word none = grind arith
