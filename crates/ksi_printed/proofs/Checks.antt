-- A group is read as its number, and a changed character or two exchanged ones make it wrong.
use Rattle.std.proofs.Common.{◌≡◌, ◌≢◌, ◌∙◌, ℕ, zero, suc, ◌+◌, ◌-◌, ◌*◌, ◌/◌, ◌%◌, ◌==◌, ◌&&◌, ◌<◌, ◌≤◌, ◌⊎◌, ⊎_elim, inl, inr, nat_le, nat_lt, Bool, true, false, if◌then◌else◌, List, [], ◌∷◌, ◌++◌, slice_index, Option, Some, None, refl, sym, ap, subst, arith}
use Rattle.std.proofs.lemmas.Bool.Decides.{nat_tests, leb_tells, eqb_tells}
use Rattle.ksi_printed.specs.Groups.{character, value, check_of, is_right, number_of, number_in, group_text}

-- ---- characters and values

digit_value : (c : ℕ) → 48 ≤ c → c ≤ 57 → value c ≡ c - 48
digit_value c low high = grind (arith, nat_tests)

letter_value : (c : ℕ) → 65 ≤ c → c ≤ 70 → value c ≡ c - 55
letter_value c low high = grind (arith, nat_tests)

digit_character : (v : ℕ) → v < 10 → character v ≡ 48 + v
digit_character v lt = grind (arith, nat_tests)

letter_character : (v : ℕ) → 10 ≤ v → v < 16 → character v ≡ 55 + v
letter_character v low high = grind (arith, nat_tests)

-- a digit, a letter, X or another character
data Sort (c : ℕ) : Type 0 where
  digit : 48 ≤ c → c ≤ 57 → Sort c
  letter : 65 ≤ c → c ≤ 70 → Sort c
  ex : c ≡ 88 → Sort c
  other : value c ≡ 17 → Sort c

sort_of : (c : ℕ) → Sort c
sort_of c = elim (leb_tells 48 c) [
  | inr f ↦ other (grind (arith, nat_tests, f.1))
  | inl t ↦ elim (leb_tells c 57) [
    | inl u ↦ digit t.1 u.1
    | inr g ↦ elim (leb_tells 65 c) [
      | inr h ↦ other (grind (arith, nat_tests, g.1, h.1))
      | inl v ↦ elim (leb_tells c 70) [
        | inl w ↦ letter v.1 w.1
        | inr k ↦ elim (eqb_tells c 88) [
          | inl x ↦ ex x.1
          | inr y ↦ other (grind (arith, nat_tests, k.1, y.1))
        ]
      ]
    ]
  ]
]

character_of : (c : ℕ) → value c < 17 → character (value c) ≡ c
character_of c lt = elim (sort_of c) [
  | digit low high ↦ let v = digit_value c low high in ap character v ∙ digit_character (c - 48) (omega (arith, high)) ∙ omega (arith, low)
  | letter low high ↦ let v = letter_value c low high in ap character v ∙ letter_character (c - 55) (omega (arith, low)) (omega (arith, high)) ∙ omega (arith, low)
  | ex is ↦ ap (λ (k : ℕ). character (value k)) is ∙ sym is
  | other is ↦ absurd (omega (arith, lt, is))
]

same_character : (a b : ℕ) → value a < 17 → value b < 17 → value a ≡ value b → a ≡ b
same_character a b low high same = sym (character_of a low) ∙ ap character same ∙ character_of b high

pub value_of : (v : ℕ) → v < 17 → value (character v) ≡ v
value_of v lt = elim (leb_tells (suc v) 10) [
  | inl t ↦ ap value (digit_character v t.1) ∙ digit_value (48 + v) (omega arith) (omega (arith, t.1)) ∙ omega arith
  | inr f ↦ elim (leb_tells (suc v) 16) [
    | inl t ↦ ap value (letter_character v (omega (arith, f.1)) t.1) ∙ letter_value (55 + v) (omega (arith, f.1)) (omega (arith, t.1)) ∙ omega arith
    | inr g ↦ let is : v ≡ 16 = omega (arith, lt, g.1) in ap (λ (k : ℕ). value (character k)) is ∙ sym is
  ]
]

-- every character of a value is a digit or a letter in upper case
pub character_is_high : (v : ℕ) → 48 ≤ character v
character_is_high v = elim (leb_tells (suc v) 10) [
  | inl t ↦ let is = digit_character v t.1 in omega (arith, is)
  | inr f ↦ grind (arith, nat_tests, f.1)
]

pub character_is_low : (v : ℕ) → character v ≤ 88
character_is_low v = grind (arith, nat_tests)

-- ---- a group

number_is : (a b c d e : ℕ) → a < 16 → b < 16 → c < 16 → d < 16 → e < 17 → (5 * a + 4 * b + 3 * c + 2 * d + e) % 17 ≡ 0 → number_of a b c d e ≡ Some (4096 * a + 256 * b + 16 * c + d)
number_is a b c d e la lb lc ld le sum = grind (arith, nat_tests)

pub group_is_read : (n : ℕ) (rest : List ℕ) → n < 65536 → number_in (group_text n ++ rest) ≡ Some n
unfolding group_text number_in
group_is_read n rest lt =
    let a = n / 4096 in
    let b = n / 256 % 16 in
    let c = n / 16 % 16 in
    let d = n % 16 in
    let e = check_of a b c d in
    (λ i. number_of (value_of a (omega (arith, lt)) i) (value_of b (omega arith) i) (value_of c (omega arith) i) (value_of d (omega arith) i) (value_of e (omega arith) i))
    ∙ number_is a b c d e (omega (arith, lt)) (omega arith) (omega arith) (omega arith) (omega arith) (omega arith)
    ∙ ap Some (omega (arith, lt))

record IsRight (a b c d e : ℕ) : Type 0 where
  one : a < 16
  two : b < 16
  three : c < 16
  four : d < 16
  five : e < 17
  sum : (5 * a + 4 * b + 3 * c + 2 * d + e) % 17 ≡ 0

right_is : (a b c d e n : ℕ) → number_of a b c d e ≡ Some n → IsRight a b c d e
right_is a b c d e n is = record {
  one = grind (arith, nat_tests, is);
  two = grind (arith, nat_tests, is);
  three = grind (arith, nat_tests, is);
  four = grind (arith, nat_tests, is);
  five = grind (arith, nat_tests, is);
  sum = grind (arith, nat_tests, is);
}

-- ---- two groups

-- the values of a group whose check holds
values_right : (text : List ℕ) (n : ℕ) → number_in text ≡ Some n
    → IsRight (value (slice_index text 0)) (value (slice_index text 1)) (value (slice_index text 2)) (value (slice_index text 3)) (value (slice_index text 4))
unfolding number_in
values_right text n is = right_is _ _ _ _ _ n is

-- what holds of the five places
at_places : (P : ℕ → Type 0) → P 0 → P 1 → P 2 → P 3 → P 4 → (k : ℕ) → k < 5 → P k
at_places P p0 p1 p2 p3 p4 zero lt = p0
at_places P p0 p1 p2 p3 p4 (suc zero) lt = p1
at_places P p0 p1 p2 p3 p4 (suc (suc zero)) lt = p2
at_places P p0 p1 p2 p3 p4 (suc (suc (suc zero))) lt = p3
at_places P p0 p1 p2 p3 p4 (suc (suc (suc (suc zero)))) lt = p4
at_places P p0 p1 p2 p3 p4 (suc (suc (suc (suc (suc k))))) lt = absurd (omega (arith, lt))

module _ (one two : List ℕ) (n m : ℕ) (is_one : number_in one ≡ Some n) (is_two : number_in two ≡ Some m) where
  right_one : IsRight (value (slice_index one 0)) (value (slice_index one 1)) (value (slice_index one 2)) (value (slice_index one 3)) (value (slice_index one 4))
  right_one = values_right one n is_one

  right_two : IsRight (value (slice_index two 0)) (value (slice_index two 1)) (value (slice_index two 2)) (value (slice_index two 3)) (value (slice_index two 4))
  right_two = values_right two m is_two

  pub changed : (place : ℕ) → place < 5 → ((k : ℕ) → k < 5 → k ≢ place → slice_index one k ≡ slice_index two k) → slice_index one place ≡ slice_index two place
  changed place lt = at_places (λ place. ((k : ℕ) → k < 5 → k ≢ place → slice_index one k ≡ slice_index two k) → slice_index one place ≡ slice_index two place)
      (λ same. same_character (slice_index one 0) (slice_index two 0) (omega (arith, right_one.one)) (omega (arith, right_two.one))
      (omega (arith, right_one.one, right_one.two, right_one.three, right_one.four, right_one.five, right_one.sum, right_two.one, right_two.two, right_two.three, right_two.four, right_two.five, right_two.sum, ap value (same 1 (omega arith) (λ e. omega (arith, e))), ap value (same 2 (omega arith) (λ e. omega (arith, e))), ap value (same 3 (omega arith) (λ e. omega (arith, e))), ap value (same 4 (omega arith) (λ e. omega (arith, e))))))
      (λ same. same_character (slice_index one 1) (slice_index two 1) (omega (arith, right_one.two)) (omega (arith, right_two.two))
      (omega (arith, right_one.one, right_one.two, right_one.three, right_one.four, right_one.five, right_one.sum, right_two.one, right_two.two, right_two.three, right_two.four, right_two.five, right_two.sum, ap value (same 0 (omega arith) (λ e. omega (arith, e))), ap value (same 2 (omega arith) (λ e. omega (arith, e))), ap value (same 3 (omega arith) (λ e. omega (arith, e))), ap value (same 4 (omega arith) (λ e. omega (arith, e))))))
      (λ same. same_character (slice_index one 2) (slice_index two 2) (omega (arith, right_one.three)) (omega (arith, right_two.three))
      (omega (arith, right_one.one, right_one.two, right_one.three, right_one.four, right_one.five, right_one.sum, right_two.one, right_two.two, right_two.three, right_two.four, right_two.five, right_two.sum, ap value (same 0 (omega arith) (λ e. omega (arith, e))), ap value (same 1 (omega arith) (λ e. omega (arith, e))), ap value (same 3 (omega arith) (λ e. omega (arith, e))), ap value (same 4 (omega arith) (λ e. omega (arith, e))))))
      (λ same. same_character (slice_index one 3) (slice_index two 3) (omega (arith, right_one.four)) (omega (arith, right_two.four))
      (omega (arith, right_one.one, right_one.two, right_one.three, right_one.four, right_one.five, right_one.sum, right_two.one, right_two.two, right_two.three, right_two.four, right_two.five, right_two.sum, ap value (same 0 (omega arith) (λ e. omega (arith, e))), ap value (same 1 (omega arith) (λ e. omega (arith, e))), ap value (same 2 (omega arith) (λ e. omega (arith, e))), ap value (same 4 (omega arith) (λ e. omega (arith, e))))))
      (λ same. same_character (slice_index one 4) (slice_index two 4) (omega (arith, right_one.five)) (omega (arith, right_two.five))
      (omega (arith, right_one.one, right_one.two, right_one.three, right_one.four, right_one.five, right_one.sum, right_two.one, right_two.two, right_two.three, right_two.four, right_two.five, right_two.sum, ap value (same 0 (omega arith) (λ e. omega (arith, e))), ap value (same 1 (omega arith) (λ e. omega (arith, e))), ap value (same 2 (omega arith) (λ e. omega (arith, e))), ap value (same 3 (omega arith) (λ e. omega (arith, e))))))
      place lt

  pub exchanged : (low high : ℕ) → low < high → high < 5 → ((k : ℕ) → k < 5 → k ≢ low → k ≢ high → slice_index one k ≡ slice_index two k)
      → slice_index one low ≡ slice_index two high → slice_index one high ≡ slice_index two low → slice_index one low ≡ slice_index one high
  exchanged low high less lt same low_is high_is = at_places (λ low. (high : ℕ) → high < 5 → low < high → ((k : ℕ) → k < 5 → k ≢ low → k ≢ high → slice_index one k ≡ slice_index two k)
      → slice_index one low ≡ slice_index two high → slice_index one high ≡ slice_index two low → slice_index one low ≡ slice_index one high)
      (at_places (λ high. 0 < high → ((k : ℕ) → k < 5 → k ≢ 0 → k ≢ high → slice_index one k ≡ slice_index two k) → slice_index one 0 ≡ slice_index two high → slice_index one high ≡ slice_index two 0 → slice_index one 0 ≡ slice_index one high)
      (λ less same low_is high_is. absurd (omega (arith, less)))
      (λ less same low_is high_is. same_character (slice_index one 0) (slice_index one 1) (omega (arith, right_one.one)) (omega (arith, right_one.two))
      (omega (arith, right_one.one, right_one.two, right_one.three, right_one.four, right_one.five, right_one.sum, right_two.sum, ap value (same 2 (omega arith) (λ e. omega (arith, e)) (λ e. omega (arith, e))), ap value (same 3 (omega arith) (λ e. omega (arith, e)) (λ e. omega (arith, e))), ap value (same 4 (omega arith) (λ e. omega (arith, e)) (λ e. omega (arith, e))), ap value low_is, ap value high_is)))
      (λ less same low_is high_is. same_character (slice_index one 0) (slice_index one 2) (omega (arith, right_one.one)) (omega (arith, right_one.three))
      (omega (arith, right_one.one, right_one.two, right_one.three, right_one.four, right_one.five, right_one.sum, right_two.sum, ap value (same 1 (omega arith) (λ e. omega (arith, e)) (λ e. omega (arith, e))), ap value (same 3 (omega arith) (λ e. omega (arith, e)) (λ e. omega (arith, e))), ap value (same 4 (omega arith) (λ e. omega (arith, e)) (λ e. omega (arith, e))), ap value low_is, ap value high_is)))
      (λ less same low_is high_is. same_character (slice_index one 0) (slice_index one 3) (omega (arith, right_one.one)) (omega (arith, right_one.four))
      (omega (arith, right_one.one, right_one.two, right_one.three, right_one.four, right_one.five, right_one.sum, right_two.sum, ap value (same 1 (omega arith) (λ e. omega (arith, e)) (λ e. omega (arith, e))), ap value (same 2 (omega arith) (λ e. omega (arith, e)) (λ e. omega (arith, e))), ap value (same 4 (omega arith) (λ e. omega (arith, e)) (λ e. omega (arith, e))), ap value low_is, ap value high_is)))
      (λ less same low_is high_is. same_character (slice_index one 0) (slice_index one 4) (omega (arith, right_one.one)) (omega (arith, right_one.five))
      (omega (arith, right_one.one, right_one.two, right_one.three, right_one.four, right_one.five, right_one.sum, right_two.sum, ap value (same 1 (omega arith) (λ e. omega (arith, e)) (λ e. omega (arith, e))), ap value (same 2 (omega arith) (λ e. omega (arith, e)) (λ e. omega (arith, e))), ap value (same 3 (omega arith) (λ e. omega (arith, e)) (λ e. omega (arith, e))), ap value low_is, ap value high_is)))
      )
      (at_places (λ high. 1 < high → ((k : ℕ) → k < 5 → k ≢ 1 → k ≢ high → slice_index one k ≡ slice_index two k) → slice_index one 1 ≡ slice_index two high → slice_index one high ≡ slice_index two 1 → slice_index one 1 ≡ slice_index one high)
      (λ less same low_is high_is. absurd (omega (arith, less)))
      (λ less same low_is high_is. absurd (omega (arith, less)))
      (λ less same low_is high_is. same_character (slice_index one 1) (slice_index one 2) (omega (arith, right_one.two)) (omega (arith, right_one.three))
      (omega (arith, right_one.one, right_one.two, right_one.three, right_one.four, right_one.five, right_one.sum, right_two.sum, ap value (same 0 (omega arith) (λ e. omega (arith, e)) (λ e. omega (arith, e))), ap value (same 3 (omega arith) (λ e. omega (arith, e)) (λ e. omega (arith, e))), ap value (same 4 (omega arith) (λ e. omega (arith, e)) (λ e. omega (arith, e))), ap value low_is, ap value high_is)))
      (λ less same low_is high_is. same_character (slice_index one 1) (slice_index one 3) (omega (arith, right_one.two)) (omega (arith, right_one.four))
      (omega (arith, right_one.one, right_one.two, right_one.three, right_one.four, right_one.five, right_one.sum, right_two.sum, ap value (same 0 (omega arith) (λ e. omega (arith, e)) (λ e. omega (arith, e))), ap value (same 2 (omega arith) (λ e. omega (arith, e)) (λ e. omega (arith, e))), ap value (same 4 (omega arith) (λ e. omega (arith, e)) (λ e. omega (arith, e))), ap value low_is, ap value high_is)))
      (λ less same low_is high_is. same_character (slice_index one 1) (slice_index one 4) (omega (arith, right_one.two)) (omega (arith, right_one.five))
      (omega (arith, right_one.one, right_one.two, right_one.three, right_one.four, right_one.five, right_one.sum, right_two.sum, ap value (same 0 (omega arith) (λ e. omega (arith, e)) (λ e. omega (arith, e))), ap value (same 2 (omega arith) (λ e. omega (arith, e)) (λ e. omega (arith, e))), ap value (same 3 (omega arith) (λ e. omega (arith, e)) (λ e. omega (arith, e))), ap value low_is, ap value high_is)))
      )
      (at_places (λ high. 2 < high → ((k : ℕ) → k < 5 → k ≢ 2 → k ≢ high → slice_index one k ≡ slice_index two k) → slice_index one 2 ≡ slice_index two high → slice_index one high ≡ slice_index two 2 → slice_index one 2 ≡ slice_index one high)
      (λ less same low_is high_is. absurd (omega (arith, less)))
      (λ less same low_is high_is. absurd (omega (arith, less)))
      (λ less same low_is high_is. absurd (omega (arith, less)))
      (λ less same low_is high_is. same_character (slice_index one 2) (slice_index one 3) (omega (arith, right_one.three)) (omega (arith, right_one.four))
      (omega (arith, right_one.one, right_one.two, right_one.three, right_one.four, right_one.five, right_one.sum, right_two.sum, ap value (same 0 (omega arith) (λ e. omega (arith, e)) (λ e. omega (arith, e))), ap value (same 1 (omega arith) (λ e. omega (arith, e)) (λ e. omega (arith, e))), ap value (same 4 (omega arith) (λ e. omega (arith, e)) (λ e. omega (arith, e))), ap value low_is, ap value high_is)))
      (λ less same low_is high_is. same_character (slice_index one 2) (slice_index one 4) (omega (arith, right_one.three)) (omega (arith, right_one.five))
      (omega (arith, right_one.one, right_one.two, right_one.three, right_one.four, right_one.five, right_one.sum, right_two.sum, ap value (same 0 (omega arith) (λ e. omega (arith, e)) (λ e. omega (arith, e))), ap value (same 1 (omega arith) (λ e. omega (arith, e)) (λ e. omega (arith, e))), ap value (same 3 (omega arith) (λ e. omega (arith, e)) (λ e. omega (arith, e))), ap value low_is, ap value high_is)))
      )
      (at_places (λ high. 3 < high → ((k : ℕ) → k < 5 → k ≢ 3 → k ≢ high → slice_index one k ≡ slice_index two k) → slice_index one 3 ≡ slice_index two high → slice_index one high ≡ slice_index two 3 → slice_index one 3 ≡ slice_index one high)
      (λ less same low_is high_is. absurd (omega (arith, less)))
      (λ less same low_is high_is. absurd (omega (arith, less)))
      (λ less same low_is high_is. absurd (omega (arith, less)))
      (λ less same low_is high_is. absurd (omega (arith, less)))
      (λ less same low_is high_is. same_character (slice_index one 3) (slice_index one 4) (omega (arith, right_one.four)) (omega (arith, right_one.five))
      (omega (arith, right_one.one, right_one.two, right_one.three, right_one.four, right_one.five, right_one.sum, right_two.sum, ap value (same 0 (omega arith) (λ e. omega (arith, e)) (λ e. omega (arith, e))), ap value (same 1 (omega arith) (λ e. omega (arith, e)) (λ e. omega (arith, e))), ap value (same 2 (omega arith) (λ e. omega (arith, e)) (λ e. omega (arith, e))), ap value low_is, ap value high_is)))
      )
      (at_places (λ high. 4 < high → ((k : ℕ) → k < 5 → k ≢ 4 → k ≢ high → slice_index one k ≡ slice_index two k) → slice_index one 4 ≡ slice_index two high → slice_index one high ≡ slice_index two 4 → slice_index one 4 ≡ slice_index one high)
      (λ less same low_is high_is. absurd (omega (arith, less)))
      (λ less same low_is high_is. absurd (omega (arith, less)))
      (λ less same low_is high_is. absurd (omega (arith, less)))
      (λ less same low_is high_is. absurd (omega (arith, less)))
      (λ less same low_is high_is. absurd (omega (arith, less)))
      )
      low (omega (arith, less, lt)) high lt less same low_is high_is
