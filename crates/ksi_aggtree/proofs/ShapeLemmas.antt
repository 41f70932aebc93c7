-- How sides add up to their shape, and how a shape tells them.
use Rattle.std.proofs.Common.{◌≡◌, ℕ, zero, suc, ◌+◌, ◌*◌, ◌/◌, ◌%◌, ◌^◌, ◌<◌, ◌≤◌, List, [], ◌∷◌, length, drop, get_or, Some, refl, sym, ap, ◌∙◌, subst, arith}
use Rattle.std.specs.List.{slice_get}
use Rattle.std.specs.Int.{bit_at}
use Rattle.std.proofs.Math.Nat.{pow-suc, pow-le-pow_right}
use Rattle.std.proofs.Math.Seq.{drop-cons}
use Rattle.std.proofs.lemmas.Nat.{shr-shr}
use Rattle.std.proofs.Math.ListN.{drop_of_length-le}
use Rattle.std.proofs.lemmas.Nat.Bits.{bit_at-suc, bit_at_lowest}
use Rattle.ksi_split.specs.declared.side.Side.{Side}
use Rattle.ksi_split.specs.declared.side.Side.TheVariants.{Left, Right}
use Rattle.ksi_aggtree.specs.Shapes.{IsShape, side_bit, left_powers, shape_of}

doubled : (k : ℕ) → 2 ^ suc k ≡ 2 * 2 ^ k
doubled k = omega (arith, pow-suc 2 k)

bit_small : (side : Side) → side_bit side < 2
bit_small Left = omega arith
bit_small Right = omega arith

-- sides one place higher count twice
left_more : (i : ℕ) (sides : List Side) → left_powers (i + 1) sides ≡ 2 * left_powers i sides
left_more i [] = refl
left_more i (Left ∷ sides) =
    let e : 2 ^ (i + 1) ≡ 2 * 2 ^ i = (let s : i + 1 ≡ suc i = omega arith in ap (λ (n : ℕ). 2 ^ n) s ∙ doubled i) in
    omega (arith, e, left_more (i + 1) sides)
left_more i (Right ∷ sides) = left_more (i + 1) sides

shape_cons : (side : Side) (sides : List Side) → shape_of (side ∷ sides) ≡ side_bit side + 2 * shape_of sides
shape_cons Left sides = omega (arith, left_more 0 sides, doubled (length sides))
shape_cons Right sides = omega (arith, left_more 0 sides, doubled (length sides))

power_some : (k : ℕ) → 0 < 2 ^ k
power_some zero = omega arith
power_some (suc k) = omega (arith, doubled k, power_some k)

pub shape_below : (sides : List Side) → shape_of sides < 2 ^ suc (length sides)
shape_below [] = omega arith
shape_below (side ∷ sides) =
    omega (arith, shape_cons side sides, bit_small side, shape_below sides, doubled (suc (length sides)))

-- ---- each bit

-- a number without its lowest bit
shifted : (n k : ℕ) → n / 2 ^ suc k ≡ n / 2 / 2 ^ k
shifted n k = let e : 1 + k ≡ suc k = omega arith in sym (shr-shr n 1 k ∙ ap (λ (j : ℕ). n / 2 ^ j) e)

module _ (side : Side) (sides : List Side) (n : ℕ) where
  bits_above : IsShape sides (n / 2) → n % 2 ≡ side_bit side → (i : ℕ) (s : Side) → slice_get (side ∷ sides) i ≡ Some s → bit_at n i ≡ side_bit s
  bits_above h low zero s e = bit_at_lowest n ∙ low ∙ ap side_bit (let same : side ≡ s = cc in same)
  bits_above h low (suc i) s e = bit_at-suc n i ∙ h.bits i s e

  shape_on : IsShape sides (n / 2) → n % 2 ≡ side_bit side → IsShape (side ∷ sides) n
  shape_on h low = record { leading = shifted n (length sides) ∙ h.leading; bits = bits_above h low }

  shape_off : IsShape (side ∷ sides) n → IsShape sides (n / 2) × (n % 2 ≡ side_bit side)
  shape_off h = (
    record { leading = sym (shifted n (length sides)) ∙ h.leading; bits = λ i s e. sym (bit_at-suc n i) ∙ h.bits (suc i) s e },
    sym (bit_at_lowest n) ∙ h.bits 0 side refl,
  )

pub shape_is : (sides : List Side) → IsShape sides (shape_of sides)
shape_is [] = record { leading = refl; bits = λ i s e. cc }
shape_is (side ∷ sides) =
    let e = shape_cons side sides in
    let small = bit_small side in
    let rest : shape_of sides ≡ shape_of (side ∷ sides) / 2 = omega (arith, e, small) in
    let low : shape_of (side ∷ sides) % 2 ≡ side_bit side = omega (arith, e, small) in
    shape_on side sides (shape_of (side ∷ sides)) (subst (IsShape sides) rest (shape_is sides)) low

pub one_shape : (sides : List Side) (n : ℕ) → IsShape sides n → n ≡ shape_of sides
one_shape [] n h = omega (arith, h.leading)
one_shape (side ∷ sides) n h =
    let off = shape_off side sides n h in
    omega (arith, one_shape sides (n / 2) off.0, off.1, shape_cons side sides)

-- ---- telling the sides

shape_some : (sides : List Side) → 0 < shape_of sides
shape_some sides = omega (arith, power_some (length sides))

same_bits : (a b : Side) → side_bit a ≡ side_bit b → a ≡ b
same_bits Left Left e = refl
same_bits Left Right e = absurd (omega arith)
same_bits Right Left e = absurd (omega arith)
same_bits Right Right e = refl

pub same_sides : (xs ys : List Side) → shape_of xs ≡ shape_of ys → xs ≡ ys
same_sides [] [] e = refl
same_sides [] (y ∷ ys) e = absurd (omega (arith, e, shape_cons y ys, shape_some ys))
same_sides (x ∷ xs) [] e = absurd (omega (arith, e, shape_cons x xs, shape_some xs))
same_sides (x ∷ xs) (y ∷ ys) e =
    let rest : shape_of xs ≡ shape_of ys = omega (arith, e, shape_cons x xs, shape_cons y ys, bit_small x, bit_small y) in
    let bit : side_bit x ≡ side_bit y = omega (arith, e, shape_cons x xs, shape_cons y ys, bit_small x, bit_small y) in
    let s = same_bits x y bit in
    let r = same_sides xs ys rest in
    cc

-- ---- as a loop adds them up

pub shape_fits : (sides : List Side) → length sides ≤ 63 → shape_of sides < 2 ^ 64
shape_fits sides few =
    let high : 2 ^ suc (length sides) ≤ 2 ^ 64 = (let le : suc (length sides) ≤ 64 = omega arith in pow-le-pow_right {n = 2} (omega arith) le) in
    omega (arith, shape_below sides, high)

pub first_power : (place : ℕ) (side : Side) (sides : List Side) → left_powers place (side ∷ sides) ≡ left_powers place (side ∷ []) + left_powers (place + 1) sides
first_power place Left sides = omega arith
first_power place Right sides = omega arith

module _ (place : ℕ) (sides : List Side) (side : Side) (few : length sides ≤ 63) (lt : place < length sides) (is : side ≡ get_or sides place side) (bits : ℕ)
    (so_far : bits + left_powers place (drop place sides) ≡ left_powers 0 sides) where
  rest_is : drop place sides ≡ side ∷ drop (place + 1) sides
  rest_is = let s : suc place ≡ place + 1 = omega arith in
      drop-cons sides place side lt ∙ ap (λ (x : Side). x ∷ drop (suc place) sides) (sym is) ∙ ap (λ (n : ℕ). side ∷ drop n sides) s

  here : bits + left_powers place (side ∷ drop (place + 1) sides) ≡ left_powers 0 sides
  here = ap (λ (more : List Side). bits + left_powers place more) (sym rest_is) ∙ so_far

  pub side_fits : bits + left_powers place (side ∷ []) < 2 ^ 64
  side_fits = omega (arith, here, first_power place side (drop (place + 1) sides), shape_fits sides few)

  pub side_goes : bits + left_powers place (side ∷ []) + left_powers (place + 1) (drop (place + 1) sides) ≡ left_powers 0 sides
  side_goes = omega (arith, here, first_power place side (drop (place + 1) sides))

pub shape_ends : (place : ℕ) (sides : List Side) (bits : ℕ) → length sides ≤ place → bits + left_powers place (drop place sides) ≡ left_powers 0 sides → bits ≡ left_powers 0 sides
shape_ends place sides bits end so_far = omega (arith, so_far, ap (left_powers place) (drop_of_length-le sides {i = place} end))
