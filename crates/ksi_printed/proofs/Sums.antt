-- The sum of numbers, each times its place from the end.
use Rattle.std.specs.List.{AllByRecursion}
use Rattle.std.proofs.Common.{◌≡◌, ◌∙◌, ℕ, zero, suc, ◌+◌, ◌*◌, ◌<◌, ◌≤◌, List, [], ◌∷◌, ◌++◌, length, refl, sym, ap, arith, append_assoc, length-append}
use Rattle.std.proofs.Math.Nat.{add-mul, le_antisymm, le_of_mul-le-mul_left}
use Rattle.std.proofs.lemmas.Nat.{mul-le}
use Rattle.ksi_printed.specs.Printed.{weighed}

same_length : (front back : List ℕ) (a b : ℕ) → length (front ++ a ∷ back) ≡ length (front ++ b ∷ back)
same_length front back a b = length-append front (a ∷ back) ∙ sym (length-append front (b ∷ back))

turn : (x w y : ℕ) → x + w + y ≡ y + w + x
turn x w y = omega arith

onto : (p q v w x y : ℕ) → p ≡ q → v + x ≡ w + y → p + v + x ≡ q + w + y
onto p q v w x y same is = omega (arith, same, is)

-- with another number at one place
replaced : (front back : List ℕ) (a b : ℕ) → weighed (front ++ a ∷ back) + suc (length back) * b ≡ weighed (front ++ b ∷ back) + suc (length back) * a
replaced [] back a b = turn (suc (length back) * a) (weighed back) (suc (length back) * b)
replaced (n ∷ front) back a b =
    onto (suc (length (front ++ a ∷ back)) * n) (suc (length (front ++ b ∷ back)) * n) (weighed (front ++ a ∷ back)) (weighed (front ++ b ∷ back)) (suc (length back) * b) (suc (length back) * a)
    (ap (λ (k : ℕ). suc k * n) (same_length front back a b)) (replaced front back a b)

cancelled : (k a b : ℕ) → suc k * a ≡ suc k * b → a ≡ b
cancelled k a b same =
    let one : suc k * a ≤ suc k * b = omega (arith, same) in
    let two : suc k * b ≤ suc k * a = omega (arith, same) in
    le_antisymm (le_of_mul-le-mul_left {m = a} {n = b} {k = suc k} one (omega arith)) (le_of_mul-le-mul_left {m = b} {n = a} {k = suc k} two (omega arith))

pub changed : (front back : List ℕ) (a b : ℕ) → weighed (front ++ a ∷ back) ≡ weighed (front ++ b ∷ back) → a ≡ b
changed front back a b same = cancelled (length back) a b (omega (arith, same, replaced front back a b))

difference : (k d a b : ℕ) → (d + k) * b + k * a ≡ (d + k) * a + k * b → d * a ≡ d * b
difference k d a b is = omega (arith, is, add-mul d k a, add-mul d k b)

pub exchanged : (front middle back : List ℕ) (a b : ℕ) → weighed (front ++ a ∷ (middle ++ b ∷ back)) ≡ weighed (front ++ b ∷ (middle ++ a ∷ back)) → a ≡ b
exchanged front middle back a b same =
    let first = replaced front (middle ++ b ∷ back) a b in
    let second = replaced (front ++ b ∷ middle) back b a in
    let one = ap weighed (append_assoc front (b ∷ middle) (b ∷ back)) in
    let two = ap weighed (append_assoc front (b ∷ middle) (a ∷ back)) in
    let k = suc (length back) in
    let places : suc (length (middle ++ b ∷ back)) ≡ suc (length middle) + k = omega (arith, length-append middle (b ∷ back)) in
    let left = ap (λ (w : ℕ). w * b) places in
    let right = ap (λ (w : ℕ). w * a) places in
    cancelled (length middle) a b (difference k (suc (length middle)) a b (omega (arith, same, first, second, one, two, left, right)))

-- ---- its bound

pub sum_bound : (ns : List ℕ) → length ns ≤ 19 → AllByRecursion (λ n. n < 65536) ns → weighed ns ≤ 1245165 * length ns
sum_bound [] few each = omega arith
sum_bound (n ∷ ns) few each =
    let here : suc (length ns) * n ≤ 19 * 65535 = mul-le (suc (length ns)) n 19 65535 few (omega (arith, each.0)) in
    let more = sum_bound ns (omega (arith, few)) each.1 in
    omega (arith, here, more)
