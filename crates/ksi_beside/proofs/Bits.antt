-- The way to a part of a tree that has a power of two leaves: a bit for each side.
use Rattle.std.proofs.Common.{◌≡◌, ◌↔◌, ℕ, zero, suc, ◌+◌, ◌-◌, ◌*◌, ◌^◌, ◌<◌, ◌≤◌, List, [], ◌∷◌, ◌++◌, length, refl, sym, ap, ◌∙◌, arith, inl, inr, add-one}
use Rattle.std.proofs.Math.Nat.{pow-succ'}
use Rattle.std.proofs.Math.Pow.{pow_pos}
use Rattle.ksi_split.specs.Powers.{IsSplit, split_of}
use Rattle.ksi_split.specs.Ways.{way_of}
use Rattle.ksi_split.specs.declared.side.Side.{Side}
use Rattle.ksi_beside.specs.Walks.{bit_of}
use Rattle.ksi_beside.proofs.Cases.{lt_cases}
use Rattle.ksi_split.specs.declared.side.Side.TheVariants.{Left, Right}

few : (s : Side) → bit_of s ≤ 1
few Left = omega arith
few Right = omega arith

double : (k : ℕ) → 2 ^ suc k ≡ 2 * 2 ^ k
double k = pow-succ' 2 k

module _ (one_split : (n k : ℕ) → 1 < n → IsSplit n k ↔ (k ≡ split_of n))
    (one_leaf : way_of 0 1 ≡ [])
    (left : (t n : ℕ) → 1 < n → t < split_of n → way_of t n ≡ Left ∷ way_of t (split_of n))
    (right : (t n : ℕ) → 1 < n → split_of n ≤ t → way_of t n ≡ Right ∷ way_of (t - split_of n) (n - split_of n)) where
  power_splits : (k : ℕ) → split_of (2 ^ suc k) ≡ 2 ^ k
  power_splits k =
      let p : 0 < 2 ^ k = pow_pos k in
      let d : 2 ^ suc k ≡ 2 * 2 ^ k = double k in
      let h : IsSplit (2 ^ suc k) (2 ^ k) = record { power = (k, refl); below = omega (arith, p, d); greatest = omega (arith, d) } in
      sym ((one_split (2 ^ suc k) (2 ^ k) (omega (arith, p, d))).0 h)

  left_way : (k t : ℕ) → t < 2 ^ k → way_of t (2 ^ suc k) ≡ Left ∷ way_of t (2 ^ k)
  left_way k t h =
      let p : 0 < 2 ^ k = pow_pos k in
      let d : 2 ^ suc k ≡ 2 * 2 ^ k = double k in
      let s : split_of (2 ^ suc k) ≡ 2 ^ k = power_splits k in
      left t (2 ^ suc k) (omega (arith, p, d)) (omega (arith, s, h)) ∙ ap (λ (n : ℕ). Left ∷ way_of t n) s

  right_way : (k t : ℕ) → 2 ^ k ≤ t → way_of t (2 ^ suc k) ≡ Right ∷ way_of (t - 2 ^ k) (2 ^ k)
  right_way k t h =
      let p : 0 < 2 ^ k = pow_pos k in
      let d : 2 ^ suc k ≡ 2 * 2 ^ k = double k in
      let s : split_of (2 ^ suc k) ≡ 2 ^ k = power_splits k in
      let rest : 2 ^ suc k - 2 ^ k ≡ 2 ^ k = omega (arith, d) in
      right t (2 ^ suc k) (omega (arith, p, d)) (omega (arith, s, h)) ∙ ap (λ (n : ℕ). Right ∷ way_of (t - n) (2 ^ suc k - n)) s ∙ ap (λ (n : ℕ). Right ∷ way_of (t - 2 ^ k) n) rest

  pub way_length : (k t : ℕ) → t < 2 ^ k → length (way_of t (2 ^ k)) ≡ k
  way_length zero t h = let none : t ≡ 0 = omega (arith, h) in ap (λ (x : ℕ). length (way_of x 1)) none ∙ ap length one_leaf
  way_length (suc k) t h = elim (lt_cases t (2 ^ k)) [
    | inl low ↦ ap length (left_way k t low.1) ∙ ap suc (way_length k t low.1)
    | inr high ↦ (let d : 2 ^ suc k ≡ 2 * 2 ^ k = double k in
        ap length (right_way k t high.1) ∙ ap suc (way_length k (t - 2 ^ k) (omega (arith, d, h, high.1))))
  ]

  pub one_more : (k t : ℕ) (side : Side) → t < 2 ^ k → way_of (2 * t + bit_of side) (2 ^ suc k) ≡ way_of t (2 ^ k) ++ side ∷ []
  one_more zero t Left h =
      let none : t ≡ 0 = omega (arith, h) in
      ap (λ (x : ℕ). way_of (2 * x + 0) 2) none ∙ left_way 0 0 (omega arith) ∙ ap (λ (w : List Side). Left ∷ w) one_leaf ∙ sym (ap (λ (w : List Side). w ++ Left ∷ []) (ap (λ (x : ℕ). way_of x 1) none ∙ one_leaf))
  one_more zero t Right h =
      let none : t ≡ 0 = omega (arith, h) in
      ap (λ (x : ℕ). way_of (2 * x + 1) 2) none ∙ right_way 0 1 (omega arith) ∙ ap (λ (w : List Side). Right ∷ w) one_leaf ∙ sym (ap (λ (w : List Side). w ++ Right ∷ []) (ap (λ (x : ℕ). way_of x 1) none ∙ one_leaf))
  one_more (suc k) t side h = elim (lt_cases t (2 ^ k)) [
    | inl low ↦ (let d : 2 ^ suc k ≡ 2 * 2 ^ k = double k in
        let b : bit_of side ≤ 1 = few side in
        left_way (suc k) (2 * t + bit_of side) (omega (arith, d, low.1, b)) ∙ ap (λ (w : List Side). Left ∷ w) (one_more k t side low.1) ∙ sym (ap (λ (w : List Side). w ++ side ∷ []) (left_way k t low.1)))
    | inr high ↦ (let d : 2 ^ suc k ≡ 2 * 2 ^ k = double k in
        let rest : 2 * t + bit_of side - 2 ^ suc k ≡ 2 * (t - 2 ^ k) + bit_of side = omega (arith, d, high.1) in
        right_way (suc k) (2 * t + bit_of side) (omega (arith, d, high.1)) ∙ ap (λ (n : ℕ). Right ∷ way_of n (2 ^ suc k)) rest ∙ ap (λ (w : List Side). Right ∷ w) (one_more k (t - 2 ^ k) side (omega (arith, d, h, high.1)))
        ∙ sym (ap (λ (w : List Side). w ++ side ∷ []) (right_way k t high.1)))
  ]

  pub next_fits : (k t : ℕ) (side : Side) → t < 2 ^ k → 2 * t + bit_of side < 2 ^ (k + 1)
  next_fits k t side h = let d : 2 ^ suc k ≡ 2 * 2 ^ k = double k in let b : bit_of side ≤ 1 = few side in rw add-one (omega (arith, d, h, b))

  pub next_way : (k t : ℕ) (side : Side) → t < 2 ^ k → way_of (2 * t + bit_of side) (2 ^ (k + 1)) ≡ way_of t (2 ^ k) ++ side ∷ []
  next_way k t side h = rw add-one (one_more k t side h)
