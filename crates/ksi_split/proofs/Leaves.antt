-- A way as a relation and as a computed list are the same.
use Rattle.std.proofs.Common.{◌≡◌, ℕ, zero, suc, ◌-◌, ◌^◌, ◌<◌, ◌≤◌, List, [], ◌∷◌, length, sym, ap, ◌∙◌, subst, arith, inl, inr}
use Rattle.ksi_split.specs.declared.side.Side.{Side}
use Rattle.ksi_split.specs.declared.side.Side.TheVariants.{Left, Right}
use Rattle.ksi_split.specs.Powers.{split_of}
use Rattle.ksi_split.specs.Ways.{way_of}
use Rattle.ksi_split.specs.Ways.{IsWay}
use Rattle.ksi_split.proofs.Powers.{lt_cases, below_power, split_is, split_some, split_only}
use Rattle.ksi_split.proofs.Ways.{way_one, way_left, way_right, parts_fit}

-- the computed way to leaf t of n leaves has these sides
pub record IsWord (t n : ℕ) (sides : List Side) : Type 0 where
  pub within : t < n
  pub word : way_of t n ≡ sides

pub word_is : (sides : List Side) (t n : ℕ) → IsWay t n sides → IsWord t n sides
word_is [] t n h = record { within = omega (arith, h.0, h.1); word = ap (way_of t) h.0 ∙ way_one t }
word_is (Left ∷ sides) t n h =
    let k = h.0 in
    let is : k ≡ split_of n = split_only n k h.1 in
    let r = word_is sides t k h.3 in
    record {
      within = omega (arith, h.2, h.1.below);
      word = way_left t n (split_some n k h.1) (omega (arith, h.2)) ∙ ap (λ (w : List Side). Left ∷ w) (ap (way_of t) (sym is) ∙ r.word);
    }
word_is (Right ∷ sides) t n h =
    let k = h.0 in
    let is : k ≡ split_of n = split_only n k h.1 in
    let r = word_is sides (t - k) (n - k) h.3 in
    record {
      within = omega (arith, h.2, h.1.below, r.within);
      word = way_right t n (split_some n k h.1) (omega (arith, h.2)) ∙ ap (λ (w : List Side). Right ∷ w) (ap (λ (i : ℕ). way_of (t - i) (n - i)) (sym is) ∙ r.word);
    }

way_is_within : (level t n : ℕ) → t < n → n ≤ 2 ^ level → IsWay t n (way_of t n)
way_is_within zero t n lt few =
    let one : n ≡ 1 = omega arith in
    let none : t ≡ 0 = omega arith in
    subst (IsWay t n) (sym (ap (way_of t) one ∙ way_one t)) (one, none)
way_is_within (suc level) t n lt few = elim (lt_cases 1 n) [
  | inl some ↦ (let fit = parts_fit (suc level) n some.1 few in
      let less : suc level - 1 ≡ level = omega arith in
      let s = split_is n some.1 in
      let below : split_of n < n = s.below in
      elim (lt_cases t (split_of n)) [
        | inl v ↦ subst (IsWay t n) (sym (way_left t n some.1 v.1)) (split_of n, s, v.1, way_is_within level t (split_of n) v.1 (rw (← less) fit.1))
        | inr f ↦ subst (IsWay t n) (sym (way_right t n some.1 f.1)) (split_of n, s, f.1, way_is_within level (t - split_of n) (n - split_of n) (omega arith) (rw (← less) fit.2))
      ])
  | inr few ↦ (let one : n ≡ 1 = omega arith in
      let none : t ≡ 0 = omega arith in
      subst (IsWay t n) (sym (ap (way_of t) one ∙ way_one t)) (one, none))
]

pub way_is : (t n : ℕ) → t < n → IsWay t n (way_of t n)
way_is t n lt = way_is_within n t n lt (omega (arith, below_power n))

-- a level more is a side more
pub way_length : (sides : List Side) (t n k : ℕ) → n ≤ 2 ^ k → IsWay t n sides → length sides ≤ k
way_length [] t n k few h = omega arith
way_length (Left ∷ sides) t n k few h =
    let some = split_some n h.0 h.1 in
    let fit = parts_fit k n some few in
    let is : h.0 ≡ split_of n = split_only n h.0 h.1 in
    let r = way_length sides t h.0 (k - 1) (omega (arith, fit.1)) h.3 in
    omega (arith, fit.0)
way_length (Right ∷ sides) t n k few h =
    let some = split_some n h.0 h.1 in
    let fit = parts_fit k n some few in
    let is : h.0 ≡ split_of n = split_only n h.0 h.1 in
    let r = way_length sides (t - h.0) (n - h.0) (k - 1) (omega (arith, fit.2)) h.3 in
    omega (arith, fit.0)
