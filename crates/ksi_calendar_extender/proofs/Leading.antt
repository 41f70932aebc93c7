-- The way to a leaf leads to the part of that leaf alone.
use Rattle.std.proofs.Common.{◌≡◌, ◌∙◌, ℕ, ◌+◌, ◌<◌, ◌≤◌, List, [], ◌++◌, ap, sym, subst, arith, append-nil}
use Rattle.ksi_split.specs.declared.side.Side.{Side}
use Rattle.ksi_split.specs.Ways.{Begins, IsWay, LeadsTo}

module _ (different : (t u n : ℕ) (sides : List Side) → IsWay t n sides → IsWay u n sides → t ≡ u)
    (ends : (t u n : ℕ) (sides more : List Side) → IsWay t n sides → IsWay u n (sides ++ more) → more ≡ []) where
  only_one : (t u n : ℕ) (sides : List Side) → IsWay t n sides → Begins u n sides → (t ≤ u) × (u < t + 1)
  only_one t u n sides way begins =
      let none = ends t u n sides begins.0 way begins.1 in
      let other : IsWay u n sides = subst (λ (l : List Side). IsWay u n l) (ap (λ (more : List Side). sides ++ more) none ∙ append-nil sides) begins.1 in
      let same : t ≡ u = different t u n sides way other in
      (omega arith, omega arith)

  this_one : (t u n : ℕ) (sides : List Side) → IsWay t n sides → (t ≤ u) × (u < t + 1) → Begins u n sides
  this_one t u n sides way in_part =
      let same : t ≡ u = omega (arith, in_part.0, in_part.1) in
      ([], subst (λ (l : List Side). IsWay u n l) (sym (append-nil sides)) (subst (λ (v : ℕ). IsWay v n sides) same way))

  pub leads : (t n : ℕ) (sides : List Side) → IsWay t n sides → LeadsTo n sides t 1
  leads t n sides way = record {
    some = omega arith;
    leaves = λ u. (only_one t u n sides way, this_one t u n sides way);
  }
