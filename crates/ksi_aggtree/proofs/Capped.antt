-- No level of a round's tree passes 255, so that the cap is never met.
use Rattle.std.proofs.Common.{◌≡◌, ℕ, zero, suc, ◌+◌, ◌-◌, ◌^◌, ◌<◌, ◌≤◌, List, [], ◌∷◌, max, min, Some, refl, sym, ap, subst, ◌∙◌, arith, inl, inr}
use Rattle.std.proofs.Math.Nat.{pow-suc, pow-le-pow_right}
use Rattle.std.proofs.lemmas.Bool.Decides.{eqb_tells, leb_tells}
use Rattle.ksi_split.specs.declared.side.Side.{Side}
use Rattle.ksi_split.specs.declared.side.Side.TheVariants.{Left, Right}
use Rattle.ksi_split.specs.Powers.{IsSplit, split_of}
use Rattle.ksi_split.specs.Parts.{Part, half_of, part_at}
use Rattle.ksi_split.specs.Trees.{tree_within, tree, path_within, path_of, node_in, node_at}
use Rattle.ksi_aggtree.specs.declared.chains.node.Node.{Node}
use Rattle.ksi_aggtree.specs.Rounds.{joined_at, aggregation_join, capped_join}

-- what laws of trees and of splits say, as these proofs take it
abbrev pub TreesFit : Type 0
TreesFit = (join : Node → Node → Node) (leaf : ℕ → Node) (k lo n : ℕ) → n ≤ 2 ^ k → tree join leaf lo n ≡ tree_within join leaf k lo n

abbrev pub PathsFit : Type 0
PathsFit = (join : Node → Node → Node) (leaf : ℕ → Node) (k lo t n : ℕ) → n ≤ 2 ^ k → path_of join leaf lo t n ≡ path_within join leaf k lo t n

abbrev pub SplitsFit : Type 0
SplitsFit = (n : ℕ) → 1 < n → IsSplit n (split_of n)

module _ (image : List ℕ → List ℕ) (fits : TreesFit) (leaf : ℕ → Node) (low : (i : ℕ) → (leaf i).level ≤ 239) where
  same_join : (a b : Node) (k : ℕ) → a.level ≤ 239 + k → b.level ≤ 239 + k → k < 16 → (capped_join image a b ≡ aggregation_join image a b) × ((aggregation_join image a b).level ≤ 239 + suc k)
  same_join a b k la lb few =
      let e : min (max a.level b.level + 1) 255 ≡ max a.level b.level + 1 = omega arith in
      (ap (joined_at image a b) e, omega arith)

  capped_within : (k lo n : ℕ) → k ≤ 16 → (tree_within (capped_join image) leaf k lo n ≡ tree_within (aggregation_join image) leaf k lo n) × ((tree_within (aggregation_join image) leaf k lo n).level ≤ 239 + k)
  unfolding tree_within
  capped_within zero lo n few = (refl, omega (arith, low lo))
  capped_within (suc k) lo n few = elim (leb_tells (suc (2 ^ k)) n) [
    | inl t ↦ (let left = capped_within k lo (2 ^ k) (omega arith) in
        let right = capped_within k (lo + 2 ^ k) (n - 2 ^ k) (omega arith) in
        let both = same_join (tree_within (aggregation_join image) leaf k lo (2 ^ k)) (tree_within (aggregation_join image) leaf k (lo + 2 ^ k) (n - 2 ^ k)) k left.1 right.1 (omega arith) in
        rw t.0 (cc (left.0, right.0, both.0), both.1))
    | inr f ↦ rw f.0 (let one = capped_within k lo n (omega arith) in (one.0, omega (arith, one.1)))
  ]

  -- the tree of a round, as it is kept
  pub capped_tree : (lo n : ℕ) → n ≤ 65536 → tree (capped_join image) leaf lo n ≡ tree (aggregation_join image) leaf lo n
  capped_tree lo n few = fits (capped_join image) leaf 16 lo n few ∙ (capped_within 16 lo n (omega arith)).0 ∙ sym (fits (aggregation_join image) leaf 16 lo n few)

  capped_path_within : (k lo t n : ℕ) → k ≤ 16 → n ≤ 2 ^ k → path_within (capped_join image) leaf k lo t n ≡ path_within (aggregation_join image) leaf k lo t n
  unfolding path_within
  capped_path_within zero lo t n few le = refl
  capped_path_within (suc k) lo t n few le =
      let half : 2 ^ k ≤ 2 ^ 15 = (let few : k ≤ 15 = omega arith in pow-le-pow_right {n = 2} (omega arith) few) in
      let d = pow-suc 2 k in
      elim (leb_tells (suc (2 ^ k)) n) [
        | inl u ↦ elim (leb_tells (suc t) (2 ^ k)) [
          | inl v ↦ rw (u.0, v.0) (cc (capped_path_within k lo t (2 ^ k) (omega arith) (omega arith), capped_tree (lo + 2 ^ k) (n - 2 ^ k) (omega arith)))
          | inr w ↦ rw (u.0, w.0) (cc (capped_path_within k (lo + 2 ^ k) (t - 2 ^ k) (n - 2 ^ k) (omega arith) (omega arith), capped_tree lo (2 ^ k) (omega arith)))
        ]
        | inr f ↦ rw f.0 (capped_path_within k lo t n (omega arith) (let less = f.1 in omega arith))
      ]

  -- a path of a round's tree, as it is kept
  pub capped_path : PathsFit → (lo t n : ℕ) → n ≤ 65536 → path_of (capped_join image) leaf lo t n ≡ path_of (aggregation_join image) leaf lo t n
  capped_path paths lo t n few = paths (capped_join image) leaf 16 lo t n few ∙ capped_path_within 16 lo t n (omega arith) few ∙ sym (paths (aggregation_join image) leaf 16 lo t n few)

  half_some : SplitsFit → (part : Part) (side : Side) → 1 < part.count → (0 < (half_of part side).count) × ((half_of part side).count ≤ part.count)
  half_some splits part Left some = let s = splits part.count some in (let g = s.greatest in omega arith, let b = s.below in omega arith)
  half_some splits part Right some = let s = splits part.count some in (let b = s.below in omega arith, omega arith)

  capped_part : SplitsFit → (place : ℕ) (part : Part) (sides : List Side) → 0 < part.count → part.count ≤ 65536
      → node_in (capped_join image) leaf (part_at place part sides) ≡ node_in (aggregation_join image) leaf (part_at place part sides)
  capped_part splits place part [] some few = ap (λ (x : Node). Some x) (capped_tree part.first part.count few)
  capped_part splits place part (side ∷ sides) some few = elim (eqb_tells part.count 1) [
    | inl t ↦ rw t.0 refl
    | inr f ↦ (let more : 1 < part.count = (let ne = f.1 in omega arith) in
        let h = half_some splits part side more in
        rw f.0 (capped_part splits (place + 1) (half_of part side) sides h.0 (omega (arith, h.1))))
  ]

  -- a node of a round's tree, as it is kept
  pub capped_node : SplitsFit → (last : ℕ) (sides : List Side) → last < 65536 → node_at (capped_join image) leaf last sides ≡ node_at (aggregation_join image) leaf last sides
  capped_node splits last sides few = capped_part splits 0 (record { first = 0; count = last + 1 }) sides (omega arith) (omega arith)

  level_within : (lo n : ℕ) → n ≤ 65536 → (tree (aggregation_join image) leaf lo n).level ≤ 255
  level_within lo n few = let e = ap (λ (x : Node). x.level) (fits (aggregation_join image) leaf 16 lo n few) in omega (arith, e, (capped_within 16 lo n (omega arith)).1)

  part_low : SplitsFit → (place : ℕ) (part : Part) (sides : List Side) (node : Node) → 0 < part.count → part.count ≤ 65536
      → node_in (aggregation_join image) leaf (part_at place part sides) ≡ Some node → node.level ≤ 255
  part_low splits place part [] node some few is =
      let same : tree (aggregation_join image) leaf part.first part.count ≡ node = cc is in
      subst (λ (x : Node). x.level ≤ 255) same (level_within part.first part.count few)
  part_low splits place part (side ∷ sides) node some few is = elim (eqb_tells part.count 1) [
    | inl t ↦ (let none = rw t.0 at is in absurd (cc none))
    | inr f ↦ (let more : 1 < part.count = (let ne = f.1 in omega arith) in
        let h = half_some splits part side more in
        let rest = rw f.0 at is in
        part_low splits (place + 1) (half_of part side) sides node h.0 (omega (arith, h.1)) rest)
  ]

  -- a node of a round's tree stands at a level that does not pass the highest
  pub node_low : SplitsFit → (last : ℕ) (sides : List Side) (node : Node) → last < 65536 → node_at (aggregation_join image) leaf last sides ≡ Some node → node.level ≤ 255
  node_low splits last sides node few is = part_low splits 0 (record { first = 0; count = last + 1 }) sides node (omega arith) (omega arith) is
