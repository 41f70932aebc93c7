-- A block's tree as a tree for the links of a line's proof, down to what its leaves are made of.
use Rattle.std.proofs.Common.{◌≡◌, ◌↔◌, ℕ, ◌+◌, ◌-◌, ◌<◌, ◌≤◌, ◌&&◌, Bool, true, false, List, [], ◌∷◌, ◌++◌, length, Option, Some, None, refl, sym, ap, ◌∙◌, arith, inl, inr, eqb}
use Rattle.std.specs.Prelude.{◌==◌, if◌then◌else◌}
use Rattle.std.proofs.lemmas.Bool.{eqb-true}
use Rattle.ksi_imprint.specs.Imprints.{join_text, zero_imprint}
use Rattle.ksi_split.specs.Powers.{IsSplit, split_of}
use Rattle.ksi_split.specs.Parts.{Part, half_of}
use Rattle.ksi_split.specs.declared.side.Side.{Side}
use Rattle.ksi_split.specs.declared.side.Side.TheVariants.{Left, Right}
use Rattle.ksi_aggtree.specs.declared.chains.node.Node.{Node}
use Rattle.ksi_aggtree.specs.declared.item.Item.{Item}
use Rattle.ksi_aggtree.specs.Rounds.{aggregation_join, item_at, leaf, tree_from}
use Rattle.ksi_beside.specs.Beside.{Rung, rung_text}
use Rattle.ksi_beside.specs.Standing.{IsTree}
use Rattle.ksi_logblock.specs.Blocks.{Masked, items_of, leaf_item, leaf_text, leaves_of, line_at, mask_at}
use Rattle.ksi_logblock.specs.Locating.{all_lines, block_text, text_below}
use Rattle.ksi_logblock.proofs.Cases.{eq_cases}
use Rattle.ksi_logblock.proofs.Leaves.{leaves_count, leaf_here}
use Rattle.ksi_logblock.proofs.Roots.{item_is}
use Rattle.ksi_logblock.proofs.Strings.{left_same, right_same}

some_is : {A : Type 0} {x y : A} → ◌≡◌ {A = Option A} (Some x) (Some y) → x ≡ y
some_is e = cc

and_both : (a b : Bool) → (a && b) ≡ true → (a ≡ true) × (b ≡ true)
and_both true true e = (refl, refl)
and_both true false e = absurd cc
and_both false b e = absurd cc

-- both parts of a link are imprints
abbrev pub of_imprints : Rung → Bool
of_imprints rung = eqb (length rung.below) 33 && eqb (length rung.sibling) 33

-- what the laws below say, as these proofs take it
pub record Laws : Type 0 where
  pub split : (n k : ℕ) → 1 < n → IsSplit n k ↔ (k ≡ split_of n)
  pub one_item : (image : List ℕ → List ℕ) (items : List Item) (lo : ℕ) → tree_from image items lo 1 ≡ leaf image (item_at items lo)
  pub cut : (image : List ℕ → List ℕ) (items : List Item) (lo n k : ℕ) → IsSplit n k → tree_from image items lo n ≡ aggregation_join image (tree_from image items lo k) (tree_from image items (lo + k) (n - k))

pub half_some : Laws → (part : Part) (side : Side) → 1 < part.count → (0 < (half_of part side).count) × ((half_of part side).first + (half_of part side).count ≤ part.first + part.count)
half_some laws part Left more = let s = (laws.split part.count (split_of part.count) more).1 refl in (let gr = s.greatest in omega (arith, gr, more), let b = s.below in omega (arith, b))
half_some laws part Right more = let s = (laws.split part.count (split_of part.count) more).1 refl in (let b = s.below in omega (arith, b), let b = s.below in omega (arith, b))

module _ (laws : Laws) (image : List ℕ → List ℕ) (sizes : (x : List ℕ) → length (image x) ≡ 33) (block : Masked) where
  abbrev items : List Item
  items = items_of image block

  abbrev pub tree_at : Part → Node
  tree_at part = tree_from image items part.first part.count

  pub joined : (part : Part) → 1 < part.count → tree_at part ≡ aggregation_join image (tree_at (half_of part Left)) (tree_at (half_of part Right))
  joined part more = laws.cut image items part.first part.count (split_of part.count) ((laws.split part.count (split_of part.count) more).1 refl)

  -- the tree of one line is its leaf
  pub one_line : (k : ℕ) → k < length block.lines → tree_from image items k 1 ≡ record { imprint = image (leaf_text image (mask_at image block k) (line_at block k)); level = 1 }
  one_line k there =
      let n = leaves_count image block.seed zero_imprint block.lines in
      laws.one_item image items k
      ∙ ap (leaf image) (item_is (leaves_of image block) k zero_imprint (omega (arith, n, there)))
      ∙ ap (λ (x : List ℕ). leaf image (leaf_item x)) (leaf_here image block.seed zero_imprint block.lines k zero_imprint there)

  within_one : (part : Part) → part.count ≡ 1 → part.first + part.count ≤ length block.lines → tree_at part ≡ record { imprint = image (leaf_text image (mask_at image block part.first) (line_at block part.first)); level = 1 }
  within_one part one within = ap (tree_from image items part.first) one ∙ one_line part.first (omega (arith, one, within))

  pub size_at : (part : Part) → 0 < part.count → part.first + part.count ≤ length block.lines → length (tree_at part).imprint ≡ 33
  size_at part some within = elim (eq_cases part.count 1) [
    | inl one ↦ ap (λ (x : Node). length x.imprint) (within_one part one.1 within) ∙ sizes _
    | inr other ↦ (let more : 1 < part.count = (let ne = other.1 in omega (arith, ne, some)) in ap (λ (x : Node). length x.imprint) (joined part more) ∙ sizes _)
  ]

  pub level_at : (part : Part) → 0 < part.count → part.first + part.count ≤ length block.lines → 1 ≤ (tree_at part).level
  level_at part some within = elim (eq_cases part.count 1) [
    | inl one ↦ (let e = ap (λ (x : Node). x.level) (within_one part one.1 within) in omega (arith, e))
    | inr other ↦ (let more : 1 < part.count = (let ne = other.1 in omega (arith, ne, some)) in let e = ap (λ (x : Node). x.level) (joined part more) in omega (arith, e))
  ]

  -- ---- nodes, and below a leaf its mask and its line's hash

  abbrev half_leaf : ℕ → Side → List Side → Option (List ℕ)
  half_leaf k Left [] = Some (mask_at image block k)
  half_leaf k Right [] = Some (image (line_at block k))
  half_leaf k side (lower ∷ sides) = None

  abbrev node_below : Part → List Side → Option (List ℕ)
  node_below part [] = Some (tree_at part).imprint
  node_below part (side ∷ sides) = if part.count == 1 then half_leaf part.first side sides else node_below (half_of part side) sides

  abbrev pub node : List Side → Option (List ℕ)
  node sides = node_below (all_lines block) sides

  hashes : (part : Part) (sides : List Side) (text : List ℕ) → 0 < part.count → part.first + part.count ≤ length block.lines → text_below image block part sides ≡ Some text → node_below part sides ≡ Some (image text)
  hashes part [] text some within e = elim (eq_cases part.count 1) [
    | inl one ↦ (let is = some_is (rw one.0 at e) in ap (λ (x : Node). Some x.imprint) (within_one part one.1 within) ∙ ap (λ (t : List ℕ). Some (image t)) is)
    | inr other ↦ (let more : 1 < part.count = (let ne = other.1 in omega (arith, ne, some)) in
        let is = some_is (rw other.0 at e) in
        ap (λ (x : Node). Some x.imprint) (joined part more) ∙ ap (λ (t : List ℕ). Some (image t)) is)
  ]
  hashes part (side ∷ sides) text some within e = elim (eq_cases part.count 1) [
    | inl one ↦ (let none = rw one.0 at e in absurd cc)
    | inr other ↦ (let more : 1 < part.count = (let ne = other.1 in omega (arith, ne, some)) in
        let further = rw other.0 at e in
        let h = half_some laws part side more in
        rw other.0 (hashes (half_of part side) sides text h.0 (omega (arith, h.1, within)) further))
  ]

  mask_size : (k : ℕ) → length (mask_at image block k) ≡ 33
  mask_size k = sizes _

  leaf_stands : (k : ℕ) (side : Side) (below sibling : List ℕ) (level : ℕ) → length below ≡ 33 → length sibling ≡ 33 → leaf_text image (mask_at image block k) (line_at block k) ≡ rung_text (record { side = side; below = below; sibling = sibling; level = level }) → half_leaf k side [] ≡ Some below
  leaf_stands k Left below sibling level b s e = ap (λ (x : List ℕ). Some x) (left_same (mask_at image block k) (image (line_at block k)) below sibling 1 level e (mask_size k ∙ sym b))
  leaf_stands k Right below sibling level b s e = ap (λ (x : List ℕ). Some x) (right_same (mask_at image block k) (image (line_at block k)) sibling below 1 level e (sizes (line_at block k) ∙ sym b))

  half_stands : (part : Part) (side : Side) (below sibling : List ℕ) (level top : ℕ) → 1 < part.count → part.first + part.count ≤ length block.lines → length below ≡ 33 → length sibling ≡ 33
      → join_text (tree_at (half_of part Left)).imprint (tree_at (half_of part Right)).imprint top ≡ rung_text (record { side = side; below = below; sibling = sibling; level = level }) → (tree_at (half_of part side)).imprint ≡ below
  half_stands part Left below sibling level top more within b s e =
      let h = half_some laws part Left more in
      left_same (tree_at (half_of part Left)).imprint (tree_at (half_of part Right)).imprint below sibling top level e (size_at (half_of part Left) h.0 (omega (arith, h.1, within)) ∙ sym b)
  half_stands part Right below sibling level top more within b s e =
      let h = half_some laws part Right more in
      right_same (tree_at (half_of part Left)).imprint (tree_at (half_of part Right)).imprint sibling below top level e (size_at (half_of part Right) h.0 (omega (arith, h.1, within)) ∙ sym b)

  below_is : (part : Part) (sides : List Side) (rung : Rung) → 0 < part.count → part.first + part.count ≤ length block.lines → length rung.below ≡ 33 → length rung.sibling ≡ 33 → text_below image block part sides ≡ Some (rung_text rung) → node_below part (sides ++ rung.side ∷ []) ≡ Some rung.below
  below_is part [] rung some within b s e = elim (eq_cases part.count 1) [
    | inl one ↦ (let is = some_is (rw one.0 at e) in rw one.0 (leaf_stands part.first rung.side rung.below rung.sibling rung.level b s is))
    | inr other ↦ (let more : 1 < part.count = (let ne = other.1 in omega (arith, ne, some)) in
        let is = some_is (rw other.0 at e) in
        rw other.0 (ap (λ (x : List ℕ). Some x) (half_stands part rung.side rung.below rung.sibling rung.level _ more within b s is)))
  ]
  below_is part (side ∷ sides) rung some within b s e = elim (eq_cases part.count 1) [
    | inl one ↦ (let none = rw one.0 at e in absurd cc)
    | inr other ↦ (let more : 1 < part.count = (let ne = other.1 in omega (arith, ne, some)) in
        let further = rw other.0 at e in
        let h = half_some laws part side more in
        rw other.0 (below_is (half_of part side) sides rung h.0 (omega (arith, h.1, within)) b s further))
  ]

  pub block_is_tree : 0 < length block.lines → IsTree image (block_text image block) node of_imprints
  block_is_tree some = record {
    hashes = λ sides text e. hashes (all_lines block) sides text some (omega arith) e;
    below = λ sides rung fits e. (let both = and_both (eqb (length rung.below) 33) (eqb (length rung.sibling) 33) fits in below_is (all_lines block) sides rung some (omega arith) (eqb-true _ _ both.0) (eqb-true _ _ both.1) e);
  }
