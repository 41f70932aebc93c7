-- Where no string of a line's links differs from a block's tree, the line's own mask and hash stand where they lead.
use Rattle.std.proofs.Common.{◌≡◌, ℕ, ◌+◌, ◌<◌, ◌≤◌, false, List, [], ◌∷◌, ◌++◌, length, map, max, append_assoc, append-nil, Ok, Option, None, refl, sym, ap, ◌∙◌, arith, inl, inr}
use Rattle.std.specs.Prelude.{◌==◌}
use Rattle.std.specs.List.{AllByRecursion}
use Rattle.ksi_imprint.specs.Imprints.{join_text}
use Rattle.ksi_split.specs.Parts.{Part, half_of, part_at}
use Rattle.ksi_split.specs.declared.side.Side.{Side}
use Rattle.ksi_split.specs.declared.side.Side.TheVariants.{Left, Right}
use Rattle.ksi_aggtree.specs.Nodes.{parts_text}
use Rattle.ksi_beside.specs.Beside.{Pair, Rung, rung_side, rung_text, pair_before, pairs_below, differing}
use Rattle.ksi_logblock.specs.Blocks.{Masked, leaf_text, line_at, mask_at}
use Rattle.ksi_logblock.specs.Locating.{part_text, text_below}
use Rattle.ksi_logblock.proofs.BlockTree.{Laws, half_some, level_at, size_at, tree_at}
use Rattle.ksi_logblock.proofs.Cases.{eq_cases, same_cases}
use Rattle.ksi_logblock.proofs.Climbs.{IsHigh}
use Rattle.ksi_logblock.proofs.Strings.{left_same, level_same, right_same}

-- strings beside two trees that are the same below
same_pairs : (kept other : List Side → Option (List ℕ)) (sides more : List Side) (rungs : List Rung) → ((t : List Side) → kept (sides ++ t) ≡ other (more ++ t)) → pairs_below kept sides rungs ≡ pairs_below other more rungs
same_pairs kept other sides more [] e = refl
same_pairs kept other sides more (rung ∷ rungs) e =
    ap (λ (o : Option (List ℕ)). pair_before o rung (pairs_below kept (sides ++ rung.side ∷ []) rungs)) (sym (ap kept (append-nil sides)) ∙ e [] ∙ ap other (append-nil more))
    ∙ ap (pair_before (other more) rung) (same_pairs kept other (sides ++ rung.side ∷ []) (more ++ rung.side ∷ []) rungs (λ t. ap kept (append_assoc sides (rung.side ∷ []) t) ∙ e (rung.side ∷ t) ∙ sym (ap other (append_assoc more (rung.side ∷ []) t))))

-- no pair differs
none_first : (pair : Pair) (pairs : List Pair) → differing (pair ∷ pairs) ≡ None → (pair.0 ≡ pair.1) × (differing pairs ≡ None)
none_first pair pairs e = elim (same_cases pair.0 pair.1) [
  | inl same ↦ (let further = rw same.0 at e in (same.1, further))
  | inr other ↦ (let is = rw other.0 at e in absurd cc)
]

-- the string of a link of imprints is that of two others at a level: it has this level
rung_level : (side : Side) (below sibling a b : List ℕ) (level top : ℕ) → length below ≡ 33 → length sibling ≡ 33 → length a ≡ 33 → length b ≡ 33 → rung_text (record { side = side; below = below; sibling = sibling; level = level }) ≡ join_text a b top → level ≡ top
rung_level Left below sibling a b level top n s one two e = level_same below sibling a b level top e (n ∙ sym one) (s ∙ sym two)
rung_level Right below sibling a b level top n s one two e = level_same sibling below a b level top e (s ∙ sym one) (n ∙ sym two)

step_leads : (place : ℕ) (part q : Part) (side : Side) (sides : List Side) → (part.count == 1) ≡ false → part_at (place + 1) (half_of part side) sides ≡ Ok q → part_at place part (side ∷ sides) ≡ Ok q
step_leads place part q side sides other e = rw other e

module _ (laws : Laws) (image : List ℕ → List ℕ) (sizes : (x : List ℕ) → length (image x) ≡ 33) (block : Masked) where
  -- the sides lead to one line, whose mask and hash these are
  pub record IsOwnLeaf (place : ℕ) (part : Part) (sides : List Side) (mask hash : List ℕ) : Type 0 where
    pub k : ℕ
    pub leads : part_at place part sides ≡ Ok (record { first = k; count = 1 })
    pub there : k < length block.lines
    pub mask_is : mask ≡ mask_at image block k
    pub hash_is : hash ≡ image (line_at block k)

  abbrev beside : Part → List Rung → List Pair
  beside part rungs = pairs_below (text_below image block part) [] rungs

  lower : (part : Part) (rung : Rung) (rungs : List Rung) → (part.count == 1) ≡ false → beside part (rung ∷ rungs) ≡ (rung_text rung, part_text image block part) ∷ beside (half_of part rung.side) rungs
  lower part rung rungs other =
      ap (λ (pairs : List Pair). (rung_text rung, part_text image block part) ∷ pairs)
      (same_pairs (text_below image block part) (text_below image block (half_of part rung.side)) (rung.side ∷ []) [] rungs (λ t. rw other refl))

  high_top : (part : Part) → 1 < part.count → part.first + part.count ≤ length block.lines → 1 < max (tree_at laws image sizes block (half_of part Left)).level (tree_at laws image sizes block (half_of part Right)).level + 1
  high_top part more within = let h = half_some laws part Left more in let l = level_at laws image sizes block (half_of part Left) h.0 (omega (arith, h.1, within)) in omega (arith, l)

  pub own_leaf : (rungs : List Rung) (mask hash : List ℕ) (place : ℕ) (part : Part) → 0 < part.count → part.first + part.count ≤ length block.lines → length mask ≡ 33 → length hash ≡ 33 → AllByRecursion IsHigh rungs
      → differing (beside part (rungs ++ record { side = Left; below = mask; sibling = hash; level = 1 } ∷ [])) ≡ None → IsOwnLeaf place part (map rung_side rungs) mask hash
  own_leaf [] mask hash place part some within m h high e =
      let first = none_first (join_text mask hash 1, part_text image block part) [] e in
      elim (eq_cases part.count 1) [
        | inl one ↦ (let is : join_text mask hash 1 ≡ leaf_text image (mask_at image block part.first) (line_at block part.first) = rw one.0 at first.0 in record {
          k = part.first;
          leads = λ i. Ok (record { first = part.first; count = one.1 i });
          there = omega (arith, one.1, within);
          mask_is = left_same mask hash _ _ 1 1 is (m ∙ sym (sizes _));
          hash_is = right_same mask hash (mask_at image block part.first) (image (line_at block part.first)) 1 1 is (h ∙ sym (sizes _));
        })
        | inr other ↦ (let more : 1 < part.count = (let ne = other.1 in omega (arith, ne, some)) in
            let l = half_some laws part Left more in
            let r = half_some laws part Right more in
            let is : join_text mask hash 1 ≡ parts_text (tree_at laws image sizes block (half_of part Left)) (tree_at laws image sizes block (half_of part Right)) = rw other.0 at first.0 in
            let level = level_same mask hash _ _ 1 _ is (m ∙ sym (size_at laws image sizes block (half_of part Left) l.0 (omega (arith, l.1, within)))) (h ∙ sym (size_at laws image sizes block (half_of part Right) r.0 (omega (arith, r.1, within)))) in
            absurd (omega (arith, level, high_top part more within)))
      ]
  own_leaf (rung ∷ rungs) mask hash place part some within m h high e = elim (eq_cases part.count 1) [
    | inl one ↦ (let first = none_first (rung_text rung, part_text image block part) (pairs_below (text_below image block part) (rung.side ∷ []) (rungs ++ record { side = Left; below = mask; sibling = hash; level = 1 } ∷ [])) e in
        let is : rung_text rung ≡ leaf_text image (mask_at image block part.first) (line_at block part.first) = rw one.0 at first.0 in
        let level = rung_level rung.side rung.below rung.sibling _ _ rung.level 1 high.0.below high.0.sibling (sizes _) (sizes _) is in
        let top = high.0.level in
        absurd (omega (arith, level, top)))
    | inr other ↦ (let more : 1 < part.count = (let ne = other.1 in omega (arith, ne, some)) in
        let first = none_first (rung_text rung, part_text image block part) (beside (half_of part rung.side) (rungs ++ record { side = Left; below = mask; sibling = hash; level = 1 } ∷ [])) (sym (ap differing (lower part rung (rungs ++ record { side = Left; below = mask; sibling = hash; level = 1 } ∷ []) other.0)) ∙ e) in
        let half = half_some laws part rung.side more in
        let found = own_leaf rungs mask hash (place + 1) (half_of part rung.side) half.0 (omega (arith, half.1, within)) m h high.1 first.1 in
        record {
          k = found.k;
          leads = step_leads place part (record { first = found.k; count = 1 }) rung.side (map rung_side rungs) other.0 found.leads;
          there = found.there;
          mask_is = found.mask_is;
          hash_is = found.hash_is;
        })
  ]
