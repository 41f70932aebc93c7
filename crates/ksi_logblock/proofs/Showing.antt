-- Whatever is answered of a line and a proof shows what it says.
use Rattle.std.proofs.Common.{◌≡◌, ◌≢◌, ◌↔◌, ℕ, ◌+◌, ◌-◌, ◌<◌, ◌&&◌, Bool, true, false, List, [], ◌∷◌, ◌++◌, length, Result, Ok, Err, Option, Some, None, refl, sym, ap, subst, ◌∙◌, arith, inl, inr}
use Rattle.std.specs.Prelude.{if◌then◌else◌, unwrap_or}
use Rattle.std.specs.List.{AllByRecursion}
use Rattle.std.specs.Str.{bytes_eq}
use Rattle.ksi_imprint.specs.Imprints.{IsClash, IsImprint}
use Rattle.ksi_split.specs.Parts.{part_at, second_at, second_in}
use Rattle.ksi_split.specs.Ways.{IsWay, NamesSecond, way_of}
use Rattle.ksi_split.specs.declared.side.Side.{Side}
use Rattle.ksi_split.specs.declared.side.Side.TheVariants.{Left}
use Rattle.ksi_split.specs.declared.fault.ShapeFault.{ShapeFault}
use Rattle.ksi_aggtree.specs.declared.chains.climbing.LevelFault.{LevelFault}
use Rattle.ksi_aggtree.specs.Rounds.{tree_from}
use Rattle.ksi_beside.specs.Beside.{Pair, Rung, rungs_from, pairs_below, differing}
use Rattle.ksi_beside.specs.Standing.{Holds, IsTree}
use Rattle.ksi_logblock.specs.declared.line_proof.LineProof.{LineProof}
use Rattle.ksi_logblock.specs.declared.locating.Located.TheVariants.{In}
use Rattle.ksi_logblock.specs.Blocks.{Masked, items_of, line_at, mask_at}
use Rattle.ksi_logblock.specs.Links.{plain_line_links, sides_of}
use Rattle.ksi_logblock.specs.Locating.{against_root, all_lines, block_text, compared, first_pair, found, is_own, kept_root, line_in, line_named, line_pairs, located, node_pairs}
use Rattle.ksi_logblock.specs.Proofs.{leaf_node, root_by}
use Rattle.ksi_logblock.specs.Shown.{IsLine, LeadsToRoot, Shows}
use Rattle.ksi_logblock.proofs.Answering.{kept_is}
use Rattle.ksi_logblock.proofs.BlockTree.{Laws, block_is_tree, node, of_imprints}
use Rattle.ksi_logblock.proofs.Cases.{same_cases}
use Rattle.ksi_logblock.proofs.Climbs.{IsHigh, climbed_holds, holds_more, root_top, rungs_high, rungs_sides}
use Rattle.ksi_logblock.proofs.Outcomes.{differing_first, differing_then}
use Rattle.ksi_logblock.proofs.Own.{own_leaf}

-- what the crates below say, besides the laws of trees
pub record Cited : Type 0 where
  pub second : (p t : ℕ) (sides : List Side) → (second_at p sides ≡ Ok t) ↔ NamesSecond p sides t
  pub way : (t n : ℕ) (sides : List Side) → IsWay t n sides ↔ ((t < n) × (sides ≡ way_of t n))
  pub clash : (image : List ℕ → List ℕ) (kept node : List Side → Option (List ℕ)) (fits : Rung → Bool) (rungs : List Rung) (above : List Side) (x y : List ℕ) (pair : Pair) → IsTree image kept node fits → node above ≡ Some y → AllByRecursion (λ rung. fits rung ≡ true) rungs
      → Holds image x y rungs → differing (pairs_below kept above rungs) ≡ Some pair → IsClash image (record { one = pair.0; two = pair.1 })

-- ---- lists

pair_differs : (pairs : List Pair) (pair : Pair) → differing pairs ≡ Some pair → pair.0 ≢ pair.1
pair_differs [] pair e = absurd cc
pair_differs (here ∷ pairs) pair e = elim (same_cases here.0 here.1) [
  | inl same ↦ (let further = rw same.0 at e in pair_differs pairs pair further)
  | inr other ↦ (let is = rw other.0 at e in let here_is : here ≡ pair = cc in subst (λ (p : Pair). p.0 ≢ p.1) here_is other.1)
]

high_fit : (rungs : List Rung) → AllByRecursion IsHigh rungs → AllByRecursion (λ rung. of_imprints rung ≡ true) rungs
high_fit [] all = tt
high_fit (rung ∷ rungs) all = (rw (all.0.below, all.0.sibling) refl, high_fit rungs all.1)

all_last : {A : Type 0} (P : A → Type 0) (xs : List A) (x : A) → AllByRecursion P xs → P x → AllByRecursion P (xs ++ x ∷ [])
all_last P [] x all one = (one, tt)
all_last P (y ∷ xs) x all one = (all.0, all_last P xs x all.1 one)

both_true : (a b : Bool) → (a && b) ≡ true → (a ≡ true) × (b ≡ true)
both_true true true e = (refl, refl)
both_true true false e = absurd cc
both_true false b e = absurd cc

bytes_same : (a b : List ℕ) → bytes_eq a b ≡ true → a ≡ b
bytes_same a b e = elim (same_cases a b) [ inl same ↦ same.1 | inr other ↦ (let no = sym e ∙ other.0 in absurd cc) ]

same_bytes : (a b : List ℕ) → a ≡ b → bytes_eq a b ≡ true
same_bytes a b e = elim (same_cases a b) [ inl same ↦ same.0 | inr other ↦ absurd (other.1 e) ]

module _ (laws : Laws) (cited : Cited) (image : List ℕ → List ℕ) (imprints : (bytes : List ℕ) → IsImprint (image bytes)) (block : Masked) (some : 0 < length block.lines) (line : List ℕ) (proof : LineProof)
    (mask : IsImprint proof.mask) (siblings : AllByRecursion (λ link. length link.sibling ≡ 33) proof.links) where
  sizes : (x : List ℕ) → length (image x) ≡ 33
  sizes x = (imprints x).size

  abbrev upper : List Rung
  upper = rungs_from image (leaf_node image proof.mask line) (plain_line_links proof.links)

  abbrev lowest : Rung
  lowest = record { side = Left; below = proof.mask; sibling = image line; level = 1 }

  abbrev named : Option ℕ
  named = line_named block proof

  upper_high : AllByRecursion IsHigh upper
  upper_high = rungs_high image sizes (leaf_node image proof.mask line) proof.links (sizes _) (omega arith) siblings

  all_fit : AllByRecursion (λ rung. of_imprints rung ≡ true) (upper ++ lowest ∷ [])
  all_fit = all_last (λ rung. of_imprints rung ≡ true) upper lowest (high_fit upper upper_high) (rw (mask.size, sizes line) refl)

  -- where no string of a node differs, the sides name a line whose mask and hash these are
  record IsNamed : Type 0 where
    pub k : ℕ
    pub named_is : named ≡ Some k
    pub second : NamesSecond (length block.lines - 1) (sides_of proof.links) k
    pub there : k < length block.lines
    pub mask_is : proof.mask ≡ mask_at image block k
    pub hash_is : image line ≡ image (line_at block k)

  named_by : (k : ℕ) → second_at (length block.lines - 1) (sides_of proof.links) ≡ Ok k → named ≡ Some k
  named_by k e = ap line_in e

  one_line : (k : ℕ) → part_at 0 (all_lines block) (sides_of proof.links) ≡ Ok (record { first = k; count = 1 }) → second_at (length block.lines - 1) (sides_of proof.links) ≡ Ok k
  unfolding second_at
  one_line k e =
      let n : length block.lines - 1 + 1 ≡ length block.lines = omega (arith, some) in
      ap (λ (n : ℕ). second_in (part_at 0 (record { first = 0; count = n }) (sides_of proof.links))) n ∙ ap second_in e

  no_node : differing (node_pairs image block line proof) ≡ None → IsNamed
  no_node e =
      let own = own_leaf laws image sizes block upper proof.mask (image line) 0 (all_lines block) some (omega arith) mask.size (sizes line) upper_high e in
      let leads : part_at 0 (all_lines block) (sides_of proof.links) ≡ Ok (record { first = own.k; count = 1 }) = ap (part_at 0 (all_lines block)) (sym (rungs_sides image (leaf_node image proof.mask line) proof.links)) ∙ own.leads in
      let second = one_line own.k leads in
      record {
        k = own.k;
        named_is = named_by own.k second;
        second = (cited.second (length block.lines - 1) own.k (sides_of proof.links)).0 second;
        there = own.there;
        mask_is = own.mask_is;
        hash_is = own.hash_is;
      }

  -- the way of the line that the sides name
  way_is : (k : ℕ) → NamesSecond (length block.lines - 1) (sides_of proof.links) k → (k < length block.lines) × (sides_of proof.links ≡ way_of k (length block.lines))
  way_is k names =
      let n : length block.lines - 1 + 1 ≡ length block.lines = omega (arith, some) in
      (cited.way k (length block.lines) (sides_of proof.links)).0 (subst (λ (n : ℕ). IsWay k n (sides_of proof.links)) n names.way)

  -- where nothing differs, the line is the one named
  none_differs : first_pair image block line proof named ≡ None → (k : ℕ) × (named ≡ Some k) × IsLine image block line proof k
  none_differs e = of (differing (node_pairs image block line proof)) refl
    where
      of : (d : Option Pair) → differing (node_pairs image block line proof) ≡ d → (k : ℕ) × (named ≡ Some k) × IsLine image block line proof k
      of (Some pair) is = let first = sym (differing_first (node_pairs image block line proof) (line_pairs block line named) pair is) ∙ e in absurd cc
      of None is =
          let n = no_node is in
          let rest : differing (line_pairs block line (Some n.k)) ≡ None = ap (λ (o : Option ℕ). differing (line_pairs block line o)) (sym n.named_is) ∙ sym (differing_then (node_pairs image block line proof) (line_pairs block line named) is) ∙ e in
          let way = way_is n.k n.second in
          let same : line ≡ line_at block n.k = (elim (same_cases line (line_at block n.k)) [ inl same ↦ same.1 | inr other ↦ (let pair = rw other.0 at rest in absurd cc) ]) in
          (n.k, n.named_is, record { there = n.there; same = same; mask = n.mask_is; sides = way.1 })

  -- ---- clashes

  holds : (root : List ℕ) → root_by image line proof ≡ Ok root → Holds image proof.mask root (upper ++ lowest ∷ [])
  holds root leads =
      let top = root_top image line root proof leads in
      let up = climbed_holds image 0 (leaf_node image proof.mask line) top.0 (plain_line_links proof.links) top.1 in
      subst (λ (r : List ℕ). Holds image proof.mask r (upper ++ lowest ∷ [])) top.2 (holds_more image proof.mask top.0.imprint (leaf_node image proof.mask line).imprint upper lowest up refl refl)

  top_node : node laws image sizes block [] ≡ Some (kept_root image block)
  top_node = ap (λ (x : List ℕ). Some x) (kept_is image block (length block.lines) (tree_from image (items_of image block) 0 (length block.lines)) refl refl)

  some_differs : LeadsToRoot image block line proof → (pair : Pair) → first_pair image block line proof named ≡ Some pair → IsClash image (record { one = pair.0; two = pair.1 })
  some_differs leads pair e = of (differing (node_pairs image block line proof)) refl
    where
      of : (d : Option Pair) → differing (node_pairs image block line proof) ≡ d → IsClash image (record { one = pair.0; two = pair.1 })
      of (Some first) is =
          let found = sym (differing_first (node_pairs image block line proof) (line_pairs block line named) first is) ∙ e in
          let same : first ≡ pair = cc in
          subst (λ (p : Pair). IsClash image (record { one = p.0; two = p.1 })) same
          (cited.clash image (block_text image block) (node laws image sizes block) of_imprints (upper ++ lowest ∷ []) [] proof.mask (kept_root image block) first (block_is_tree laws image sizes block some) top_node all_fit (holds (kept_root image block) leads) is)
      of None is =
          let n = no_node is in
          let rest : differing (line_pairs block line (Some n.k)) ≡ Some pair = ap (λ (o : Option ℕ). differing (line_pairs block line o)) (sym n.named_is) ∙ sym (differing_then (node_pairs image block line proof) (line_pairs block line named) is) ∙ e in
          elim (same_cases line (line_at block n.k)) [
            | inl same ↦ (let none = rw same.0 at rest in absurd cc)
            | inr other ↦ (let it = rw other.0 at rest in
                let same : (line, line_at block n.k) ≡ pair = cc in
                subst (λ (p : Pair). IsClash image (record { one = p.0; two = p.1 })) same (record { differ = other.1; same = n.hash_is }))
          ]

  -- ---- answers

  own_is : (o : Option ℕ) → named ≡ o → is_own image block line proof o ≡ true → (k : ℕ) × (o ≡ Some k) × IsLine image block line proof k
  own_is None n e = absurd cc
  own_is (Some k) n e =
      let both = both_true (bytes_eq line (line_at block k)) (bytes_eq proof.mask (mask_at image block k)) e in
      let names = names_of (second_at (length block.lines - 1) (sides_of proof.links)) refl n in
      let way = way_is k names in
      (k, refl, record { there = way.0; same = bytes_same _ _ both.0; mask = bytes_same _ _ both.1; sides = way.1 })
    where
      names_of : (r : Result ℕ ShapeFault) → second_at (length block.lines - 1) (sides_of proof.links) ≡ r → line_in r ≡ Some k → NamesSecond (length block.lines - 1) (sides_of proof.links) k
      names_of (Ok j) is e = let same : j ≡ k = cc in (cited.second (length block.lines - 1) k (sides_of proof.links)).0 (is ∙ ap (λ (j : ℕ). Ok j) same)
      names_of (Err fault) is e = absurd cc

  shown_in : (k : ℕ) (o : Option ℕ) → LeadsToRoot image block line proof → o ≡ Some k → IsLine image block line proof k → Shows image block line proof (In (unwrap_or o 0))
  shown_in k o leads is own = subst (λ (o : Option ℕ). Shows image block line proof (In (unwrap_or o 0))) (sym is) (leads, own)

  shown_found : LeadsToRoot image block line proof → (d : Option Pair) → first_pair image block line proof named ≡ d → Shows image block line proof (found named d)
  shown_found leads None e = let own = none_differs e in shown_in own.0 named leads own.1 own.2
  shown_found leads (Some pair) e = (leads, some_differs leads pair e)

  shown_compared : LeadsToRoot image block line proof → Shows image block line proof (compared image block line proof)
  shown_compared leads = of (is_own image block line proof named) refl
    where
      of : (b : Bool) → is_own image block line proof named ≡ b → Shows image block line proof (if b then In (unwrap_or named 0) else found named (first_pair image block line proof named))
      of true e = let own = own_is named refl e in shown_in own.0 named leads own.1 own.2
      of false e = shown_found leads (first_pair image block line proof named) refl

  shown_against : (r : Result (List ℕ) LevelFault) → root_by image line proof ≡ r → Shows image block line proof (against_root image block line proof r)
  shown_against (Err fault) e = e
  shown_against (Ok root) e = elim (same_cases root (kept_root image block)) [
    | inl same ↦ rw same.0 (shown_compared (e ∙ ap (λ (x : List ℕ). Ok x) same.1))
    | inr other ↦ rw other.0 (e, refl, other.1)
  ]

  pub shows : Shows image block line proof (located image block line proof)
  unfolding located
  shows = shown_against (root_by image line proof) refl

  -- where the line stands in the block and the proof is its own, it is found
  found_there : (k : ℕ) → LeadsToRoot image block line proof → IsLine image block line proof k → located image block line proof ≡ In k
  unfolding located
  found_there k leads own =
      let n : length block.lines - 1 + 1 ≡ length block.lines = omega (arith, some) in
      let there = own.there in
      let way : IsWay k (length block.lines - 1 + 1) (sides_of proof.links) = subst (λ (n : ℕ). IsWay k n (sides_of proof.links)) (sym n) ((cited.way k (length block.lines) (sides_of proof.links)).1 (own.there, own.sides)) in
      let second = (cited.second (length block.lines - 1) k (sides_of proof.links)).1 (record { within = omega (arith, there); way = way }) in
      let is : named ≡ Some k = named_by k second in
      let lines = same_bytes line (line_at block k) own.same in
      let masks = same_bytes proof.mask (mask_at image block k) own.mask in
      let mine : is_own image block line proof named ≡ true = ap (is_own image block line proof) is ∙ rw (lines, masks) refl in
      let root = same_bytes (kept_root image block) (kept_root image block) refl in
      ap (against_root image block line proof) leads ∙ rw root (rw mine (ap (λ (o : Option ℕ). In (unwrap_or o 0)) is))

  pub inside : (k : ℕ) → (located image block line proof ≡ In k) ↔ (LeadsToRoot image block line proof × IsLine image block line proof k)
  inside k = (λ e. subst (Shows image block line proof) e shows, λ own. found_there k own.0 own.1)
