-- Climbing along the links of a line, and their strings from the top.
use Rattle.std.proofs.Common.{◌≡◌, ℕ, ◌+◌, ◌<◌, ◌≤◌, List, [], ◌∷◌, ◌++◌, length, map, reverse, Result, Ok, Err, refl, sym, ap, ◌∙◌, arith, inl, inr}
use Rattle.std.specs.List.{AllByRecursion}
use Rattle.std.proofs.lemmas.List.{map-append}
use Rattle.std.proofs.lemmas.List.Sums.{sum_by-cons}
use Rattle.std.proofs.lemmas.Grind.{reverse_onto}
use Rattle.ksi_split.specs.declared.side.Side.{Side}
use Rattle.ksi_aggtree.specs.Links.{PlainLink, level_above}
use Rattle.ksi_aggtree.specs.Climbing.{above, climbed, level_after}
use Rattle.ksi_aggtree.specs.declared.chains.node.Node.{Node}
use Rattle.ksi_aggtree.specs.declared.chains.climbing.LevelFault.{LevelFault}
use Rattle.ksi_beside.specs.Beside.{Rung, rung_side, rung_text, rung_from, rungs_from}
use Rattle.ksi_beside.specs.Standing.{Holds}
use Rattle.ksi_logblock.specs.declared.line_proof.LineLink.{LineLink}
use Rattle.ksi_logblock.specs.declared.line_proof.LineProof.{LineProof}
use Rattle.ksi_logblock.specs.Links.{plain_line_link, plain_line_links, sides_of}
use Rattle.ksi_logblock.specs.Proofs.{imprint_or_fault, leaf_node, root_by}
use Rattle.ksi_logblock.proofs.Cases.{lt_cases}

abbrev pub rise : PlainLink → ℕ
rise link = link.correction + 1

level_more : (level : ℕ) (link : PlainLink) (links : List PlainLink) → level_after level (link ∷ links) ≡ level_after (level_above level link) links
level_more level link links = let s = sum_by-cons rise link links in omega (arith, s)

-- one more side at the top
more_sides : (rungs : List Rung) (rung : Rung) (sides : List Side) → map rung_side rungs ≡ reverse sides → map rung_side (rungs ++ rung ∷ []) ≡ reverse (rung.side ∷ sides)
more_sides rungs rung sides e = map-append rung_side rungs (rung ∷ []) ∙ ap (λ (w : List Side). w ++ rung.side ∷ []) e ∙ sym (reverse_onto sides rung.side [])

all_last : {A : Type 0} (P : A → Type 0) (xs : List A) (x : A) → AllByRecursion P xs → P x → AllByRecursion P (xs ++ x ∷ [])
all_last P [] x all one = (one, tt)
all_last P (y ∷ xs) x all one = (all.0, all_last P xs x all.1 one)

-- a link of imprints, one level at least above a leaf
pub record IsHigh (rung : Rung) : Type 0 where
  pub below : length rung.below ≡ 33
  pub sibling : length rung.sibling ≡ 33
  pub level : 1 < rung.level

module _ (image : List ℕ → List ℕ) where
  pub holds_more : (x y z : List ℕ) (rungs : List Rung) (rung : Rung) → Holds image z y rungs → z ≡ image (rung_text rung) → rung.below ≡ x → Holds image x y (rungs ++ rung ∷ [])
  holds_more x y z [] rung h e is = (sym h ∙ e, sym is)
  holds_more x y z (top ∷ rungs) rung h e is = (h.0, holds_more x top.below z rungs rung h.1 e is)

  -- links that lead to an item, with no level past 255
  pub climbed_low : (place : ℕ) (x top : Node) (links : List PlainLink) → climbed image place x links ≡ Ok top → x.level ≤ 255 → level_after x.level links ≤ 255
  climbed_low place x top [] e low = omega (arith, low)
  climbed_low place x top (link ∷ links) e low = elim (lt_cases 255 (level_above x.level link)) [
    | inl high ↦ (let over = rw high.0 at e in absurd cc)
    | inr fits ↦ (let further = rw fits.0 at e in
        let rest = climbed_low (place + 1) (above image x link) top links further fits.1 in
        let more = level_more x.level link links in
        omega (arith, more, rest))
  ]

  pub climbed_holds : (place : ℕ) (x top : Node) (links : List PlainLink) → climbed image place x links ≡ Ok top → Holds image x.imprint top.imprint (rungs_from image x links)
  climbed_holds place x top [] e = let is : x ≡ top = cc in ap (λ (n : Node). n.imprint) is
  climbed_holds place x top (link ∷ links) e = elim (lt_cases 255 (level_above x.level link)) [
    | inl high ↦ (let over = rw high.0 at e in absurd cc)
    | inr fits ↦ (let further = rw fits.0 at e in
        holds_more x.imprint top.imprint (above image x link).imprint (rungs_from image (above image x link) links) (rung_from x link)
        (climbed_holds (place + 1) (above image x link) top links further) refl refl)
  ]

  -- the item that a line and its proof lead to
  pub root_top : (line root : List ℕ) (proof : LineProof) → root_by image line proof ≡ Ok root → (top : Node) × (climbed image 0 (leaf_node image proof.mask line) (plain_line_links proof.links) ≡ Ok top) × (top.imprint ≡ root)
  root_top line root proof e = of (climbed image 0 (leaf_node image proof.mask line) (plain_line_links proof.links)) refl e
    where
      of : (r : Result Node LevelFault) → climbed image 0 (leaf_node image proof.mask line) (plain_line_links proof.links) ≡ r → imprint_or_fault r ≡ Ok root → (top : Node) × (climbed image 0 (leaf_node image proof.mask line) (plain_line_links proof.links) ≡ Ok top) × (top.imprint ≡ root)
      of (Ok top) is e = (top, is, cc)
      of (Err fault) is e = absurd cc

  pub low : (line root : List ℕ) (proof : LineProof) → root_by image line proof ≡ Ok root → level_after 1 (plain_line_links proof.links) ≤ 255
  low line root proof e = let t = root_top line root proof e in climbed_low 0 (leaf_node image proof.mask line) t.0 (plain_line_links proof.links) t.1 (omega arith)

  pub rungs_sides : (x : Node) (links : List LineLink) → map rung_side (rungs_from image x (plain_line_links links)) ≡ sides_of links
  rungs_sides x [] = refl
  rungs_sides x (link ∷ links) = more_sides (rungs_from image (above image x (plain_line_link link)) (plain_line_links links)) (rung_from x (plain_line_link link)) (map (λ (l : LineLink). l.side) links) (rungs_sides (above image x (plain_line_link link)) links)

  pub rungs_high : (sizes : (x : List ℕ) → length (image x) ≡ 33) (x : Node) (links : List LineLink) → length x.imprint ≡ 33 → 1 ≤ x.level → AllByRecursion (λ link. length link.sibling ≡ 33) links → AllByRecursion IsHigh (rungs_from image x (plain_line_links links))
  rungs_high sizes x [] size some all = tt
  rungs_high sizes x (link ∷ links) size some all = all_last IsHigh (rungs_from image (above image x (plain_line_link link)) (plain_line_links links)) (rung_from x (plain_line_link link))
      (rungs_high sizes (above image x (plain_line_link link)) links (sizes _) (omega (arith, some)) all.1)
      (record { below = size; sibling = all.0; level = omega (arith, some) })
