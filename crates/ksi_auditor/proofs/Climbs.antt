-- Climbing where no level passes 255.
use Rattle.std.proofs.Common.{◌≡◌, ℕ, ◌+◌, ◌≤◌, List, [], ◌∷◌, Ok, refl, sym, ◌∙◌, arith, inl, inr}
use Rattle.std.proofs.lemmas.List.Sums.{sum_by-cons}
use Rattle.ksi_aggtree.specs.Links.{PlainLink, level_above}
use Rattle.ksi_aggtree.specs.Climbing.{above, climbed, level_after}
use Rattle.ksi_aggtree.specs.declared.chains.node.Node.{Node}
use Rattle.ksi_auditor.specs.Climbed.{climbed_to}
use Rattle.ksi_auditor.proofs.Cases.{lt_cases}

-- how many levels a link goes up
abbrev pub rise : PlainLink → ℕ
rise link = link.correction + 1

pub level_more : (level : ℕ) (link : PlainLink) (links : List PlainLink) → level_after level (link ∷ links) ≡ level_after (level_above level link) links
level_more level link links = let s = sum_by-cons rise link links in omega (arith, s)

pub level_most : (level : ℕ) (links : List PlainLink) → level ≤ level_after level links
level_most level links = omega arith

module _ (image : List ℕ → List ℕ) where
  pub climbed_is : (place : ℕ) (item : Node) (links : List PlainLink) → level_after item.level links ≤ 255 → climbed image place item links ≡ Ok (climbed_to image item links)
  climbed_is place item [] low = refl
  climbed_is place item (link ∷ links) low =
      let more = level_more item.level link links in
      let rest : level_after (level_above item.level link) links ≤ 255 = omega (arith, more, low) in
      let here = level_most (level_above item.level link) links in
      elim (lt_cases 255 (level_above item.level link)) [
        | inl high ↦ absurd (omega (arith, high.1, rest, here))
        | inr low_here ↦ rw low_here.0 (climbed_is (place + 1) (above image item link) links rest)
      ]

  pub climbed_level : (item : Node) (links : List PlainLink) → (climbed_to image item links).level ≡ level_after item.level links
  climbed_level item [] = sym (omega arith)
  climbed_level item (link ∷ links) = climbed_level (above image item link) links ∙ sym (level_more item.level link links)
