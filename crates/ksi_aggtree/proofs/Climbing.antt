-- The links of a path climb to what the path leads to.
use Rattle.std.proofs.Common.{◌≡◌, ℕ, ◌+◌, ◌≤◌, List, [], ◌∷◌, max, Ok, refl, sym, ap, ◌∙◌, arith, inl, inr}
use Rattle.std.proofs.lemmas.Bool.Decides.{leb_tells}
use Rattle.ksi_split.specs.declared.side.Side.{Side}
use Rattle.ksi_split.specs.declared.side.Side.TheVariants.{Left, Right}
use Rattle.ksi_split.specs.declared.tree_link.TreeLink.{TreeLink}
use Rattle.ksi_split.specs.Trees.{link_from, climb_links}
use Rattle.ksi_aggtree.specs.declared.chains.node.Node.{Node}
use Rattle.ksi_aggtree.specs.Links.{side_text, level_above}
use Rattle.ksi_aggtree.specs.Owned.{plain_link, plain_links}
use Rattle.ksi_aggtree.specs.Climbing.{climbed}
use Rattle.ksi_aggtree.specs.Rounds.{aggregation_join}
use Rattle.ksi_aggtree.specs.Paths.{link_beside, links_from}

module _ (image : List ℕ → List ℕ) where
  join_level : (x : Node) (s : TreeLink Node) (side : Side) → (link_from (aggregation_join image) x s side).level ≡ max x.level s.sibling.level + 1
  join_level x s Left = refl
  join_level x s Right = omega arith

  rises : (x : Node) (path : List (TreeLink Node)) → x.level ≤ (climb_links (aggregation_join image) x path).level
  rises x [] = omega arith
  rises x (s ∷ path) = omega (arith, join_level x s s.side, rises (link_from (aggregation_join image) x s s.side) path)

  beside_at : Node → TreeLink Node → Side → ℕ → Node
  beside_at x s side level = record { imprint = image (side_text side x.imprint s.sibling.imprint level); level = level }

  new_level : Node → TreeLink Node → ℕ
  new_level x s = level_above x.level (plain_link (link_beside x.level s))

  same_join : (x : Node) (s : TreeLink Node) (side : Side) → beside_at x s side (new_level x s) ≡ link_from (aggregation_join image) x s side
  unfolding beside_at new_level
  same_join x s Left = let e : new_level x s ≡ max x.level s.sibling.level + 1 = omega arith in ap (beside_at x s Left) e
  same_join x s Right = let e : new_level x s ≡ max s.sibling.level x.level + 1 = omega arith in ap (beside_at x s Right) e

  pub links_climb : (place : ℕ) (x : Node) (path : List (TreeLink Node)) → (climb_links (aggregation_join image) x path).level ≤ 255 → climbed image place x (plain_links (links_from x.level path)) ≡ Ok (climb_links (aggregation_join image) x path)
  unfolding beside_at new_level
  links_climb place x [] low = refl
  links_climb place x (s ∷ path) low =
      let up = rises (link_from (aggregation_join image) x s s.side) path in
      let level : new_level x s ≤ 255 = omega (arith, up, join_level x s s.side) in
      elim (leb_tells 256 (new_level x s)) [
        | inl t ↦ absurd (omega arith)
        | inr f ↦ rw f.0 (ap (λ (y : Node). climbed image (place + 1) y (plain_links (links_from (max x.level s.sibling.level + 1) path))) (same_join x s s.side)
            ∙ ap (λ (l : ℕ). climbed image (place + 1) (link_from (aggregation_join image) x s s.side) (plain_links (links_from l path))) (sym (join_level x s s.side))
            ∙ links_climb (place + 1) (link_from (aggregation_join image) x s s.side) path low)
      ]
