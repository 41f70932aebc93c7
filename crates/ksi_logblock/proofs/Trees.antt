-- The trees and the paths of one level more, by where the leaves are cut.
use Rattle.std.proofs.Common.{◌≡◌, ℕ, suc, ◌+◌, ◌-◌, ◌^◌, ◌<◌, ◌≤◌, List, [], ◌∷◌, ◌++◌, length, get_or, append_assoc, max, map, refl, ap, ◌∙◌, sym, arith, inl, inr}
use Rattle.std.proofs.lemmas.Bool.Decides.{leb_tells}
use Rattle.ksi_split.specs.declared.side.Side.TheVariants.{Left, Right}
use Rattle.ksi_split.specs.declared.tree_link.TreeLink.{TreeLink}
use Rattle.ksi_split.specs.Trees.{tree, tree_within, path_within}
use Rattle.ksi_aggtree.specs.declared.chains.node.Node.{Node}
use Rattle.std.proofs.lemmas.List.{get_or-map, map-append}
use Rattle.ksi_imprint.specs.Imprints.{join_text}
use Rattle.ksi_aggtree.specs.Links.{PlainLink}
use Rattle.ksi_aggtree.specs.Owned.{plain_link, plain_links}
use Rattle.ksi_aggtree.specs.Paths.{link_beside, links_from}
use Rattle.ksi_aggtree.specs.Rounds.{aggregation_join, leaf, leaf_of_place, no_item}
use Rattle.ksi_logblock.specs.Blocks.{leaf_item}
use Rattle.ksi_logblock.specs.Upward.{level_above}

module _ {A : Type 0} (join : A → A → A) (leaf : ℕ → A) where
  pub tree_one : (lo n : ℕ) → tree_within join leaf 0 lo n ≡ leaf lo
  unfolding tree_within
  tree_one lo n = refl

  pub tree_low : (k lo n : ℕ) → n ≤ 2 ^ k → tree_within join leaf (suc k) lo n ≡ tree_within join leaf k lo n
  unfolding tree_within
  tree_low k lo n few = elim (leb_tells (suc (2 ^ k)) n) [
    | inl t ↦ absurd (omega (arith, t.1, few))
    | inr f ↦ rw f.0 refl
  ]

  pub tree_high : (k lo n : ℕ) → 2 ^ k < n → tree_within join leaf (suc k) lo n ≡ join (tree_within join leaf k lo (2 ^ k)) (tree_within join leaf k (lo + 2 ^ k) (n - 2 ^ k))
  unfolding tree_within
  tree_high k lo n more = elim (leb_tells (suc (2 ^ k)) n) [
    | inl t ↦ rw t.0 refl
    | inr f ↦ absurd (omega (arith, f.1, more))
  ]

  pub path_one : (lo t n : ℕ) → path_within join leaf 0 lo t n ≡ []
  unfolding path_within
  path_one lo t n = refl

  pub path_low : (k lo t n : ℕ) → n ≤ 2 ^ k → path_within join leaf (suc k) lo t n ≡ path_within join leaf k lo t n
  unfolding path_within
  path_low k lo t n few = elim (leb_tells (suc (2 ^ k)) n) [
    | inl u ↦ absurd (omega (arith, u.1, few))
    | inr f ↦ rw f.0 refl
  ]

  pub path_left : (k lo t n : ℕ) → 2 ^ k < n → t < 2 ^ k → path_within join leaf (suc k) lo t n ≡ path_within join leaf k lo t (2 ^ k) ++ record { side = Left; sibling = tree join leaf (lo + 2 ^ k) (n - 2 ^ k) } ∷ []
  unfolding path_within
  path_left k lo t n more left = elim (leb_tells (suc (2 ^ k)) n) [
    | inl u ↦ elim (leb_tells (suc t) (2 ^ k)) [ inl v ↦ rw (u.0, v.0) refl | inr w ↦ absurd (omega (arith, w.1, left)) ]
    | inr f ↦ absurd (omega (arith, f.1, more))
  ]

  pub path_right : (k lo t n : ℕ) → 2 ^ k < n → 2 ^ k ≤ t → path_within join leaf (suc k) lo t n ≡ path_within join leaf k (lo + 2 ^ k) (t - 2 ^ k) (n - 2 ^ k) ++ record { side = Right; sibling = tree join leaf lo (2 ^ k) } ∷ []
  unfolding path_within
  path_right k lo t n more right = elim (leb_tells (suc (2 ^ k)) n) [
    | inl u ↦ elim (leb_tells (suc t) (2 ^ k)) [ inl v ↦ absurd (omega (arith, v.1, right)) | inr w ↦ rw (u.0, w.0) refl ]
    | inr f ↦ absurd (omega (arith, f.1, more))
  ]

-- one part more above others
pub links_more : (level : ℕ) (others : List (TreeLink Node)) (other : TreeLink Node) → links_from level (others ++ other ∷ []) ≡ links_from level others ++ link_beside (level_above level others) other ∷ []
links_more level [] other = refl
links_more level (first ∷ others) other = ap (λ links. link_beside level first ∷ links) (links_more (max level first.sibling.level + 1) others other)

pub level_more : (level : ℕ) (others : List (TreeLink Node)) (other : TreeLink Node) → level_above level (others ++ other ∷ []) ≡ max (level_above level others) other.sibling.level + 1
level_more level [] other = refl
level_more level (first ∷ others) other = level_more (max level first.sibling.level + 1) others other

-- ---- as the code has them

pub leaf_is : (image : List ℕ → List ℕ) (leaves : List (List ℕ)) (k : ℕ) (x : List ℕ) → k < length leaves → x ≡ get_or leaves k x
    → ◌≡◌ {A = Node} (record { imprint = x; level = 1 }) (leaf_of_place image (map leaf_item leaves) k)
leaf_is image leaves k x within e =
    ap (λ (x : List ℕ). leaf image (leaf_item x)) e ∙ sym (ap (leaf image) (get_or-map leaf_item leaves k x no_item within))

pub join_is : (image : List ℕ → List ℕ) (left right l r : Node) (one two imprint : List ℕ) (level : ℕ) → left ≡ l → right ≡ r → one ≡ left.imprint → two ≡ right.imprint → level ≡ max left.level right.level → imprint ≡ image (join_text one two (level + 1))
    → ◌≡◌ {A = Node} (record { imprint = imprint; level = level + 1 }) (aggregation_join image l r)
join_is image left right l r one two imprint level e1 e2 e3 e4 e5 e6 =
    ap (λ (x : List ℕ). node x (level + 1)) (e6 ∙ ap (λ (x : List ℕ). image (join_text x two (level + 1))) e3 ∙ ap (λ (x : List ℕ). image (join_text left.imprint x (level + 1))) e4)
    ∙ ap (λ (n : ℕ). node (image (join_text left.imprint right.imprint (n + 1))) (n + 1)) e5
    ∙ ap (λ (x : Node). aggregation_join image x right) e1 ∙ ap (aggregation_join image l) e2
  where
    node : List ℕ → ℕ → Node
    node x n = record { imprint = x; level = n }

pub more_links : (old mid new : List PlainLink) (path : List (TreeLink Node)) (level : ℕ) (other : TreeLink Node) → mid ≡ old ++ plain_links (links_from 1 path) → level ≡ level_above 1 path → new ≡ mid ++ plain_link (link_beside level other) ∷ []
    → new ≡ old ++ plain_links (links_from 1 (path ++ other ∷ []))
more_links old mid new path level other m l n =
    n ∙ ap (λ (x : List PlainLink). x ++ plain_link (link_beside level other) ∷ []) m
    ∙ append_assoc old (plain_links (links_from 1 path)) (plain_link (link_beside level other) ∷ [])
    ∙ ap (λ (x : ℕ). old ++ (plain_links (links_from 1 path) ++ plain_link (link_beside x other) ∷ [])) l
    ∙ ap (λ (x : List PlainLink). old ++ x) (sym (ap plain_links (links_more 1 path other) ∙ map-append plain_link (links_from 1 path) (link_beside (level_above 1 path) other ∷ [])))

pub more_level : (path : List (TreeLink Node)) (level above : ℕ) (other : TreeLink Node) → level ≡ level_above 1 path → above ≡ max level other.sibling.level + 1 → above ≡ level_above 1 (path ++ other ∷ [])
more_level path level above other l a = a ∙ ap (λ (n : ℕ). max n other.sibling.level + 1) l ∙ sym (level_more 1 path other)
