-- A round as its rows keep it.
use Rattle.std.proofs.Common.{◌≡◌, ℕ, zero, suc, ◌-◌, ◌<◌, ◌≤◌, List, [], ◌∷◌, ◌++◌, length, map, Option, Some, None, refl, sym, ap, ◌∙◌, arith, inl, inr, length-append}
use Rattle.std.proofs.lemmas.Bool.Decides.{leb_tells}
use Rattle.std.proofs.lemmas.List.{get_or_append_left, length-map, map-append}
use Rattle.std.proofs.Math.Seq.{get_or-append_seam}
use Rattle.std.proofs.Math.ListN.{get_or-eq_default, get_or-map}
use Rattle.ksi_split.specs.declared.side.Side.{Side}
use Rattle.ksi_split.specs.Trees.{tree, path_of, node_at}
use Rattle.ksi_split.specs.Leaves.{Leaves, leaf_at, leaf_of}
use Rattle.ksi_aggtree.specs.declared.chains.node.Node.{Node}
use Rattle.ksi_aggtree.specs.declared.item.Item.{Item}
use Rattle.ksi_aggtree.specs.Nodes.{reached_in, node_in}
use Rattle.ksi_aggtree.specs.Rounds.{capped_join, item_at, leaf, leaf_level, leaf_of_place, no_item, tree_of, root_from, root_of, tree_path, IsRound, AreLeaves}

same_functions : {A B : Type 0} (f g : A → B) → ((x : A) → f x ≡ g x) → f ≡ g
same_functions f g h = λ j x. h x j

same_leaves : (image : List ℕ → List ℕ) (items : List Item) (i : ℕ) → leaf_at 0 (leaf image no_item) (map (leaf image) items) i ≡ leaf_of_place image items i
same_leaves image items i = elim (leb_tells (suc i) 0) [
  | inl t ↦ absurd (omega arith)
  | inr w ↦ (let e : i - 0 ≡ i = omega arith in rw (w.0, e) (get_or-map (leaf image) items i no_item))
]

pub leaves_are : (image : List ℕ → List ℕ) (leaves : Leaves Node) (items : List Item) → AreLeaves image leaves items → leaf_of leaves ≡ leaf_of_place image items
leaves_are image leaves items h =
    ap (λ (n : ℕ). leaf_at n leaves.before leaves.items) h.start
    ∙ ap (λ (x : Node). leaf_at 0 x leaves.items) h.before
    ∙ ap (leaf_at 0 (leaf image no_item)) h.nodes
    ∙ same_functions (leaf_at 0 (leaf image no_item) (map (leaf image) items)) (leaf_of_place image items) (same_leaves image items)

pub leaves_count : (image : List ℕ → List ℕ) (leaves : Leaves Node) (items : List Item) → AreLeaves image leaves items → length leaves.items ≡ length items
leaves_count image leaves items h = ap length h.nodes ∙ length-map items (leaf image)

some_root : (count : ℕ) (root : Node) → 0 < count → Some root ≡ root_from count root
some_root zero root some = absurd (omega arith)
some_root (suc n) root some = refl

pub no_root : (count : ℕ) (root : Node) → count ≡ 0 → None ≡ root_from count root
no_root zero root none = refl
no_root (suc n) root none = absurd (omega arith)

pub no_node : (image : List ℕ → List ℕ) (items : List Item) (sides : List Side) (count : ℕ) → count ≡ 0 → None ≡ node_in image items (reached_in count sides)
no_node image items sides zero none = refl
no_node image items sides (suc n) none = absurd (omega arith)

module _ (image : List ℕ → List ℕ) (leaves : Leaves Node) (items : List Item) (kept : AreLeaves image leaves items) where
  pub round_root : tree (capped_join image) (leaf_of_place image items) 0 (length items) ≡ tree_of image items → (n : ℕ) → n ≡ length items → 0 < n → Some (tree (capped_join image) (leaf_of leaves) 0 n) ≡ root_of image items
  round_root same n count some =
      ap (λ (f : ℕ → Node). Some (tree (capped_join image) f 0 n)) (leaves_are image leaves items kept)
      ∙ ap (λ (m : ℕ). Some (tree (capped_join image) (leaf_of_place image items) 0 m)) count
      ∙ ap (λ (x : Node). Some x) same ∙ some_root (length items) (tree_of image items) (omega arith)

  pub round_node : (last : ℕ) (sides : List Side) (found : Option Node) → node_at (capped_join image) (leaf_of_place image items) last sides ≡ found → node_at (capped_join image) (leaf_of leaves) last sides ≡ found
  round_node last sides found same = ap (λ (f : ℕ → Node). node_at (capped_join image) f last sides) (leaves_are image leaves items kept) ∙ same

  pub round_path : (k n : ℕ) → path_of (capped_join image) (leaf_of_place image items) 0 k (length items) ≡ tree_path image items k → n ≡ length items → path_of (capped_join image) (leaf_of leaves) 0 k n ≡ tree_path image items k
  round_path k n same count =
      ap (λ (f : ℕ → Node). path_of (capped_join image) f 0 k n) (leaves_are image leaves items kept)
      ∙ ap (path_of (capped_join image) (leaf_of_place image items) 0 k) count ∙ same

-- one item more
pub leaves_more : (image : List ℕ → List ℕ) (leaves : Leaves Node) (items : List Item) (item : Item) → AreLeaves image leaves items → AreLeaves image (record leaves { items = leaves.items ++ leaf image item ∷ [] }) (items ++ item ∷ [])
leaves_more image leaves items item h = record {
  start = h.start;
  before = h.before;
  nodes = ap (λ (nodes : List Node). nodes ++ leaf image item ∷ []) h.nodes ∙ sym (map-append (leaf image) items (item ∷ []));
}

pub round_more : (items : List Item) (x : Item) → IsRound items → length items < 65536 → leaf_level x ≤ 239 → IsRound (items ++ x ∷ [])
round_more items x round room low = record {
  few = omega (arith, length-append items (x ∷ []));
  low = λ k. elim (leb_tells (suc k) (length items)) [
    | inl t ↦ (let e = ap leaf_level (get_or_append_left items (x ∷ []) no_item k (let there = t.1 in omega arith)) in omega (arith, e, round.low k))
    | inr w ↦ elim (leb_tells k (length items)) [
      | inl le ↦ (let at : k ≡ length items = (let most = le.1 in let least = w.1 in omega arith) in
          let e = ap leaf_level (ap (item_at (items ++ x ∷ [])) at ∙ get_or-append_seam items x [] no_item) in omega (arith, e))
      | inr above ↦ (let e = ap leaf_level (get_or-eq_default (items ++ x ∷ []) no_item {n = k} (let over = above.1 in omega (arith, length-append items (x ∷ [])))) in omega (arith, e))
    ]
  ];
}

pub no_round : IsRound []
no_round = record { few = omega arith; low = λ k. omega arith }
