-- The nodes and strings that sides lead to in a round's tree.
use Rattle.std.proofs.Common.{◌≡◌, ℕ, zero, suc, ◌+◌, ◌-◌, ◌<◌, ◌≤◌, List, [], ◌∷◌, ◌++◌, ◌∙◌, ◌⊎◌, inl, inr, length, Option, Some, None, refl, sym, ap, subst, arith}
use Rattle.std.specs.Prelude.{◌↔◌}
use Rattle.std.proofs.lemmas.Bool.Decides.{eqb_tells}
use Rattle.std.proofs.lemmas.List.{append-nil, length-append}
use Rattle.ksi_split.specs.Powers.{IsSplit, split_of}
use Rattle.ksi_split.specs.Trees.{tree, node_at}
use Rattle.ksi_split.specs.Trees as trees
use Rattle.ksi_split.specs.Ways.{LeadsTo, way_of}
use Rattle.ksi_split.specs.declared.side.Side.{Side}
use Rattle.ksi_aggtree.specs.declared.chains.node.Node.{Node}
use Rattle.ksi_aggtree.specs.declared.item.Item.{Item}
use Rattle.ksi_aggtree.specs.declared.reached.Reached.{Reached}
use Rattle.ksi_aggtree.specs.declared.reached.Reached.TheVariants.{Items, Below}
use Rattle.ksi_aggtree.specs.Rounds.{IsRound, item_at, leaf, named_level, named_imprint, as_node, aggregation_join, leaf_of_place, tree_from}
use Rattle.ksi_aggtree.specs.Nodes.{reached_from, reached_in, node_in, node_below, node_of, text_in, text_of, text_from, leaf_text, parts_text, LeadsBelow}
use Rattle.ksi_aggtree.specs.Paths.{name_sides, item_way}
use Rattle.ksi_aggtree.proofs.Capped.{TreesFit, SplitsFit, node_low}
use Rattle.ksi_aggtree.proofs.Reaching.{OnlyParts, PartsLead, OneWay, OneSecond, some_leaves, leads_reached, below_leads, reached_leads, reached_left, way_leads, part_reached}

-- what laws of trees say, as these proofs take it
abbrev pub OneLeaf : Type 0
OneLeaf = (join : Node → Node → Node) (leaf : ℕ → Node) (lo : ℕ) → tree join leaf lo 1 ≡ leaf lo

abbrev pub Cut : Type 0
Cut = (join : Node → Node → Node) (leaf : ℕ → Node) (lo n k : ℕ) → IsSplit n k → tree join leaf lo n ≡ join (tree join leaf lo k) (tree join leaf (lo + k) (n - k))

abbrev pub NodesFit : Type 0
NodesFit = (join : Node → Node → Node) (leaf : ℕ → Node) (last first count : ℕ) (sides : List Side) → LeadsTo (last + 1) sides first count → node_at join leaf last sides ≡ Some (tree join leaf first count)

module _ (only : OnlyParts) (lead : PartsLead) (one_way : OneWay) (image : List ℕ → List ℕ) (items : List Item) where
  pub node_some : (first count : ℕ) (sides : List Side) → LeadsTo (length items) sides first count → node_of image items sides ≡ Some (tree_from image items first count)
  node_some first count sides leads = ap (node_in image items) (leads_reached only lead one_way (length items) first count sides leads)

  pub node_item : (k : ℕ) (sides : List Side) → LeadsBelow items sides k → node_of image items sides ≡ Some (as_node (item_at items k))
  node_item k sides leads =
      ap (λ (sides : List Side). node_of image items sides) leads.left
      ∙ ap (node_in image items) (below_leads only lead one_way (length items) k leads.front leads.leaf)
      ∙ ap (node_below (item_at items k)) leads.named

  below_named : (item : Item) (name : Option (List ℕ)) (node : Node) → node_below item name ≡ Some node → (own : List ℕ) × (name ≡ Some own)
  below_named item None node e = absurd (cc e)
  below_named item (Some name) node e = (name, refl)

  left_below : (k : ℕ) (sides : List Side) (node : Node) → reached_in (length items) sides ≡ Some (Below k) → node_of image items sides ≡ Some node → LeadsBelow items sides k
  left_below k sides node e is =
      let ends = reached_left only lead one_way (length items) k sides e in
      let named = below_named (item_at items k) (item_at items k).name node (sym (ap (node_in image items) e) ∙ is) in
      record { name = named.0; named = named.1; front = ends.0; leaf = ends.1; left = ends.2 }

  pub node_only : (sides : List Side) (node : Node) → node_of image items sides ≡ Some node
      → ((first : ℕ) × (count : ℕ) × LeadsTo (length items) sides first count) ⊎ ((k : ℕ) × LeadsBelow items sides k)
  node_only sides node is = by (reached_in (length items) sides) refl
    where
      by : (r : Option Reached) → reached_in (length items) sides ≡ r → ((first : ℕ) × (count : ℕ) × LeadsTo (length items) sides first count) ⊎ ((k : ℕ) × LeadsBelow items sides k)
      by None e = absurd (cc (sym (ap (node_in image items) e) ∙ is))
      by (Some (Items first count)) e = inl (first, count, reached_leads only lead one_way (length items) first count sides e)
      by (Some (Below k)) e = inr (k, left_below k sides node e is)

  unnamed_node : (item : Item) → item.name ≡ None → leaf image item ≡ as_node item
  unnamed_node item none = ap (λ (name : Option (List ℕ)). record { imprint = named_imprint image item name; level = named_level item.level name }) none

  pub node_way : OneSecond → OneLeaf → (k : ℕ) → k < length items → node_of image items (item_way items k) ≡ Some (as_node (item_at items k))
  node_way second one_leaf k lt = by (item_at items k).name refl
    where
      leads : LeadsTo (length items) (way_of k (length items)) k 1
      leads = way_leads only lead one_way second k (length items) lt

      by : (name : Option (List ℕ)) → (item_at items k).name ≡ name → node_of image items (item_way items k) ≡ Some (as_node (item_at items k))
      by None e =
          ap (λ (name : Option (List ℕ)). node_of image items (way_of k (length items) ++ name_sides name)) e
          ∙ ap (node_of image items) (append-nil (way_of k (length items)))
          ∙ node_some k 1 (way_of k (length items)) leads
          ∙ ap (λ (x : Node). Some x) (one_leaf (aggregation_join image) (leaf_of_place image items) k ∙ unnamed_node (item_at items k) e)
      by (Some name) e = node_item k (item_way items k) (record {
        name = name;
        named = e;
        front = way_of k (length items);
        leaf = leads;
        left = ap (λ (name : Option (List ℕ)). way_of k (length items) ++ name_sides name) e;
      })

  -- ---- strings

  pub text_some : (first count : ℕ) (sides : List Side) → LeadsTo (length items) sides first count → text_of image items sides ≡ text_from image items first count
  text_some first count sides leads = ap (text_in image items) (leads_reached only lead one_way (length items) first count sides leads)

  pub text_parts : (first count k : ℕ) → k ≡ split_of count → 1 < count
      → text_from image items first count ≡ Some (parts_text (tree_from image items first k) (tree_from image items (first + k) (count - k)))
  text_parts first count k split more = elim (eqb_tells count 1) [
    | inl t ↦ (let one = t.1 in absurd (omega arith))
    | inr f ↦ rw f.0 (ap (λ (k : ℕ). Some (parts_text (tree_from image items first k) (tree_from image items (first + k) (count - k)))) (sym split))
  ]

  pub text_only : (sides : List Side) (text : List ℕ) → text_of image items sides ≡ Some text → (first : ℕ) × (count : ℕ) × LeadsTo (length items) sides first count
  text_only sides text is = by (reached_in (length items) sides) refl
    where
      by : (r : Option Reached) → reached_in (length items) sides ≡ r → (first : ℕ) × (count : ℕ) × LeadsTo (length items) sides first count
      by None e = absurd (cc (sym (ap (text_in image items) e) ∙ is))
      by (Some (Items first count)) e = (first, count, reached_leads only lead one_way (length items) first count sides e)
      by (Some (Below k)) e = absurd (cc (sym (ap (text_in image items) e) ∙ is))

  leaf_hashed : (item : Item) (name : Option (List ℕ)) (text : List ℕ) → leaf_text item name ≡ Some text → named_imprint image item name ≡ image text
  leaf_hashed item None text e = absurd (cc e)
  leaf_hashed item (Some name) text e = ap image (cc e)

  text_hashed : SplitsFit → OneLeaf → Cut → (first count : ℕ) (text : List ℕ) → 0 < count → text_from image items first count ≡ Some text → (tree_from image items first count).imprint ≡ image text
  text_hashed splits one_leaf cut first count text some e = elim (eqb_tells count 1) [
    | inl t ↦ (let own = rw t.0 at e in
        let one = t.1 in
        ap (λ (n : ℕ). (tree_from image items first n).imprint) one
        ∙ ap (λ (x : Node). x.imprint) (one_leaf (aggregation_join image) (leaf_of_place image items) first)
        ∙ leaf_hashed (item_at items first) (item_at items first).name text own)
    | inr f ↦ (let own = rw f.0 at e in
        let ne = f.1 in
        ap (λ (x : Node). x.imprint) (cut (aggregation_join image) (leaf_of_place image items) first count (split_of count) (splits count (omega arith)))
        ∙ ap image (cc own))
  ]

  pub text_node : SplitsFit → OneLeaf → Cut → (sides : List Side) (text : List ℕ) → text_of image items sides ≡ Some text → (node : Node) × (node_of image items sides ≡ Some node) × (node.imprint ≡ image text)
  text_node splits one_leaf cut sides text is =
      let part = text_only sides text is in
      let leads = part.2 in (
        tree_from image items part.0 part.1,
        node_some part.0 part.1 sides leads,
        text_hashed splits one_leaf cut part.0 part.1 text leads.some (sym (text_some part.0 part.1 sides leads) ∙ is),
      )

  -- ---- levels

  low_below : (item : Item) (name : Option (List ℕ)) (node : Node) → named_level item.level name ≤ 239 → node_below item name ≡ Some node → node.level ≤ 255
  low_below item None node low e = absurd (cc e)
  low_below item (Some name) node low e = let same : as_node item ≡ node = cc e in subst (λ (x : Node). x.level ≤ 255) same (omega (arith, low))

  pub node_level : TreesFit → SplitsFit → NodesFit → (sides : List Side) (node : Node) → IsRound items → node_of image items sides ≡ Some node → node.level ≤ 255
  node_level fits splits nodes sides node round is = by (reached_in (length items) sides) refl
    where
      by : (r : Option Reached) → reached_in (length items) sides ≡ r → node.level ≤ 255
      by None e = absurd (cc (sym (ap (node_in image items) e) ∙ is))
      by (Some (Items first count)) e =
          let leads = reached_leads only lead one_way (length items) first count sides e in
          let same : length items ≡ length items - 1 + 1 = (let some = some_leaves only lead one_way (length items) first count sides leads in omega (arith, some)) in
          node_low image fits (leaf_of_place image items) round.low splits (length items - 1) sides node (let few = round.few in omega (arith, few))
          (nodes (aggregation_join image) (leaf_of_place image items) (length items - 1) first count sides (subst (λ (n : ℕ). LeadsTo n sides first count) same leads) ∙ sym (ap (node_in image items) e) ∙ is)
      by (Some (Below k)) e = low_below (item_at items k) (item_at items k).name node (round.low k) (sym (ap (node_in image items) e) ∙ is)

-- ---- nodes that are kept or lent

some_reached : (n : ℕ) (sides : List Side) → 0 < n → reached_in n sides ≡ reached_from (record { first = 0; count = n }) sides
some_reached zero sides some = absurd (omega arith)
some_reached (suc last) sides some = refl

-- where sides lead to a part, the node that is kept there is that of the round
pub node_kept : (image : List ℕ → List ℕ) (items : List Item) (n last first count : ℕ) (sides : List Side) → n ≡ length items → n ≡ last + 1
    → reached_from (record { first = 0; count = n }) sides ≡ Some (Items first count)
    → node_at (aggregation_join image) (leaf_of_place image items) last sides ≡ node_of image items sides
node_kept image items n last first count sides all more is =
    let whole = subst (λ (n : ℕ). reached_from (record { first = 0; count = n }) sides ≡ Some (Items first count)) more is in
    let own = subst (λ (n : ℕ). reached_from (record { first = 0; count = n }) sides ≡ Some (Items first count)) all is in
    ap (trees.node_in (aggregation_join image) (leaf_of_place image items)) (part_reached 0 (record { first = 0; count = last + 1 }) first count sides whole)
    ∙ sym (ap (node_in image items) (some_reached (length items) sides (omega (arith, all, more)) ∙ own))

-- what the laws say of these items and sides
pub record Told (image : List ℕ → List ℕ) (items : List Item) (sides : List Side) : Type 0 where
  pub some : (first count : ℕ) → LeadsTo (length items) sides first count → node_of image items sides ≡ Some (tree_from image items first count)
  pub item : (k : ℕ) → LeadsBelow items sides k → node_of image items sides ≡ Some (as_node (item_at items k))
  pub only : (node : Node) → node_of image items sides ≡ Some node
      → ((first : ℕ) × (count : ℕ) × LeadsTo (length items) sides first count) ⊎ ((k : ℕ) × LeadsBelow items sides k)

-- no node is where sides lead neither to a part nor below a leaf
pub none_exactly : (image : List ℕ → List ℕ) (items : List Item) (sides : List Side) → Told image items sides → (r : Option Node) → r ≡ node_of image items sides
    → (r ≡ None) ↔ (¬ ((first : ℕ) × (count : ℕ) × LeadsTo (length items) sides first count) × ¬ ((k : ℕ) × LeadsBelow items sides k))
none_exactly image items sides told r is = (
  λ none. (
    λ found. absurd (cc (told.some found.0 found.1 found.2, is, none)),
    λ found. absurd (cc (told.item found.0 found.1, is, none)),
  ),
  λ neither. by r refl neither,
)
  where
    by : (x : Option Node) → r ≡ x → ¬ ((first : ℕ) × (count : ℕ) × LeadsTo (length items) sides first count) × ¬ ((k : ℕ) × LeadsBelow items sides k) → x ≡ None
    by None e neither = refl
    by (Some node) e neither = elim (told.only node (sym is ∙ e)) [
      | inl part ↦ absurd (neither.0 part)
      | inr item ↦ absurd (neither.1 item)
    ]

-- the items of a lent tree are one more than the others
pub count_of : (others : List Item) (last : Item) (items : List Item) → others ++ last ∷ [] ≡ items → length items ≡ length others + 1
count_of others last items view = ap length (sym view) ∙ length-append others (last ∷ [])
