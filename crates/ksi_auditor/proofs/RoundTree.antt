-- The tree of kept items as a tree for the links of an accepted signature.
use Rattle.std.proofs.Common.{◌≡◌, ℕ, ◌+◌, ◌-◌, ◌%◌, ◌<◌, ◌&&◌, Bool, true, false, List, [], ◌∷◌, ◌++◌, length, take, Ok, Err, Option, Some, None, option_map, refl, sym, ap, subst, ◌∙◌, arith, inl, inr, ◌⊎◌, append-nil, length-append}
use Rattle.std.specs.List.{AllByRecursion}
use Rattle.std.specs.Result.{result_unwrap_or}
use Rattle.std.proofs.lemmas.Bool.{eqb-true}
use Rattle.std.proofs.Math.Seq.{take-append_seam}
use Rattle.ksi_imprint.specs.Imprints.{join_text, IsImprint}
use Rattle.ksi_split.specs.declared.side.Side.{Side}
use Rattle.ksi_split.specs.declared.side.Side.TheVariants.{Left, Right}
use Rattle.ksi_split.specs.declared.fault.ShapeFault.TheVariants.{TooMany}
use Rattle.ksi_split.specs.Powers.{split_of}
use Rattle.ksi_split.specs.Parts.{half_of, part_at, second_at, second_in}
use Rattle.ksi_split.specs.Ways.{IsWay, LeadsTo, way_of}
use Rattle.ksi_aggtree.specs.declared.chains.node.Node.{Node}
use Rattle.ksi_aggtree.specs.declared.item.Item.{Item}
use Rattle.ksi_aggtree.specs.Names.{meta_of, padding}
use Rattle.ksi_aggtree.specs.Nodes.{LeadsBelow, node_of, parts_text, text_of}
use Rattle.ksi_aggtree.specs.Paths.{item_way, name_sides}
use Rattle.ksi_aggtree.specs.Rounds.{aggregation_join, item_at, leaf, leaf_of_place, named_imprint, named_text, tree_from}
use Rattle.ksi_journal.specs.Journal.{IsItem}
use Rattle.ksi_beside.specs.Beside.{rung_text}
use Rattle.ksi_beside.specs.Standing.{IsTree}
use Rattle.ksi_auditor.specs.Audit.{item_by, item_named}
use Rattle.ksi_auditor.specs.Shown.{imprint_at}
use Rattle.ksi_auditor.proofs.Cases.{eq_cases, lt_cases}
use Rattle.ksi_auditor.proofs.Cited.{Laws, RoundLaws}
use Rattle.ksi_auditor.proofs.Fitting.{is_told, is_told_link}
use Rattle.ksi_auditor.proofs.Keeping.{all_of_tree, item_imprint, item_name}
use Rattle.ksi_auditor.proofs.Parts.{part_below, part_past, part_with, whole}
use Rattle.ksi_auditor.proofs.Strings.{join_lengths, left_same, opened, right_same}

some_is : {A : Type 0} {x y : A} → ◌≡◌ {A = Option A} (Some x) (Some y) → x ≡ y
some_is e = cc

and_both : (a b : Bool) → (a && b) ≡ true → (a ≡ true) × (b ≡ true)
and_both true true e = (refl, refl)
and_both true false e = absurd cc
and_both false b e = absurd cc

-- ---- a named leaf has no string of a right link

-- a string that begins as an imprint does, and is not empty, is told by its length alone
told_begins : (sibling : List ℕ) (imprint rest more : List ℕ) → IsImprint imprint → sibling ++ more ≡ imprint ++ rest → 0 < length sibling → is_told Right sibling ≡ true → length sibling ≡ 33
told_begins [] imprint rest more is e some told = absurd (omega (arith, some))
told_begins (first ∷ sibling) [] rest more is e some told = let n = is.size in absurd cc
told_begins (first ∷ sibling) (one ∷ imprint) rest more is e some told =
    let begins : one ≡ 1 = is.algorithm in
    let same : first ≡ one = cc in
    let here : first ≡ 1 = same ∙ begins in
    eqb-true _ _ (rw here at told)

not_right : (below sibling imprint meta : List ℕ) (level l : ℕ) → IsImprint imprint → length meta % 2 ≡ 0 → 0 < length meta → length below ≡ 33 → is_told Right sibling ≡ true → join_text sibling below level ≡ join_text imprint meta l → ⊥
not_right below sibling imprint meta level l is even some size told e =
    let n = join_lengths sibling below imprint meta level l e in
    let whole = is.size in
    let same : length sibling ≡ length meta = omega (arith, n, size, whole) in
    let long = told_begins sibling imprint (meta ++ l ∷ []) (below ++ level ∷ []) is (opened sibling below imprint meta level l e) (omega (arith, same, some)) told in
    omega (arith, even, same, long)

-- ---- the tree of a round

-- the string at sides is that of a named leaf, or of two parts
record IsNamedLeaf (items : List Item) (sides : List Side) (text : List ℕ) : Type 0 where
  k : ℕ
  leads : LeadsTo (length items) sides k 1
  name : List ℕ
  named : (item_at items k).name ≡ Some name
  is : text ≡ named_text (item_at items k) name

record IsCut (image : List ℕ → List ℕ) (items : List Item) (sides : List Side) (text : List ℕ) : Type 0 where
  first : ℕ
  count : ℕ
  leads : LeadsTo (length items) sides first count
  more : 1 < count
  is : text ≡ parts_text (tree_from image items first (split_of count)) (tree_from image items (first + split_of count) (count - split_of count))

-- the item that sides lead to where no string is kept
pub record IsReached (items : List Item) (sides : List Side) (reached : List ℕ) : Type 0 where
  pub item : ℕ
  pub there : item < length items
  pub imprint : reached ≡ (item_at items item).imprint
  pub way : sides ≡ item_way items item
  pub named : item_named (length items) sides ≡ item

module _ (laws : Laws) (rounds : RoundLaws) (image : List ℕ → List ℕ) (sizes : (x : List ℕ) → length (image x) ≡ 33) (items : List Item) (each : AllByRecursion IsItem items) (last : ℕ) (len : length items ≡ last + 1) where
  some_items : 0 < length items
  some_items = omega (arith, len)

  leaf_size : (k : ℕ) → length (leaf_of_place image items k).imprint ≡ 33
  leaf_size k = of (item_at items k).name
    where
      of : (name : Option (List ℕ)) → length (named_imprint image (item_at items k) name) ≡ 33
      of None = (item_imprint items k each).size
      of (Some name) = sizes _

  tree_size : (first count : ℕ) → length (tree_from image items first count).imprint ≡ 33
  tree_size first count = all_of_tree (λ (x : Node). length x.imprint ≡ 33) (aggregation_join image) (leaf_of_place image items) (λ a b. sizes _) leaf_size first count

  text_cases : (sides : List Side) (text : List ℕ) → text_of image items sides ≡ Some text → IsNamedLeaf items sides text ⊎ IsCut image items sides text
  text_cases sides text e =
      let o = rounds.texts image items sides text e in
      elim (eq_cases o.1 1) [
        | inl one ↦ (let leads : LeadsTo (length items) sides o.0 1 = subst (LeadsTo (length items) sides o.0) one.1 o.2 in of o.0 leads (item_at items o.0).name refl)
        | inr other ↦ (let some = o.2.some in
            let not_one = other.1 in
            let more : 1 < o.1 = omega (arith, some, not_one) in
            inr (record { first = o.0; count = o.1; leads = o.2; more = more; is = some_is (sym e ∙ rounds.text image items o.0 o.1 (split_of o.1) sides o.2 ((laws.split o.1 (split_of o.1) more).1 refl)) }))
      ]
    where
      of : (k : ℕ) → LeadsTo (length items) sides k 1 → (name : Option (List ℕ)) → (item_at items k).name ≡ name → IsNamedLeaf items sides text ⊎ IsCut image items sides text
      of k leads None is = let none = sym e ∙ rounds.unnamed image items k sides leads is in absurd cc
      of k leads (Some name) is = inl (record { k = k; leads = leads; name = name; named = is; is = some_is (sym e ∙ rounds.named image items k name sides leads is) })

  hashes : (sides : List Side) (text : List ℕ) → text_of image items sides ≡ Some text → imprint_at image items sides ≡ Some (image text)
  hashes sides text e = let h = rounds.hashed image items sides text e in ap (option_map (λ (x : Node). x.imprint)) h.1 ∙ ap (λ (x : List ℕ). Some x) h.2

  -- both halves of a part of two items or more
  half_node : (sides : List Side) (side : Side) (first count : ℕ) → LeadsTo (length items) sides first count → 1 < count → node_of image items (sides ++ side ∷ []) ≡ Some (tree_from image items (half_of (part_with first count) side).first (half_of (part_with first count) side).count)
  half_node sides side first count leads more =
      let half = half_of (part_with first count) side in
      let lower : LeadsTo (length items) (sides ++ side ∷ []) half.first half.count = laws.parts (length items) (sides ++ side ∷ []) half some_items (part_below sides side (whole (length items)) (part_with first count) (rounds.only (length items) first count sides leads) more) in
      rounds.node image items last half.first half.count (sides ++ side ∷ []) len (subst (λ (n : ℕ). LeadsTo n (sides ++ side ∷ []) half.first half.count) len lower)

  item_below : (sides : List Side) (text : List ℕ) (l : IsNamedLeaf items sides text) → imprint_at image items (sides ++ Left ∷ []) ≡ Some (item_at items l.k).imprint
  item_below sides text l = ap (option_map (λ (x : Node). x.imprint)) (rounds.node_below image items l.k (sides ++ Left ∷ []) (record { name = l.name; named = l.named; front = sides; leaf = l.leads; left = refl }))

  meta_some : (name : List ℕ) → 0 < length (meta_of name)
  meta_some name = omega (arith, length-append (padding (length name)) (1 ∷ (length name + 1) ∷ (name ++ 0 ∷ [])))

  stands : (side : Side) (sides : List Side) (below sibling : List ℕ) (level : ℕ) → length below ≡ 33 → is_told side sibling ≡ true → text_of image items sides ≡ Some (rung_text (record { side = side; below = below; sibling = sibling; level = level })) → imprint_at image items (sides ++ side ∷ []) ≡ Some below
  stands Left sides below sibling level size told e = elim (text_cases sides _ e) [
    | inl l ↦ (let same = left_same below sibling (item_at items l.k).imprint (meta_of l.name) level ((item_at items l.k).level + 1) l.is (size ∙ sym (item_imprint items l.k each).size) in
        item_below sides _ l ∙ ap (λ (x : List ℕ). Some x) (sym same))
    | inr c ↦ (let same = left_same below sibling _ _ level _ c.is (size ∙ sym (tree_size c.first (split_of c.count))) in
        ap (option_map (λ (x : Node). x.imprint)) (half_node sides Left c.first c.count c.leads c.more) ∙ ap (λ (x : List ℕ). Some x) (sym same))
  ]
  stands Right sides below sibling level size told e = elim (text_cases sides _ e) [
    | inl l ↦ absurd (not_right below sibling (item_at items l.k).imprint (meta_of l.name) level ((item_at items l.k).level + 1) (item_imprint items l.k each) (rounds.even l.name (item_name items l.k l.name each l.named)) (meta_some l.name) size told l.is)
    | inr c ↦ (let same = right_same sibling below _ _ level _ c.is (size ∙ sym (tree_size (c.first + split_of c.count) (c.count - split_of c.count))) in
        ap (option_map (λ (x : Node). x.imprint)) (half_node sides Right c.first c.count c.leads c.more) ∙ ap (λ (x : List ℕ). Some x) (sym same))
  ]

  pub round_is_tree : IsTree image (text_of image items) (imprint_at image items) is_told_link
  round_is_tree = record {
    hashes = hashes;
    below = λ sides rung fits e. let both = and_both _ _ fits in stands rung.side sides rung.below rung.sibling rung.level (eqb-true _ _ both.0) both.1 e;
  }

  pub top_is : imprint_at image items [] ≡ Some (tree_from image items 0 (length items)).imprint
  top_is = ap (option_map (λ (x : Node). x.imprint)) (rounds.node image items last 0 (last + 1) [] len (laws.parts (last + 1) [] (whole (last + 1)) (omega arith) refl)) ∙ ap (λ (n : ℕ). Some (tree_from image items 0 n).imprint) (sym len)

  -- ---- where no string is kept

  leaf_at : (sides : List Side) (k : ℕ) → LeadsTo (length items) sides k 1 → second_at (length items - 1) sides ≡ Ok k
  unfolding second_at
  leaf_at sides k leads =
      let n : length items - 1 + 1 ≡ length items = omega (arith, len) in
      ap (λ (n : ℕ). second_in (part_at 0 (part_with 0 n) sides)) n ∙ ap second_in (rounds.only (length items) k 1 sides leads)

  way_at : (sides : List Side) (k : ℕ) → LeadsTo (length items) sides k 1 → (k < length items) × (sides ≡ way_of k (length items))
  way_at sides k leads =
      let named = (laws.second (length items - 1) k sides).0 (leaf_at sides k leads) in
      let n : length items - 1 + 1 ≡ length items = omega (arith, len) in
      (rounds.way k (length items) sides).0 (subst (λ (n : ℕ). IsWay k n sides) n named.way)

  passed_leaf : (front : List Side) (k : ℕ) → LeadsTo (length items) front k 1 → second_at (length items - 1) (front ++ Left ∷ []) ≡ Err (TooMany (0 + length front))
  unfolding second_at
  passed_leaf front k leads =
      let n : length items - 1 + 1 ≡ length items = omega (arith, len) in
      ap (λ (n : ℕ). second_in (part_at 0 (part_with 0 n) (front ++ Left ∷ []))) n ∙ ap second_in (part_past front Left (whole (length items)) (part_with k 1) (rounds.only (length items) k 1 front leads) refl)

  at_leaf : (sides : List Side) (reached : List ℕ) (node : Node) (first count : ℕ) → LeadsTo (length items) sides first count → node_of image items sides ≡ Some node → reached ≡ node.imprint → text_of image items sides ≡ None → IsReached items sides reached
  at_leaf sides reached node first count leads is up none = elim (lt_cases 1 count) [
    | inl more ↦ (let kept = sym none ∙ rounds.text image items first count (split_of count) sides leads ((laws.split count (split_of count) more.1).1 refl) in absurd cc)
    | inr few ↦ (let some = leads.some in let one : count ≡ 1 = omega (arith, few.1, some) in of (subst (LeadsTo (length items) sides first) one leads) (item_at items first).name refl)
  ]
    where
      of : LeadsTo (length items) sides first 1 → (name : Option (List ℕ)) → (item_at items first).name ≡ name → IsReached items sides reached
      of leads (Some name) named = let kept = sym none ∙ rounds.named image items first name sides leads named in absurd cc
      of leads None named =
          let w = way_at sides first leads in
          let there = rounds.node image items last first 1 sides len (subst (λ (n : ℕ). LeadsTo n sides first 1) len leads) ∙ ap (λ (x : Node). Some x) (rounds.one_item image items first) in
          let same : node ≡ leaf image (item_at items first) = some_is (sym is ∙ there) in
          record {
            item = first;
            there = w.0;
            imprint = up ∙ ap (λ (x : Node). x.imprint) same ∙ ap (named_imprint image (item_at items first)) named;
            way = w.1 ∙ sym (append-nil (way_of first (length items))) ∙ ap (λ (name : Option (List ℕ)). way_of first (length items) ++ name_sides name) (sym named);
            named = ap (item_by (length items) sides) (leaf_at sides first leads);
          }

  below_leaf : (sides : List Side) (reached : List ℕ) (node : Node) (k : ℕ) → LeadsBelow items sides k → node_of image items sides ≡ Some node → reached ≡ node.imprint → IsReached items sides reached
  below_leaf sides reached node k b is up =
      let w = way_at b.front k b.leaf in
      let same = some_is (sym is ∙ rounds.node_below image items k sides b) in
      let far : second_at (length items - 1) sides ≡ Err (TooMany (0 + length b.front)) = ap (second_at (length items - 1)) b.left ∙ passed_leaf b.front k b.leaf in
      let front : take (0 + length b.front) sides ≡ b.front = (let n : 0 + length b.front ≡ length b.front = omega arith in ap (λ (n : ℕ). take n sides) n ∙ ap (take (length b.front)) b.left ∙ take-append_seam b.front (Left ∷ [])) in
      record {
        item = k;
        there = w.0;
        imprint = up ∙ ap (λ (x : Node). x.imprint) same;
        way = b.left ∙ ap (λ (s : List Side). s ++ Left ∷ []) w.1 ∙ ap (λ (name : Option (List ℕ)). way_of k (length items) ++ name_sides name) (sym b.named);
        named = ap (item_by (length items) sides) far ∙ ap (λ (s : List Side). result_unwrap_or (second_at (length items - 1) s) 0) front ∙ ap (λ (r : _). result_unwrap_or r 0) (leaf_at b.front k b.leaf);
      }

  pub item_reached : (sides : List Side) (reached : List ℕ) → imprint_at image items sides ≡ Some reached → text_of image items sides ≡ None → IsReached items sides reached
  item_reached sides reached there none = of (node_of image items sides) refl there
    where
      of : (found : Option Node) → node_of image items sides ≡ found → option_map (λ (x : Node). x.imprint) found ≡ Some reached → IsReached items sides reached
      of None is e = absurd cc
      of (Some node) is e =
          let up : reached ≡ node.imprint = sym (some_is e) in
          elim (rounds.nodes image items sides node is) [
            | inl l ↦ at_leaf sides reached node l.0 l.1 l.2 is up none
            | inr b ↦ below_leaf sides reached node b.0 b.1 is up
          ]
