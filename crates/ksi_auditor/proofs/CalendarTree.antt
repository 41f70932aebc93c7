-- The calendar of seconds as a tree for the links of a calendar chain.
use Rattle.std.proofs.Common.{◌≡◌, ℕ, ◌+◌, ◌<◌, true, List, [], ◌∷◌, ◌++◌, length, Ok, Option, Some, None, refl, sym, ap, ◌∙◌, arith, inl, inr}
use Rattle.std.proofs.lemmas.Bool.{eqb-true}
use Rattle.ksi_split.specs.declared.side.Side.{Side}
use Rattle.ksi_split.specs.declared.side.Side.TheVariants.{Left, Right}
use Rattle.ksi_split.specs.Parts.{Part, half_of, part_at}
use Rattle.ksi_split.specs.Trees.{node_at}
use Rattle.ksi_calendar.specs.Climbing.{calendar_join, calendar_join_text}
use Rattle.ksi_calendar.specs.Calendar as calendars
use Rattle.ksi_beside.specs.Beside.{rung_text}
use Rattle.ksi_beside.specs.Standing.{IsTree}
use Rattle.ksi_auditor.specs.Kept.{calendar_text, joined_imprints}
use Rattle.ksi_auditor.proofs.Cases.{lt_cases}
use Rattle.ksi_auditor.proofs.Cited.{Laws}
use Rattle.ksi_auditor.proofs.Fitting.{above_a_node}
use Rattle.ksi_auditor.proofs.Keeping.{all_of_tree}
use Rattle.ksi_auditor.proofs.Parts.{node_part, node_below, both_join, whole}
use Rattle.ksi_auditor.proofs.Strings.{left_same, right_same}

some_is : {A : Type 0} {x y : A} → ◌≡◌ {A = Option A} (Some x) (Some y) → x ≡ y
some_is e = cc

-- both imprints that a string is joined of
joined_cases : (left right : Option (List ℕ)) (text : List ℕ) → joined_imprints left right ≡ Some text → (l : List ℕ) × (r : List ℕ) × (left ≡ Some l) × (right ≡ Some r) × (text ≡ calendar_join_text l r)
joined_cases None right text e = absurd cc
joined_cases (Some l) None text e = absurd cc
joined_cases (Some l) (Some r) text e = (l, r, refl, refl, sym (some_is e))

module _ (laws : Laws) (image : List ℕ → List ℕ) (sizes : (x : List ℕ) → length (image x) ≡ 33) (seconds : calendars.Seconds) (leaves : (t : ℕ) → length (calendars.calendar_leaf seconds t) ≡ 33) (p : ℕ) (covered : calendars.is_covered seconds p ≡ true) where
  abbrev pub tree_at : Part → List ℕ
  tree_at q = calendars.calendar_tree image seconds q.first q.count

  abbrev pub node : List Side → Option (List ℕ)
  node sides = calendars.node_of image seconds p sides

  abbrev plain : List Side → Option (List ℕ)
  plain sides = node_at (calendar_join image) (calendars.calendar_leaf seconds) p sides

  opened : (sides : List Side) → node sides ≡ plain sides
  opened sides = rw covered refl

  -- sides that lead to a node lead to a part of the seconds
  pub node_is_of : (sides : List Side) (x : List ℕ) → node sides ≡ Some x → (q : Part) × (part_at 0 (whole (p + 1)) sides ≡ Ok q) × (x ≡ tree_at q)
  node_is_of sides x e = node_part (calendar_join image) (calendars.calendar_leaf seconds) p laws.parts laws.split (laws.calendar_cut image seconds) sides x (sym (opened sides) ∙ e)

  node_size : (sides : List Side) (x : List ℕ) → node sides ≡ Some x → length x ≡ 33
  node_size sides x e =
      let n = node_is_of sides x e in
      ap length n.2 ∙ all_of_tree (λ (x : List ℕ). length x ≡ 33) (calendar_join image) (calendars.calendar_leaf seconds) (λ a b. sizes _) leaves n.0.first n.0.count

  hashes : (sides : List Side) (text : List ℕ) → calendar_text image seconds p sides ≡ Some text → node sides ≡ Some (image text)
  hashes sides text e =
      let both = joined_cases (node (sides ++ Left ∷ [])) (node (sides ++ Right ∷ [])) text e in
      let l = both.0 in
      let r = both.1 in
      opened sides
      ∙ both_join (calendar_join image) (calendars.calendar_leaf seconds) p laws.parts laws.split (laws.calendar_cut image seconds) sides l r (sym (opened (sides ++ Left ∷ [])) ∙ both.2) (sym (opened (sides ++ Right ∷ [])) ∙ both.3)
      ∙ ap (λ (x : List ℕ). Some (image x)) (sym both.4)

  stands : (side : Side) (sides : List Side) (below sibling : List ℕ) (level : ℕ) → length below ≡ 33 → calendar_text image seconds p sides ≡ Some (rung_text (record { side = side; below = below; sibling = sibling; level = level })) → node (sides ++ side ∷ []) ≡ Some below
  stands Left sides below sibling level size e =
      let both = joined_cases (node (sides ++ Left ∷ [])) (node (sides ++ Right ∷ [])) _ e in
      let same = left_same below sibling both.0 both.1 level 255 both.4 (size ∙ sym (node_size (sides ++ Left ∷ []) both.0 both.2)) in
      both.2 ∙ ap (λ (x : List ℕ). Some x) (sym same)
  stands Right sides below sibling level size e =
      let both = joined_cases (node (sides ++ Left ∷ [])) (node (sides ++ Right ∷ [])) _ e in
      let same = right_same sibling below both.0 both.1 level 255 both.4 (size ∙ sym (node_size (sides ++ Right ∷ []) both.1 both.3)) in
      both.3 ∙ ap (λ (x : List ℕ). Some x) (sym same)

  pub calendar_is_tree : IsTree image (calendar_text image seconds p) node above_a_node
  calendar_is_tree = record {
    hashes = hashes;
    below = λ sides rung fits e. stands rung.side sides rung.below rung.sibling rung.level (eqb-true _ _ fits) e;
  }

  pub calendar_top : node [] ≡ Some (calendars.calendar_root image seconds p)
  calendar_top = opened []

  -- a part without a string is one second
  pub no_string : (sides : List Side) (q : Part) → part_at 0 (whole (p + 1)) sides ≡ Ok q → 0 < q.count → calendar_text image seconds p sides ≡ None → q.count ≡ 1
  no_string sides q e some none = elim (lt_cases 1 q.count) [
    | inl more ↦ (let lower : (side : Side) → node (sides ++ side ∷ []) ≡ Some (tree_at (half_of q side)) = λ side. opened (sides ++ side ∷ []) ∙ node_below (calendar_join image) (calendars.calendar_leaf seconds) p laws.parts laws.split (laws.calendar_cut image seconds) sides side q e more.1 in
        let kept = ap (λ (o : Option (List ℕ)). joined_imprints o (node (sides ++ Right ∷ []))) (lower Left) ∙ ap (λ (o : Option (List ℕ)). joined_imprints (Some (tree_at (half_of q Left))) o) (lower Right) in
        let same = sym kept ∙ none in
        absurd cc)
    | inr few ↦ omega (arith, few.1, some)
  ]
