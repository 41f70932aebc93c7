-- The nodes of a tree that sides lead to.
use Rattle.std.proofs.Common.{◌≡◌, ◌↔◌, ℕ, ◌+◌, ◌-◌, ◌^◌, ◌<◌, ◌≤◌, Bool, true, false, List, [], ◌∷◌, ◌++◌, length, Result, Ok, Err, Option, Some, None, refl, sym, ap, ◌∙◌, arith, inl, inr, length-append}
use Rattle.std.specs.Prelude.{if◌then◌else◌}
use Rattle.ksi_split.specs.declared.side.Side.{Side}
use Rattle.ksi_split.specs.declared.side.Side.TheVariants.{Left, Right}
use Rattle.ksi_split.specs.Powers.{IsSplit, split_of}
use Rattle.ksi_split.specs.Parts.{Part, half_of, part_at}
use Rattle.ksi_split.specs.Trees.{tree, node_in, node_at}
use Rattle.ksi_split.specs.Ways.{IsWay, LeadsTo}
use Rattle.ksi_aggtree.specs.declared.item.Item.{Item}
use Rattle.ksi_aggtree.specs.Nodes.{text_of}
use Rattle.ksi_calendar.specs.Climbing.{calendar_join}
use Rattle.ksi_calendar.specs.Calendar as calendars
use Rattle.ksi_auditor.proofs.Cases.{eq_cases}

-- ---- parts

abbrev pub part_with : ℕ → ℕ → Part
part_with first count = record { first = first; count = count }

-- all leaves
abbrev pub whole : ℕ → Part
whole count = part_with 0 count

pub part_goes_on : (sides more : List Side) (place : ℕ) (p q : Part) → part_at place p sides ≡ Ok q → part_at place p (sides ++ more) ≡ part_at (place + length sides) q more
part_goes_on [] more place p q e =
    let is : p ≡ q = cc in
    let here : place ≡ place + 0 = omega arith in
    ap (λ (r : Part). part_at place r more) is ∙ ap (λ (i : ℕ). part_at i q more) here
part_goes_on (side ∷ sides) more place p q e = elim (eq_cases p.count 1) [
  | inl one ↦ (let is = rw one.0 at e in absurd cc)
  | inr some ↦ (let further = rw some.0 at e in
      let next : place + 1 + length sides ≡ place + length (side ∷ sides) = omega arith in
      rw some.0 (part_goes_on sides more (place + 1) (half_of p side) q further ∙ ap (λ (i : ℕ). part_at i q more) next))
]

pub part_stops : (sides more : List Side) (place : ℕ) (p : Part) (at : ℕ) → part_at place p sides ≡ Err at → part_at place p (sides ++ more) ≡ Err at
part_stops [] more place p at e = absurd cc
part_stops (side ∷ sides) more place p at e = elim (eq_cases p.count 1) [
  | inl one ↦ (let is = rw one.0 at e in rw one.0 is)
  | inr some ↦ (let further = rw some.0 at e in rw some.0 (part_stops sides more (place + 1) (half_of p side) at further))
]

-- one side more: past a leaf, or to one of both parts
pub part_past : (sides : List Side) (side : Side) (p q : Part) → part_at 0 p sides ≡ Ok q → q.count ≡ 1 → part_at 0 p (sides ++ side ∷ []) ≡ Err (0 + length sides)
part_past sides side p q e one = part_goes_on sides (side ∷ []) 0 p q e ∙ (elim (eq_cases q.count 1) [ inl t ↦ rw t.0 refl | inr f ↦ absurd (f.1 one) ])

pub part_below : (sides : List Side) (side : Side) (p q : Part) → part_at 0 p sides ≡ Ok q → 1 < q.count → part_at 0 p (sides ++ side ∷ []) ≡ Ok (half_of q side)
part_below sides side p q e more = part_goes_on sides (side ∷ []) 0 p q e ∙ (elim (eq_cases q.count 1) [ inl t ↦ absurd (omega (arith, t.1, more)) | inr f ↦ rw f.0 refl ])

-- ---- nodes

module _ {A : Type 0} (join : A → A → A) (leaf : ℕ → A) (last : ℕ)
    (leaves : (n : ℕ) (sides : List Side) (part : Part) → 0 < n → part_at 0 (record { first = 0; count = n }) sides ≡ Ok part → LeadsTo n sides part.first part.count)
    (split : (n k : ℕ) → 1 < n → IsSplit n k ↔ (k ≡ split_of n))
    (cut : (lo n k : ℕ) → IsSplit n k → tree join leaf lo n ≡ join (tree join leaf lo k) (tree join leaf (lo + k) (n - k))) where
  abbrev pub at_part : Part → A
  at_part q = tree join leaf q.first q.count

  abbrev pub node : List Side → Option A
  node sides = node_at join leaf last sides

  pub joined : (q : Part) → 1 < q.count → at_part q ≡ join (at_part (half_of q Left)) (at_part (half_of q Right))
  joined q more = cut q.first q.count (split_of q.count) ((split q.count (split_of q.count) more).1 refl)

  pub node_is : (sides : List Side) (q : Part) → part_at 0 (whole (last + 1)) sides ≡ Ok q → node sides ≡ Some (at_part q)
  node_is sides q e = ap (node_in join leaf) e

  -- sides that lead to a node lead to a part, and it is the tree of that part
  pub node_part : (sides : List Side) (x : A) → node sides ≡ Some x → (q : Part) × (part_at 0 (whole (last + 1)) sides ≡ Ok q) × (x ≡ at_part q)
  node_part sides x e = of (part_at 0 (whole (last + 1)) sides) refl e
    where
      of : (found : Result Part ℕ) → part_at 0 (whole (last + 1)) sides ≡ found → node_in join leaf found ≡ Some x → (q : Part) × (part_at 0 (whole (last + 1)) sides ≡ Ok q) × (x ≡ at_part q)
      of (Err place) is e = absurd cc
      of (Ok q) is e = (q, is, cc)

  pub node_past : (sides : List Side) (side : Side) (q : Part) → part_at 0 (whole (last + 1)) sides ≡ Ok q → q.count ≡ 1 → node (sides ++ side ∷ []) ≡ None
  node_past sides side q e one = ap (node_in join leaf) (part_past sides side (whole (last + 1)) q e one)

  pub node_below : (sides : List Side) (side : Side) (q : Part) → part_at 0 (whole (last + 1)) sides ≡ Ok q → 1 < q.count → node (sides ++ side ∷ []) ≡ Some (at_part (half_of q side))
  node_below sides side q e more = ap (node_in join leaf) (part_below sides side (whole (last + 1)) q e more)

  pub some_leaf : (sides : List Side) (q : Part) → part_at 0 (whole (last + 1)) sides ≡ Ok q → 0 < q.count
  some_leaf sides q e = (leaves (last + 1) sides q (omega arith) e).some

  -- where both parts of a node are nodes, it is their join
  pub both_join : (sides : List Side) (left right : A) → node (sides ++ Left ∷ []) ≡ Some left → node (sides ++ Right ∷ []) ≡ Some right → node sides ≡ Some (join left right)
  both_join sides left right l r = of (part_at 0 (whole (last + 1)) sides) refl
    where
      of : (found : Result Part ℕ) → part_at 0 (whole (last + 1)) sides ≡ found → node sides ≡ Some (join left right)
      of (Err place) e = let none = sym (ap (node_in join leaf) (part_stops sides (Left ∷ []) 0 (whole (last + 1)) place e)) ∙ l in absurd cc
      of (Ok q) e = elim (eq_cases q.count 1) [
        | inl one ↦ (let none = sym (node_past sides Left q e one.1) ∙ l in absurd cc)
        | inr other ↦ (let more : 1 < q.count = omega (arith, some_leaf sides q e, other.1) in
            let left_is : at_part (half_of q Left) ≡ left = (let both = sym (node_below sides Left q e more) ∙ l in cc) in
            let right_is : at_part (half_of q Right) ≡ right = (let both = sym (node_below sides Right q e more) ∙ r in cc) in
            node_is sides q e ∙ ap (λ (x : A). Some x) (joined q more ∙ ap (λ (x : A). join x (at_part (half_of q Right))) left_is ∙ ap (join left) right_is))
      ]

-- ---- no node stands deeper than a way is long

module _ (leaves : (n : ℕ) (sides : List Side) (part : Part) → 0 < n → part_at 0 (record { first = 0; count = n }) sides ≡ Ok part → LeadsTo n sides part.first part.count)
    (short : (t n k : ℕ) (sides : List Side) → n ≤ 2 ^ k → IsWay t n sides → length sides ≤ k) where
  shallow : (n k : ℕ) (sides : List Side) (q : Part) → 0 < n → n ≤ 2 ^ k → part_at 0 (whole n) sides ≡ Ok q → length sides ≤ k
  shallow n k sides q some few e =
      let l = leaves n sides q some e in
      let count = l.some in
      let begins = (l.leaves q.first).1 (omega arith, omega (arith, count)) in
      let s = short q.first n k (sides ++ begins.0) few begins.1 in
      omega (arith, s, length-append sides begins.0)

  deep : {A : Type 0} (join : A → A → A) (leaf : ℕ → A) (last k : ℕ) (sides : List Side) → last < 2 ^ k → k < length sides → node_at join leaf last sides ≡ None
  deep join leaf last k sides few long = of (part_at 0 (whole (last + 1)) sides) refl
    where
      of : (found : Result Part ℕ) → part_at 0 (whole (last + 1)) sides ≡ found → node_in join leaf found ≡ None
      of (Err place) e = refl
      of (Ok q) e = let s = shallow (last + 1) k sides q (omega arith) (omega (arith, few)) e in absurd (omega (arith, s, long))

  pub deep_calendar : (image : List ℕ → List ℕ) (seconds : calendars.Seconds) (p : ℕ) (sides : List Side) → p < 2 ^ 63 → 63 < length sides → calendars.node_of image seconds p sides ≡ None
  deep_calendar image seconds p sides early long = of (calendars.is_covered seconds p)
    where
      of : (b : Bool) → (if b then node_at (calendar_join image) (calendars.calendar_leaf seconds) p sides else None) ≡ None
      of true = deep (calendar_join image) (calendars.calendar_leaf seconds) p 63 sides early long
      of false = refl

  pub deep_items : (texts : (image : List ℕ → List ℕ) (items : List Item) (sides : List Side) (text : List ℕ) → text_of image items sides ≡ Some text → (first : ℕ) × (count : ℕ) × LeadsTo (length items) sides first count)
      (image : List ℕ → List ℕ) (items : List Item) (sides : List Side) → length items ≤ 65536 → 16 < length sides → text_of image items sides ≡ None
  deep_items texts image items sides few long = of (text_of image items sides) refl
    where
      of : (found : Option (List ℕ)) → text_of image items sides ≡ found → found ≡ None
      of None e = refl
      of (Some text) e =
          let l = texts image items sides text e in
          let count = l.2.some in
          let begins = (l.2.leaves l.0).1 (omega arith, omega (arith, count)) in
          let s = short l.0 (length items) 16 (sides ++ begins.0) (omega (arith, few)) begins.1 in
          absurd (omega (arith, s, length-append sides begins.0, long))
