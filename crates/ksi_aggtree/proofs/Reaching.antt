-- What sides lead to, beside the parts of a tree that they lead to.
use Rattle.std.proofs.Common.{◌≡◌, ℕ, zero, suc, ◌+◌, ◌-◌, ◌<◌, List, [], ◌∷◌, ◌++◌, Option, Some, Result, Ok, Err, refl, ap, subst, ◌∙◌, arith, inl, inr}
use Rattle.std.specs.Prelude.{◌↔◌}
use Rattle.std.proofs.lemmas.Bool.Decides.{eqb_tells}
use Rattle.ksi_split.specs.declared.side.Side.{Side}
use Rattle.ksi_split.specs.declared.side.Side.TheVariants.{Left, Right}
use Rattle.ksi_split.specs.Parts.{Part, half_of, part_at, second_in, second_at}
use Rattle.ksi_split.specs.Ways.{IsWay, NamesSecond, LeadsTo, way_of}
use Rattle.ksi_aggtree.specs.declared.reached.Reached.{Reached}
use Rattle.ksi_aggtree.specs.declared.reached.Reached.TheVariants.{Items, Below}
use Rattle.ksi_aggtree.specs.Nodes.{below_leaf, reached_from, reached_in}

-- what laws of parts and ways say, as these proofs take it
abbrev pub OnlyParts : Type 0
OnlyParts = (n first count : ℕ) (sides : List Side) → LeadsTo n sides first count → part_at 0 (record { first = 0; count = n }) sides ≡ Ok (record { first = first; count = count })

abbrev pub PartsLead : Type 0
PartsLead = (n : ℕ) (sides : List Side) (part : Part) → 0 < n → part_at 0 (record { first = 0; count = n }) sides ≡ Ok part → LeadsTo n sides part.first part.count

abbrev pub OneWay : Type 0
OneWay = (t n : ℕ) (sides : List Side) → IsWay t n sides ↔ ((t < n) × (sides ≡ way_of t n))

abbrev pub OneSecond : Type 0
OneSecond = (p t : ℕ) (sides : List Side) → (second_at p sides ≡ Ok t) ↔ NamesSecond p sides t

abbrev items_at : Part → Option Reached
items_at part = Some (Items part.first part.count)

abbrev found : ℕ → ℕ → Result Part ℕ
found first count = Ok (record { first = first; count = count })

same_part : (part : Part) (first count : ℕ) → part.first ≡ first → part.count ≡ count → Ok part ≡ found first count
same_part part first count f n = ap (λ (first : ℕ). found first part.count) f ∙ ap (λ (count : ℕ). found first count) n

-- ---- a part

reached_part : (place : ℕ) (part p : Part) (sides : List Side) → part_at place part sides ≡ Ok p → reached_from part sides ≡ Some (Items p.first p.count)
reached_part place part p [] e = let same : part ≡ p = cc e in ap items_at same
reached_part place part p (side ∷ sides) e = elim (eqb_tells part.count 1) [
  | inl t ↦ (let no = rw t.0 at e in absurd (cc no))
  | inr f ↦ (let on = rw f.0 at e in rw f.0 (reached_part (place + 1) (half_of part side) p sides on))
]

not_items : (k first count : ℕ) (side : Side) (sides : List Side) → below_leaf k side sides ≡ Some (Items first count) → ⊥
not_items k first count Left [] e = absurd (cc e)
not_items k first count Left (side ∷ sides) e = absurd (cc e)
not_items k first count Right sides e = absurd (cc e)

pub part_reached : (place : ℕ) (part : Part) (first count : ℕ) (sides : List Side) → reached_from part sides ≡ Some (Items first count) → part_at place part sides ≡ Ok (record { first = first; count = count })
part_reached place part first count [] e = let f : part.first ≡ first = cc e in let n : part.count ≡ count = cc e in same_part part first count f n
part_reached place part first count (side ∷ sides) e = elim (eqb_tells part.count 1) [
  | inl t ↦ (let no = rw t.0 at e in absurd (not_items part.first first count side sides no))
  | inr f ↦ (let on = rw f.0 at e in rw f.0 (part_reached (place + 1) (half_of part side) first count sides on))
]

-- ---- below a leaf

-- the sides lead to one leaf, and then to the left
record EndsBelow (place : ℕ) (part : Part) (k : ℕ) (sides : List Side) : Type 0 where
  front : List Side
  leaf : part_at place part front ≡ Ok (record { first = k; count = 1 })
  left : sides ≡ front ++ Left ∷ []

leaf_below : (place : ℕ) (part : Part) (k : ℕ) (side : Side) (sides : List Side) → part.count ≡ 1 → below_leaf part.first side sides ≡ Some (Below k) → EndsBelow place part k (side ∷ sides)
leaf_below place part k Left [] one e = record { front = []; leaf = (let f : part.first ≡ k = cc e in same_part part k 1 f one); left = refl }
leaf_below place part k Left (side ∷ sides) one e = absurd (cc e)
leaf_below place part k Right sides one e = absurd (cc e)

below_reached : (place : ℕ) (part : Part) (k : ℕ) (sides : List Side) → reached_from part sides ≡ Some (Below k) → EndsBelow place part k sides
below_reached place part k [] e = absurd (cc e)
below_reached place part k (side ∷ sides) e = elim (eqb_tells part.count 1) [
  | inl t ↦ (let end = rw t.0 at e in leaf_below place part k side sides t.1 end)
  | inr f ↦ (let on = rw f.0 at e in let more = below_reached (place + 1) (half_of part side) k sides on in
      record { front = side ∷ more.front; leaf = rw f.0 more.leaf; left = ap (λ (sides : List Side). side ∷ sides) more.left })
]

reached_below : (place : ℕ) (part : Part) (k : ℕ) (front : List Side) → part_at place part front ≡ Ok (record { first = k; count = 1 }) → reached_from part (front ++ Left ∷ []) ≡ Some (Below k)
reached_below place part k [] e =
    let f : part.first ≡ k = cc e in let n : part.count ≡ 1 = cc e in
    rw n (ap (λ (k : ℕ). Some (Below k)) f)
reached_below place part k (side ∷ front) e = elim (eqb_tells part.count 1) [
  | inl t ↦ (let no = rw t.0 at e in absurd (cc no))
  | inr f ↦ (let on = rw f.0 at e in rw f.0 (reached_below (place + 1) (half_of part side) k front on))
]

-- ---- in the terms of ways

module _ (only : OnlyParts) (lead : PartsLead) (one_way : OneWay) where
  pub some_leaves : (n first count : ℕ) (sides : List Side) → LeadsTo n sides first count → 0 < n
  some_leaves n first count sides leads =
      let way = (leads.leaves first).1 (omega arith, let some = leads.some in omega arith) in
      let there = ((one_way first n (sides ++ way.0)).0 way.1).0 in omega (arith, there)

  pub leads_reached : (n first count : ℕ) (sides : List Side) → LeadsTo n sides first count → reached_in n sides ≡ Some (Items first count)
  leads_reached zero first count sides leads = let some = some_leaves zero first count sides leads in absurd (omega (arith, some))
  leads_reached (suc last) first count sides leads = reached_part 0 (record { first = 0; count = suc last }) (record { first = first; count = count }) sides (only (suc last) first count sides leads)

  pub below_leads : (n k : ℕ) (front : List Side) → LeadsTo n front k 1 → reached_in n (front ++ Left ∷ []) ≡ Some (Below k)
  below_leads zero k front leads = let some = some_leaves zero k 1 front leads in absurd (omega (arith, some))
  below_leads (suc last) k front leads = reached_below 0 (record { first = 0; count = suc last }) k front (only (suc last) k 1 front leads)

  pub reached_leads : (n first count : ℕ) (sides : List Side) → reached_in n sides ≡ Some (Items first count) → LeadsTo n sides first count
  reached_leads zero first count sides e = absurd (cc e)
  reached_leads (suc last) first count sides e = lead (suc last) sides (record { first = first; count = count }) (omega arith) (part_reached 0 (record { first = 0; count = suc last }) first count sides e)

  pub reached_left : (n k : ℕ) (sides : List Side) → reached_in n sides ≡ Some (Below k) → (front : List Side) × LeadsTo n front k 1 × (sides ≡ front ++ Left ∷ [])
  reached_left zero k sides e = absurd (cc e)
  reached_left (suc last) k sides e =
      let ends = below_reached 0 (record { first = 0; count = suc last }) k sides e in
      (ends.front, lead (suc last) ends.front (record { first = k; count = 1 }) (omega arith) ends.leaf, ends.left)

  -- the part of one leaf that a way leads to
  one_of : (t : ℕ) (r : Result Part ℕ) → second_in r ≡ Ok t → r ≡ Ok (record { first = t; count = 1 })
  one_of t (Err place) e = absurd (cc e)
  one_of t (Ok part) e = elim (eqb_tells part.count 1) [
    | inl one ↦ (let first : part.first ≡ t = (let at = rw one.0 at e in cc at) in same_part part t 1 first one.1)
    | inr more ↦ (let no = rw more.0 at e in absurd (cc no))
  ]

  way_leads_to : OneSecond → (t p : ℕ) → t < p + 1 → LeadsTo (p + 1) (way_of t (p + 1)) t 1
  unfolding second_at
  way_leads_to second t p lt =
      let way : IsWay t (p + 1) (way_of t (p + 1)) = (one_way t (p + 1) (way_of t (p + 1))).1 (lt, refl) in
      let names : NamesSecond p (way_of t (p + 1)) t = record { within = omega arith; way = way } in
      let named = (second p t (way_of t (p + 1))).1 names in
      lead (p + 1) (way_of t (p + 1)) (record { first = t; count = 1 }) (omega arith) (one_of t (part_at 0 (record { first = 0; count = p + 1 }) (way_of t (p + 1))) named)

  pub way_leads : OneSecond → (t n : ℕ) → t < n → LeadsTo n (way_of t n) t 1
  way_leads second t n lt =
      let e : n - 1 + 1 ≡ n = omega arith in
      subst (λ (n : ℕ). LeadsTo n (way_of t n) t 1) e (way_leads_to second t (n - 1) (omega arith))
