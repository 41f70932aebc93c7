-- What the walk comes to is what the definition says.
use Rattle.std.proofs.Common.{◌≡◌, ◌≢◌, ℕ, suc, ◌-◌, ◌<◌, ◌≤◌, List, [], ◌∷◌, ◌++◌, map, take, length, Option, Some, None, refl, sym, ap, subst, ◌∙◌, arith, inl, inr}
use Rattle.std.proofs.lemmas.List.{length-map, length-take-le}
use Rattle.ksi_imprint.specs.declared.clash.Clash.{Clash}
use Rattle.ksi_split.specs.declared.side.Side.{Side}
use Rattle.ksi_aggtree.specs.Links.{PlainLink}
use Rattle.ksi_aggtree.specs.declared.item.Item.{Item}
use Rattle.ksi_aggtree.specs.Nodes.{text_of}
use Rattle.ksi_beside.specs.Beside.{Rung, rung_side, rungs_from, Pair, pairs_below, pair_before, differing, ended, laid_from, IsApart, clash_in}
use Rattle.ksi_beside.specs.declared.walk.Walk.{Walk}
use Rattle.ksi_beside.specs.declared.walk.Walk.TheVariants.{Apart, At, Past}
use Rattle.ksi_verifier.specs.Chains.{at_level_zero}
use Rattle.ksi_auditor.specs.Audit.{sides_of, item_pairs, item_named, ends, found, compared}
use Rattle.ksi_auditor.specs.Shown.{HasClash}
use Rattle.ksi_auditor.specs.declared.answer.Audit.TheVariants as answers
use Rattle.ksi_auditor.proofs.Cases.{eq_cases, same_cases}
use Rattle.ksi_auditor.proofs.Rungs.{aggregation_sides, rungs_count}

abbrev pub pair_of : Clash → Pair
pair_of clash = (clash.one, clash.two)

-- ---- how links ended

module _ (above : List Side) (rungs : List Rung) (passed : ℕ) where
  ended_apart : (d : Option Pair) (clash : Clash) → Apart clash ≡ ended above rungs passed d → d ≡ Some (pair_of clash)
  ended_apart (Some pair) clash e = let is : clash ≡ record { one = pair.0; two = pair.1 } = cc in ap (λ (c : Clash). Some (pair_of c)) (sym is)
  ended_apart None clash e = elim (eq_cases passed (length rungs)) [
    | inl same ↦ (let at = rw same.0 at e in absurd cc)
    | inr other ↦ (let past = rw other.0 at e in absurd cc)
  ]

  ended_at : (d : Option Pair) (sides : List Side) → At sides ≡ ended above rungs passed d → (d ≡ None) × (passed ≡ length rungs) × (sides ≡ above ++ map rung_side rungs)
  ended_at (Some pair) sides e = absurd cc
  ended_at None sides e = elim (eq_cases passed (length rungs)) [
    | inl same ↦ (let at = rw same.0 at e in let is : sides ≡ above ++ map rung_side rungs = cc in (refl, same.1, is))
    | inr other ↦ (let past = rw other.0 at e in absurd cc)
  ]

  ended_past : (d : Option Pair) (sides : List Side) → Past sides ≡ ended above rungs passed d → (d ≡ None) × (passed ≢ length rungs) × (sides ≡ above ++ take passed (map rung_side rungs))
  ended_past (Some pair) sides e = absurd cc
  ended_past None sides e = elim (eq_cases passed (length rungs)) [
    | inl same ↦ (let at = rw same.0 at e in absurd cc)
    | inr other ↦ (let past = rw other.0 at e in let is : sides ≡ above ++ take passed (map rung_side rungs) = cc in (refl, other.1, is))
  ]

  pub apart_differs : (d : Option Pair) → IsApart (ended above rungs passed d) → (pair : Pair) × (d ≡ Some pair)
  apart_differs (Some pair) h = (pair, refl)
  apart_differs None h = elim (eq_cases passed (length rungs)) [
    | inl same ↦ (let at = rw same.0 at h in absurd at)
    | inr other ↦ (let past = rw other.0 at h in absurd past)
  ]

  pub none_differs : (d : Option Pair) → None ≡ clash_in (ended above rungs passed d) → d ≡ None
  none_differs (Some pair) e = absurd cc
  none_differs None e = refl

  apart_some : (walk : Walk) (clash : Clash) → Some clash ≡ clash_in walk → Apart clash ≡ walk
  apart_some (Apart other) clash e = let is : clash ≡ other = cc in ap Apart is
  apart_some (At sides) clash e = absurd cc
  apart_some (Past sides) clash e = absurd cc

  pub some_differs : (d : Option Pair) (clash : Clash) → Some clash ≡ clash_in (ended above rungs passed d) → d ≡ Some (pair_of clash)
  some_differs d clash e = ended_apart d clash (apart_some (ended above rungs passed d) clash e)

-- so many links have a string beside them
pairs_few : (text : List Side → Option (List ℕ)) (sides : List Side) (rungs : List Rung) → length (pairs_below text sides rungs) ≤ length rungs
pairs_few text sides [] = omega arith
pairs_few text sides (rung ∷ rungs) = of (text sides) (pairs_few text (sides ++ rung.side ∷ []) rungs)
  where
    of : (o : Option (List ℕ)) → length (pairs_below text (sides ++ rung.side ∷ []) rungs) ≤ length rungs → length (pair_before o rung (pairs_below text (sides ++ rung.side ∷ []) rungs)) ≤ suc (length rungs)
    of None few = omega arith
    of (Some kept) few = omega (arith, few)

-- ---- pairs of two trees, one list after the other

differing_first : (pairs more : List Pair) (pair : Pair) → differing pairs ≡ Some pair → differing (pairs ++ more) ≡ Some pair
differing_first [] more pair e = absurd cc
differing_first (here ∷ pairs) more pair e = elim (same_cases here.0 here.1) [
  | inl same ↦ (let further = rw same.0 at e in rw same.0 (differing_first pairs more pair further))
  | inr other ↦ (let is = rw other.0 at e in rw other.0 is)
]

differing_then : (pairs more : List Pair) → differing pairs ≡ None → differing (pairs ++ more) ≡ differing more
differing_then [] more e = refl
differing_then (here ∷ pairs) more e = elim (same_cases here.0 here.1) [
  | inl same ↦ (let further = rw same.0 at e in rw same.0 (differing_then pairs more further))
  | inr other ↦ (let is = rw other.0 at e in absurd cc)
]

-- ---- the answers of the code

module _ (image : List ℕ → List ℕ) (items : List Item) (links : List PlainLink) (hash : List ℕ) (t : ℕ) where
  abbrev rungs : List Rung
  rungs = rungs_from image (at_level_zero hash) links

  abbrev passed : ℕ
  passed = length (item_pairs image items links hash)

  abbrev walked : Walk
  walked = laid_from (text_of image items) [] rungs

  pub first_above : (above : List Pair) (clash : Clash) → differing above ≡ Some (pair_of clash) → answers.Clash clash ≡ compared image items links hash t above
  first_above above clash e = ap (found t (length items) (sides_of links) passed) (sym (differing_first above (item_pairs image items links hash) (pair_of clash) e))

  pub none_above : (above : List Pair) → differing above ≡ None → compared image items links hash t [] ≡ compared image items links hash t above
  none_above above e = ap (found t (length items) (sides_of links) passed) (sym (differing_then above (item_pairs image items links hash) e))

  -- ---- a clash for which memory may be wanting

  pub clash_first : (above : List Pair) (pair : Pair) → differing above ≡ Some pair → HasClash (compared image items links hash t above)
  clash_first above pair e = subst (λ (d : Option Pair). HasClash (found t (length items) (sides_of links) passed d)) (sym (differing_first above (item_pairs image items links hash) pair e)) tt

  pub apart_below : IsApart walked → HasClash (compared image items links hash t [])
  apart_below h =
      let differs = apart_differs [] rungs passed (differing (item_pairs image items links hash)) h in
      subst (λ (d : Option Pair). HasClash (found t (length items) (sides_of links) passed d)) (sym differs.1) tt

  -- ---- the others

  module _ (walk : Walk) (went : walk ≡ walked) where
    pub clash_below : (clash : Clash) → walk ≡ Apart clash → answers.Clash clash ≡ compared image items links hash t []
    clash_below clash is = ap (found t (length items) (sides_of links) passed) (sym (ended_apart [] rungs passed (differing (item_pairs image items links hash)) clash (sym is ∙ went)))

    sides_length : length (sides_of links) ≡ length rungs
    sides_length = ap length (sym (aggregation_sides image (at_level_zero hash) links)) ∙ length-map rungs rung_side

    pub inside_at : (place : List Side) → walk ≡ At place → answers.Inside t place ≡ compared image items links hash t []
    inside_at place is =
        let all = ended_at [] rungs passed (differing (item_pairs image items links hash)) place (sym is ∙ went) in
        let count : passed ≡ length (sides_of links) = all.1 ∙ sym sides_length in
        ap (answers.Inside t) (all.2 ∙ aggregation_sides image (at_level_zero hash) links)
        ∙ (elim (eq_cases passed (length (sides_of links))) as (λ z. answers.Inside t (sides_of links) ≡ ends t (length items) (sides_of links) passed) [ inl same ↦ rw same.0 refl | inr other ↦ absurd (other.1 count) ])
        ∙ ap (found t (length items) (sides_of links) passed) (sym all.0)

    pub beneath_at : (place : List Side) (count : ℕ) → walk ≡ Past place → count ≡ length links → (length place ≤ count) × (answers.Beneath t (item_named (length items) place) (count - length place) ≡ compared image items links hash t [])
    beneath_at place count is n =
        let all = ended_past [] rungs passed (differing (item_pairs image items links hash)) place (sym is ∙ went) in
        let few = pairs_few (text_of image items) [] rungs in
        let other = all.1 in
        let fewer : passed < length rungs = omega (arith, few, other) in
        let sides = sides_length in
        let same = rungs_count image (at_level_zero hash) links in
        let here : place ≡ take passed (sides_of links) = all.2 ∙ ap (take passed) (aggregation_sides image (at_level_zero hash) links) in
        let depth : length place ≡ passed = ap length here ∙ length-take-le passed (sides_of links) (omega (arith, fewer, sides)) in
        let left : count - length place ≡ length (sides_of links) - passed = omega (arith, n, same, sides, depth) in (
          omega (arith, depth, fewer, same, n),
          ap (answers.Beneath t (item_named (length items) place)) left
              ∙ ap (λ (s : List Side). answers.Beneath t (item_named (length items) s) (length (sides_of links) - passed)) here
              ∙ (elim (eq_cases passed (length (sides_of links))) as (λ z. answers.Beneath t (item_named (length items) (take passed (sides_of links))) (length (sides_of links) - passed) ≡ ends t (length items) (sides_of links) passed) [
                | inl equal ↦ absurd (omega (arith, equal.1, fewer, sides))
                | inr other ↦ rw other.0 refl
              ])
              ∙ ap (found t (length items) (sides_of links) passed) (sym all.0),
        )
