-- The uppermost sides of a chain, and what they tell.
use Rattle.std.proofs.Common.{◌≡◌, ℕ, ◌+◌, ◌-◌, ◌^◌, ◌<◌, ◌≤◌, ◌↔◌, List, [], ◌∷◌, ◌++◌, length, take, drop, set, get_or, map, min, Result, Ok, Err, sym, ap, ◌∙◌, subst, arith, inl, inr}
use Rattle.std.proofs.Common.{length-append}
use Rattle.std.proofs.Math.ListN.{get_or-map}
use Rattle.std.proofs.Math.Seq.{take-length}
use Rattle.std.proofs.lemmas.Bool.{cases_lt}
use Rattle.std.proofs.lemmas.List.{length-map, length-reverse, length-take-le, get_or-reverse, take_more, take_more_set, take-append-drop, take-append-le}
use Rattle.ksi_split.specs.declared.side.Side.{Side}
use Rattle.ksi_split.specs.declared.tree_link.TreeLink.{TreeLink}
use Rattle.ksi_split.specs.declared.fault.ShapeFault.{ShapeFault}
use Rattle.ksi_split.specs.declared.fault.ShapeFault.TheVariants.{TooMany, TooFew}
use Rattle.ksi_split.specs.Ways.{IsWay, NamesSecond, PassesLeaf, EndsAbove}
use Rattle.ksi_split.specs.Parts.{second_at}
use Rattle.ksi_calendar.specs.Sides.{sides_from_top}

side_of : TreeLink (List ℕ) → Side
side_of link = link.side

pub count_sides : (links : List (TreeLink (List ℕ))) → length (sides_from_top links) ≡ length links
count_sides links = length-reverse (map (λ (link : TreeLink (List ℕ)). link.side) links) ∙ length-map links (λ (link : TreeLink (List ℕ)). link.side)

module _ (links : List (TreeLink (List ℕ))) (place : ℕ) (other : TreeLink (List ℕ)) (lt : place < length links) where
  -- the side of the link that stands so far from the top
  side_at : get_or (sides_from_top links) place other.side ≡ (get_or links (length links - 1 - place) other).side
  side_at =
      let f = λ (link : TreeLink (List ℕ)). link.side in
      let count = length-map links f in
      let within : place < length (map f links) = omega (arith, count) in
      get_or-reverse (map f links) place other.side within
      ∙ ap (λ (n : ℕ). get_or (map f links) (n - 1 - place) other.side) count
      ∙ get_or-map f links (length links - 1 - place) other

  pub next_side : (sides : List Side) → place < length sides → take place sides ≡ take place (sides_from_top links)
      → take (place + 1) (set sides place (get_or links (length links - 1 - place) other).side) ≡ take (place + 1) (sides_from_top links)
  next_side sides room so_far =
      let within : place < length (sides_from_top links) = omega (arith, count_sides links) in
      take_more_set sides place (get_or links (length links - 1 - place) other).side room
      ∙ ap (λ (xs : List Side). xs ++ (get_or links (length links - 1 - place) other).side ∷ []) so_far
      ∙ ap (λ (s : Side). take place (sides_from_top links) ++ s ∷ []) (sym side_at)
      ∙ sym (take_more (sides_from_top links) place other.side within)

take_less : (n m : ℕ) (sides : List Side) → n ≤ m → m ≤ length sides → take n (take m sides) ≡ take n sides
take_less n m sides le within =
    let few : n ≤ length (take m sides) = omega (arith, length-take-le m sides within) in
    sym (take-append-le n (take m sides) (drop m sides) few) ∙ ap (λ (xs : List Side). take n xs) (take-append-drop m sides)

-- by the laws of ways, the uppermost 65 sides tell what all of them do
module _ (p : ℕ) (sides : List Side) (small : p < 2 ^ 64) (long : 65 ≤ length sides)
    (short : (t n k : ℕ) (s : List Side) → n ≤ 2 ^ k → IsWay t n s → length s ≤ k)
    (goes_on : (p rest : ℕ) (s : List Side) → EndsAbove p s rest → (t : ℕ) × (side : Side) × (more : List Side) × IsWay t (p + 1) (s ++ side ∷ more))
    (second : (p t : ℕ) (s : List Side) → (second_at p s ≡ Ok t) ↔ NamesSecond p s t)
    (many : (p place : ℕ) (s : List Side) → (second_at p s ≡ Err (TooMany place)) ↔ PassesLeaf p s place)
    (few : (p rest : ℕ) (s : List Side) → (second_at p s ≡ Err (TooFew rest)) ↔ EndsAbove p s rest) where
  pub told : (r : Result ℕ ShapeFault) → second_at p (take 65 sides) ≡ r → second_at p (take 65 sides) ≡ second_at p sides
  told (Ok t) e =
      let way = ((second p t (take 65 sides)).0 e).way in
      absurd (omega (arith, short t (p + 1) 64 (take 65 sides) (omega arith) way, length-take-le 65 sides long))
  told (Err (TooFew rest)) e =
      let on = goes_on p rest (take 65 sides) ((few p rest (take 65 sides)).0 e) in
      absurd (omega (arith, short on.0 (p + 1) 64 (take 65 sides ++ on.1 ∷ on.2) (omega arith) on.3, length-append (take 65 sides) (on.1 ∷ on.2), length-take-le 65 sides long))
  told (Err (TooMany place)) e =
      let h = (many p place (take 65 sides)).0 e in
      let within = h.more in
      let count = length-take-le 65 sides long in
      let same : take place (take 65 sides) ≡ take place sides = take_less place 65 sides (omega arith) long in
      let all : PassesLeaf p sides place = record { more = omega arith; second = h.second; reached = subst (λ (xs : List Side). NamesSecond p xs h.second) same h.reached } in
      e ∙ sym ((many p place sides).1 all)

-- the uppermost sides of as many as there are, and of 65 at most
pub uppermost_is : (p count : ℕ) (sides : List Side) → count ≡ min (length sides) 65 → (65 ≤ length sides → second_at p (take 65 sides) ≡ second_at p sides)
    → second_at p (take count sides) ≡ second_at p sides
uppermost_is p count sides is tell = elim (cases_lt (length sides) 65) [
  | inl few ↦ (let all : count ≡ length sides = omega arith in ap (λ (n : ℕ). second_at p (take n sides)) all ∙ ap (second_at p) (take-length sides))
  | inr long ↦ (let all : count ≡ 65 = omega arith in ap (λ (n : ℕ). second_at p (take n sides)) all ∙ tell long)
]

-- an answer that is the value of the sides
pub along : (r s x : Result ℕ ShapeFault) (P : Type 0) → r ≡ s → (s ≡ x) ↔ P → (r ≡ x) ↔ P
along r s x P is both = (λ e. both.0 (sym is ∙ e), λ h. is ∙ both.1 h)
