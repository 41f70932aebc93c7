-- The sides of the links among elements, and their shape as a walk adds it up.
use Rattle.std.proofs.Common.{◌≡◌, ℕ, ◌+◌, ◌^◌, ◌<◌, ◌≤◌, true, List, [], ◌∷◌, length, map, refl, ap, ◌∙◌, arith}
use Rattle.std.specs.Prelude.{◌==◌, ◌||◌}
use Rattle.std.proofs.lemmas.List.{length-map}
use Rattle.ksi_split.specs.declared.side.Side.{Side}
use Rattle.ksi_aggtree.specs.Links.{PlainLink}
use Rattle.ksi_aggtree.specs.Owned.{plain_link, plain_links}
use Rattle.ksi_aggtree.specs.Shapes.{left_powers, shape_of}
use Rattle.ksi_tlv.specs.Walking.{PlacedTlv, Items}
use Rattle.ksi_tlv.specs.Inside.{whole}
use Rattle.ksi_signature.specs.Contents.{side_in, link_in, links_among}

abbrev pub sides_among : List PlacedTlv → List Side
sides_among es = map (λ link. link.side) (plain_links (links_among es))

length-sides : (es : List PlacedTlv) → length (sides_among es) ≡ length (links_among es)
length-sides es = length-map (plain_links (links_among es)) (λ (link : PlainLink). link.side) ∙ length-map (links_among es) plain_link

pub link_first : (at : PlacedTlv) (es : List PlacedTlv) → (at.element.kind == 7 || at.element.kind == 8) ≡ true → sides_among (at ∷ es) ≡ side_in at ∷ sides_among es
unfolding link_in
link_first at es is = rw is refl

pub few_fit : ((sides : List Side) → length sides ≤ 63 → shape_of sides < 2 ^ 64) → (es : List PlacedTlv) → length (links_among es) ≤ 63 → shape_of (sides_among es) < 2 ^ 64
few_fit fits es few = fits (sides_among es) (omega (arith, few, length-sides es))

module _ (first : (place : ℕ) (side : Side) (sides : List Side) → left_powers place (side ∷ sides) ≡ left_powers place (side ∷ []) + left_powers (place + 1) sides)
    (bits place : ℕ) (side : Side) (here more all : List Side) (is : here ≡ side ∷ more) (so_far : bits + left_powers place here ≡ left_powers 0 all) where
  pub side_goes : bits + left_powers place (side ∷ []) + left_powers (place + 1) more ≡ left_powers 0 all
  side_goes = omega (arith, so_far, ap (left_powers place) is, first place side more)

  pub side_fits : shape_of all < 2 ^ 64 → bits + left_powers place (side ∷ []) < 2 ^ 64
  side_fits fits = omega (arith, so_far, ap (left_powers place) is, first place side more, fits)

-- where no link is left
pub all_taken : (bits place : ℕ) (left : Items) (es : List PlacedTlv) → left ≡ [] → bits + left_powers place (sides_among (whole left)) ≡ left_powers 0 (sides_among es) → place + length (links_among (whole left)) ≡ length (links_among es)
    → bits + 2 ^ place ≡ shape_of (sides_among es)
all_taken bits place left es none so_far count =
    let taken : place ≡ length (sides_among es) = omega (arith, count, ap (λ (items : Items). length (links_among (whole items))) none, length-sides es) in
    omega (arith, so_far, ap (λ (items : Items). left_powers place (sides_among (whole items))) none, ap (λ (n : ℕ). 2 ^ n) taken)
