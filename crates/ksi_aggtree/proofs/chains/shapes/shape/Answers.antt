use Rattle.std.proofs.Common.{◌≡◌, ◌+◌, ◌^◌, ◌<◌, ◌≤◌, List, [], ◌∷◌, length, map, sym, ap, ◌∙◌, arith, drop, subst, ℕ}
use Rattle.std.proofs.lemmas.List.{length-map}
use Rattle.ksi_split.specs.declared.side.Side.{Side}
use Rattle.ksi_aggtree.specs.Shapes.{IsShape, left_powers, shape_of}
use Rattle.ksi_aggtree.proofs.ClimbLemmas.{seen_at, seen_within, seen_past}
use Rattle.ksi_aggtree.proofs.ShapeLemmas.{side_fits, side_goes, shape_ends, shape_fits, shape_is}
use Rattle.ksi_aggtree.proofs.chains.shapes.shape.Goals as goal

pub with_side-bits-requires-clause-fits : goal.with_side-bits-requires-clause-fits
with_side-bits-requires-clause-fits g c =
    let side_of = λ (link : g.row.L.Denot). (g.L.ChainLink.plain link).side in
    let sides : List Side = map side_of c.args.links.now in
    let few : length sides ≤ 63 = omega (arith, length-map c.args.links.now side_of, c.requires) in
    let place = c.loop-place.place in
    let link = c.index-links-place.result in
    subst (λ (side : Side). c.loop-place.bits + left_powers place (side ∷ []) < 2 ^ 64) (sym c.side.ensures)
    (side_fits place sides (side_of link) few (seen_within side_of c.args.links.now place c.loop-place-test.true) (seen_at side_of c.args.links.now place link c.index-links-place.is) c.loop-place.bits c.loop-place.invariant)

pub loop-place-preserved : goal.loop-place-preserved
loop-place-preserved g c =
    let side_of = λ (link : g.row.L.Denot). (g.L.ChainLink.plain link).side in
    let sides : List Side = map side_of c.args.links.now in
    let few : length sides ≤ 63 = omega (arith, length-map c.args.links.now side_of, c.requires) in
    let place = c.loop-place.place in
    let link = c.index-links-place.result in
    ap (λ (n : ℕ). n + left_powers (place + 1) (drop (place + 1) sides)) (c.with_side-bits.ensures ∙ ap (λ (side : Side). c.loop-place.bits + left_powers place (side ∷ [])) c.side.ensures)
    ∙ side_goes place sides (side_of link) few (seen_within side_of c.args.links.now place c.loop-place-test.true) (seen_at side_of c.args.links.now place link c.index-links-place.is) c.loop-place.bits c.loop-place.invariant

pub with_leading_one-requires-clause-fits : goal.with_leading_one-requires-clause-fits
with_leading_one-requires-clause-fits g c =
    let side_of = λ (link : g.row.L.Denot). (g.L.ChainLink.plain link).side in
    let sides : List Side = map side_of c.args.links.now in
    let few : length sides ≤ 63 = omega (arith, length-map c.args.links.now side_of, c.requires) in
    let is = shape_ends c.loop-place.place sides c.loop-place.bits (seen_past side_of c.args.links.now c.loop-place.place c.loop-place-test.false) c.loop-place.invariant in
    let count : 2 ^ length sides ≡ 2 ^ length c.args.links.now = ap (λ (n : ℕ). 2 ^ n) (length-map c.args.links.now side_of) in
    omega (arith, is, shape_fits sides few, count)

pub returns : goal.returns
returns g c =
    let side_of = λ (link : g.row.L.Denot). (g.L.ChainLink.plain link).side in
    let sides : List Side = map side_of c.args.links.now in
    let count : 2 ^ length sides ≡ 2 ^ length c.args.links.now = ap (λ (n : ℕ). 2 ^ n) (length-map c.args.links.now side_of) in
    let bits = shape_ends c.loop-place.place sides c.loop-place.bits (seen_past side_of c.args.links.now c.loop-place.place c.loop-place-test.false) c.loop-place.invariant in
    let is : c.with_leading_one.result ≡ shape_of sides = omega (arith, c.with_leading_one.ensures, bits, count) in
    record { shape = subst (IsShape sides) (sym is) (shape_is sides); value = is }
