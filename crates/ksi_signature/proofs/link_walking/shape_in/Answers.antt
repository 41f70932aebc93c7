use Rattle.std.proofs.Common.{◌≡◌, ◌+◌, ◌∷◌, Ok, sym, ap, ◌∙◌, arith, rules}
use Rattle.ksi_split.specs.declared.side.Side.{Side}
use Rattle.ksi_aggtree.specs.Shapes.{left_powers}
use Rattle.ksi_tlv.specs.Views.{view_placed, rest}
use Rattle.ksi_tlv.specs.Walking.{Items}
use Rattle.ksi_tlv.specs.Inside.{whole, inner_elements}
use Rattle.ksi_signature.proofs.Sides.{sides_among, link_first, few_fit, side_goes, side_fits, all_taken}
use Rattle.ksi_signature.proofs.link_walking.shape_in.Goals as goal

pub with_side-bits-requires-clause-fits : goal.with_side-bits-requires-clause-fits
with_side-bits-requires-clause-fits c =
    let es = inner_elements (view_placed c.args.at.now) in
    let more = whole (rest c.next.new.self) in
    let split : rest c.loop-item.elements ≡ Ok (view_placed c.in-Ok.part) ∷ rest c.next.new.self = rw c.in-Ok.is at c.in-Some.ensures.steps in
    let here = ap (λ (items : Items). sides_among (whole items)) split ∙ link_first (view_placed c.in-Ok.part) more (sym c.is_link.ensures ∙ c.if-is_link.true) in
    let same = here ∙ ap (λ (side : Side). side ∷ sides_among more) (sym c.side_of.ensures) in
    side_fits c.one_shape.ensures.first c.loop-item.bits c.loop-item.place c.side_of.result _ _ (sides_among es) same c.loop-item.invariant.0 (few_fit c.one_shape.ensures.fits es c.loop-item.invariant.2)

pub loop-item-preserved-then-is_link : goal.loop-item-preserved-then-is_link
loop-item-preserved-then-is_link c =
    let es = inner_elements (view_placed c.args.at.now) in
    let more = whole (rest c.next.new.self) in
    let split : rest c.loop-item.elements ≡ Ok (view_placed c.in-Ok.part) ∷ rest c.next.new.self = rw c.in-Ok.is at c.in-Some.ensures.steps in
    let here = ap (λ (items : Items). sides_among (whole items)) split ∙ link_first (view_placed c.in-Ok.part) more (sym c.is_link.ensures ∙ c.if-is_link.true) in
    let same = here ∙ ap (λ (side : Side). side ∷ sides_among more) (sym c.side_of.ensures) in (
      ap (λ (n : _). n + left_powers (c.loop-item.place + 1) (sides_among more)) c.with_side-bits.ensures
          ∙ side_goes c.one_shape.ensures.first c.loop-item.bits c.loop-item.place c.side_of.result _ (sides_among more) (sides_among es) same c.loop-item.invariant.0,
      search rules,
      c.loop-item.invariant.2,
    )

pub with_leading_one-requires-clause-fits : goal.with_leading_one-requires-clause-fits
with_leading_one-requires-clause-fits c =
    let es = inner_elements (view_placed c.args.at.now) in
    omega (arith, all_taken c.loop-item.bits c.loop-item.place _ es c.in_default.ensures.steps.0 c.loop-item.invariant.0 c.loop-item.invariant.1, few_fit c.one_shape.ensures.fits es c.loop-item.invariant.2)

pub returns : goal.returns
returns c =
    c.with_leading_one.ensures ∙ all_taken c.loop-item.bits c.loop-item.place _ (inner_elements (view_placed c.args.at.now)) c.in_default.ensures.steps.0 c.loop-item.invariant.0 c.loop-item.invariant.1
