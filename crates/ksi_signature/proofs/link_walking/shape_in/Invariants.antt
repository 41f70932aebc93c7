use Rattle.std.proofs.Common.{◌≡◌, ◌+◌, ◌≤◌, length}
use Rattle.ksi_aggtree.specs.Shapes.{left_powers}
use Rattle.ksi_tlv.specs.Views.{view_placed, rest}
use Rattle.ksi_tlv.specs.Inside.{whole, inner_elements}
use Rattle.ksi_signature.specs.Contents.{links_among}
use Rattle.ksi_signature.proofs.Sides.{sides_among}
use Rattle.ksi_signature.proofs.link_walking.shape_in.Given as goal

abbrev pub invariant-loop-item : goal.invariant-loop-item
invariant-loop-item l =
    (l.bits + left_powers l.place (sides_among (whole (rest l.elements))) ≡ left_powers 0 (sides_among (inner_elements (view_placed l.at))))
    × (l.place + length (links_among (whole (rest l.elements))) ≡ length (links_among (inner_elements (view_placed l.at))))
    × (length (links_among (inner_elements (view_placed l.at))) ≤ 63)
