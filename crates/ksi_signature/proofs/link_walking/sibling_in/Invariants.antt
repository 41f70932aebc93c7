use Rattle.std.proofs.Common.{◌≡◌, slice_get}
use Rattle.std.specs.List.{AllByRecursion}
use Rattle.ksi_tlv.specs.Views.{view_placed, rest}
use Rattle.ksi_tlv.specs.Valid.{MayStand}
use Rattle.ksi_tlv.specs.Inside.{whole, inner_elements}
use Rattle.ksi_signature.specs.Tables.{chain_table}
use Rattle.ksi_signature.specs.Contents.{links_among}
use Rattle.ksi_signature.proofs.link_walking.sibling_in.Given as goal

abbrev pub invariant-loop-item : goal.invariant-loop-item
invariant-loop-item l =
    (slice_get (links_among (whole (rest l.elements))) l.left ≡ slice_get (links_among (inner_elements (view_placed l.at))) l.place)
    × AllByRecursion (MayStand chain_table) (whole (rest l.elements))
