use Rattle.std.proofs.Common.{◌≡◌, []}
use Rattle.std.specs.List.{AllByRecursion}
use Rattle.ksi_aggtree.specs.declared.chains.link.Sibling.TheVariants as siblings
use Rattle.ksi_tlv.specs.Views.{view_placed, rest}
use Rattle.ksi_tlv.specs.Valid.{MayStand}
use Rattle.ksi_tlv.specs.Inside.{whole, inner_elements}
use Rattle.ksi_signature.specs.Tables.{link_table}
use Rattle.ksi_signature.specs.LinkParts.{parts_behind, view_parts}
use Rattle.ksi_signature.proofs.link_walking.link_parts_in.Given as goal

abbrev pub invariant-loop-item : goal.invariant-loop-item
invariant-loop-item l =
    (parts_behind (view_parts l.parts) (whole (rest l.elements)) ≡ parts_behind (record { correction = 0; sibling = siblings.Imprint [] }) (inner_elements (view_placed l.at)))
    × AllByRecursion (MayStand link_table) (whole (rest l.elements))
