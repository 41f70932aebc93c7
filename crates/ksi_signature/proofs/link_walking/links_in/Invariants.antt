use Rattle.std.proofs.Common.{◌≡◌, ◌++◌, ◌+◌, ◌≤◌, length}
use Rattle.std.specs.List.{AllByRecursion}
use Rattle.ksi_aggtree.specs.Owned.{plain_links}
use Rattle.ksi_tlv.specs.Views.{view_placed, rest}
use Rattle.ksi_tlv.specs.Valid.{MayStand}
use Rattle.ksi_tlv.specs.Inside.{whole, inner_elements}
use Rattle.ksi_signature.specs.Tables.{chain_table}
use Rattle.ksi_signature.specs.Contents.{links_among}
use Rattle.ksi_signature.proofs.link_walking.links_in.Given as goal

abbrev pub invariant-loop-item : goal.invariant-loop-item
invariant-loop-item l =
    (l.links ++ plain_links (links_among (whole (rest l.elements))) ≡ plain_links (links_among (inner_elements (view_placed l.at))))
    × AllByRecursion (MayStand chain_table) (whole (rest l.elements))
    × (length l.links + length (links_among (whole (rest l.elements))) ≤ 63)
