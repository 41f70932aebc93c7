use Rattle.std.proofs.Common.{◌≡◌, ◌+◌, ◌≤◌, length}
use Rattle.std.specs.List.{AllByRecursion}
use Rattle.ksi_aggtree.specs.Climbing.{climbed}
use Rattle.ksi_aggtree.specs.Owned.{plain_links}
use Rattle.ksi_tlv.specs.Views.{view_placed, rest}
use Rattle.ksi_tlv.specs.Valid.{MayStand}
use Rattle.ksi_tlv.specs.Inside.{whole, inner_elements}
use Rattle.ksi_signature.specs.Tables.{chain_table}
use Rattle.ksi_signature.specs.Contents.{links_among}
use Rattle.ksi_signature.proofs.link_walking.climb_in.Given as goal

abbrev pub invariant-loop-item : goal.invariant-loop-item
invariant-loop-item g l =
    (climbed g.C.Compress.image l.place (record { imprint = l.top.imprint; level = l.top.level }) (plain_links (links_among (whole (rest l.elements))))
    ≡ climbed g.C.Compress.image 0 (record { imprint = l.fn.start.imprint; level = l.fn.start.level }) (plain_links (links_among (inner_elements (view_placed l.at)))))
    × AllByRecursion (MayStand chain_table) (whole (rest l.elements))
    × (l.place + length (links_among (whole (rest l.elements))) ≤ 63)
