use Rattle.std.proofs.Common.{◌≡◌, ◌++◌, ◌+◌, ◌≤◌, length}
use Rattle.std.specs.List.{AllByRecursion}
use Rattle.ksi_tlv.specs.Views.{view_placed, rest}
use Rattle.ksi_tlv.specs.Valid.{MayStand}
use Rattle.ksi_tlv.specs.Inside.{whole, inner_elements}
use Rattle.ksi_signature.specs.Tables.{calendar_table}
use Rattle.ksi_signature.specs.Contents.{calendar_links_among}
use Rattle.ksi_signature.proofs.calendar_walking.calendar_links_in.Given as goal

abbrev pub invariant-loop-item : goal.invariant-loop-item
invariant-loop-item l =
    (l.links ++ calendar_links_among (whole (rest l.elements)) ≡ calendar_links_among (inner_elements (view_placed l.at)))
    × AllByRecursion (MayStand calendar_table) (whole (rest l.elements))
    × (length l.links + length (calendar_links_among (whole (rest l.elements))) ≤ 63)
