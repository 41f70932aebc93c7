use Rattle.std.proofs.Common.{◌≡◌, [], None}
use Rattle.std.specs.List.{AllByRecursion}
use Rattle.ksi_tlv.specs.Views.{view_placed, rest}
use Rattle.ksi_tlv.specs.Valid.{MayStand}
use Rattle.ksi_tlv.specs.Inside.{whole, inner_elements}
use Rattle.ksi_signature.specs.Tables.{calendar_table}
use Rattle.ksi_signature.specs.Heads.{calendar_behind}
use Rattle.ksi_signature.specs.HeadViews.{view_calendar_head}
use Rattle.ksi_signature.proofs.calendar_walking.calendar_head_in.Given as goal

abbrev pub invariant-loop-item : goal.invariant-loop-item
invariant-loop-item l =
    (calendar_behind (view_calendar_head l.head) (whole (rest l.elements)) ≡ calendar_behind (record { publication = 0; time = None; input = [] }) (inner_elements (view_placed l.at)))
    × AllByRecursion (MayStand calendar_table) (whole (rest l.elements))
