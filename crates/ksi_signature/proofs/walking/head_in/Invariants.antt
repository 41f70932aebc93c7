use Rattle.std.proofs.Common.{◌≡◌, ◌+◌, ◌≤◌, [], None, length}
use Rattle.std.specs.List.{AllByRecursion}
use Rattle.ksi_tlv.specs.Views.{view_placed, rest}
use Rattle.ksi_tlv.specs.Valid.{MayStand}
use Rattle.ksi_tlv.specs.Inside.{whole, inner_elements}
use Rattle.ksi_signature.specs.Tables.{chain_table}
use Rattle.ksi_signature.specs.Heads.{head_behind}
use Rattle.ksi_signature.specs.HeadViews.{view_head}
use Rattle.ksi_signature.proofs.walking.head_in.Given as goal

abbrev pub invariant-loop-item : goal.invariant-loop-item
invariant-loop-item l =
    (head_behind (view_head l.head) (whole (rest l.elements)) ≡ head_behind (record { time = 0; parts = 0; last = 0; input_body = None; input = [] }) (inner_elements (view_placed l.at)))
    × AllByRecursion (MayStand chain_table) (whole (rest l.elements))
    × (l.head.parts + length (whole (rest l.elements)) ≤ length l.at.element.body.now)
