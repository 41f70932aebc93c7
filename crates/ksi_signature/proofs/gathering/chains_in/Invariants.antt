use Rattle.std.proofs.Common.{◌≡◌, []}
use Rattle.std.specs.List.{AllByRecursion}
use Rattle.ksi_tlv.specs.Views.{view_placed, rest}
use Rattle.ksi_tlv.specs.Valid.{MayStand}
use Rattle.ksi_tlv.specs.Inside.{whole, inner_elements}
use Rattle.ksi_signature.specs.Tables.{signature_table}
use Rattle.ksi_signature.specs.Contents.{chains_behind}
use Rattle.ksi_signature.proofs.gathering.chains_in.Given as goal

abbrev pub invariant-loop-item : goal.invariant-loop-item
invariant-loop-item l =
    (chains_behind l.chains (whole (rest l.elements)) ≡ chains_behind [] (inner_elements (view_placed l.at)))
    × AllByRecursion (MayStand signature_table) (whole (rest l.elements))
