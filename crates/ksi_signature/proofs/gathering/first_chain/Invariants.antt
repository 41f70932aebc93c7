use Rattle.std.proofs.Common.{◌≡◌, []}
use Rattle.std.specs.List.{AllByRecursion}
use Rattle.ksi_tlv.specs.Views.{rest}
use Rattle.ksi_tlv.specs.Valid.{MayStand}
use Rattle.ksi_tlv.specs.Inside.{whole}
use Rattle.ksi_signature.specs.Tables.{signature_table}
use Rattle.ksi_signature.specs.Contents.{chains_behind}
use Rattle.ksi_signature.proofs.gathering.first_chain.Given as goal

abbrev pub invariant-loop-item : goal.invariant-loop-item
invariant-loop-item l =
    (goal.iterator-loop-item).can_next l.elements × (goal.iterator-loop-item).is_finite l.elements
    × (chains_behind [] (whole (rest l.elements)) ≡ chains_behind [] (whole (rest l.fn.elements)))
    × AllByRecursion (MayStand signature_table) (whole (rest l.elements))
