use Rattle.std.proofs.Common.{◌≡◌, true, map}
use Rattle.ksi_tlv.specs.Views.{rest}
use Rattle.ksi_tlv.specs.Numerals.{number_of}
use Rattle.ksi_tlv.specs.Inside.{whole}
use Rattle.ksi_signature.specs.Contents.{bodies_of}
use Rattle.ksi_signature.specs.Heads.{parts_pass}
use Rattle.ksi_signature.proofs.index_parts.next_part.Given as goal

abbrev pub invariant-loop-item : goal.invariant-loop-item
invariant-loop-item l =
    (goal.iterator-loop-item).can_next l.elements × (goal.iterator-loop-item).is_finite l.elements
    × (map number_of (bodies_of 3 (whole (rest l.elements))) ≡ map number_of (bodies_of 3 (whole (rest l.fn.elements))))
    × (parts_pass (whole (rest l.elements)) ≡ true)
