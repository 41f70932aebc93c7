use Rattle.std.proofs.Common.{◌≡◌}
use Rattle.ksi_tlv.specs.Views.{rest}
use Rattle.ksi_tlv.specs.Inside.{whole}
use Rattle.ksi_signature.specs.Contents.{bodies_of}
use Rattle.ksi_signature.proofs.body_views.next_body.Given as goal

abbrev pub invariant-loop-item : goal.invariant-loop-item
invariant-loop-item l =
    (goal.iterator-loop-item).can_next l.elements × (goal.iterator-loop-item).is_finite l.elements
    × (bodies_of l.kind (whole (rest l.elements)) ≡ bodies_of l.kind (whole (rest l.fn.elements)))
