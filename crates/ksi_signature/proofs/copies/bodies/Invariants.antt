use Rattle.std.proofs.Common.{◌≡◌, ◌++◌}
use Rattle.ksi_tlv.specs.Views.{view_placed, rest}
use Rattle.ksi_tlv.specs.Inside.{whole, inner_elements}
use Rattle.ksi_signature.specs.Contents.{bodies_of}
use Rattle.ksi_signature.proofs.copies.bodies.Given as goal

abbrev pub invariant-loop-item : goal.invariant-loop-item
invariant-loop-item l =
    l.bodies.items ++ bodies_of l.kind (whole (rest l.elements)) ≡ bodies_of l.kind (inner_elements (view_placed l.at))
