use Rattle.std.proofs.Common.{◌≡◌, ◌++◌}
use Rattle.std.specs.List.{AllByRecursion}
use Rattle.ksi_tlv.specs.Views.{view_placed, rest}
use Rattle.ksi_tlv.specs.Inside.{whole, inner_elements}
use Rattle.ksi_signature.specs.Extended.{retained_texts, StandsIn}
use Rattle.ksi_signature.proofs.extension.retained.Given as goal

abbrev pub invariant-loop-item : goal.invariant-loop-item
invariant-loop-item l =
    (l.retained.items ++ retained_texts l.bytes (whole (rest l.elements)) ≡ retained_texts l.bytes (inner_elements (view_placed l.at)))
    × AllByRecursion (StandsIn l.bytes) (whole (rest l.elements))
