use Rattle.std.proofs.Common.{◌≡◌, ◌+◌, ◌<◌, ◌^◌, length}
use Rattle.std.specs.List.{AllByRecursion}
use Rattle.ksi_tlv.specs.Views.{view_placed, rest}
use Rattle.ksi_tlv.specs.Inside.{whole, inner_elements}
use Rattle.ksi_signature.specs.Lengths.{capped}
use Rattle.ksi_signature.specs.Extended.{retained_texts, StandsIn}
use Rattle.ksi_signature.proofs.extension.retained_size.Given as goal

abbrev pub invariant-loop-item : goal.invariant-loop-item
invariant-loop-item l = record {
  told : capped (l.size + length (retained_texts l.bytes (whole (rest l.elements)))) ≡ capped (length (retained_texts l.bytes (inner_elements (view_placed l.at))));
  stand : AllByRecursion (StandsIn l.bytes) (whole (rest l.elements));
  small : l.size < 2 ^ 64;
}
