-- The index parts that a walk has not yet returned.
use Rattle.std.specs.Prelude.{ℕ, List, map}
use Rattle.ksi_tlv.specs.Views.{rest}
use Rattle.ksi_tlv.specs.Numerals.{number_of}
use Rattle.ksi_tlv.specs.Inside.{whole}
use Rattle.ksi_signature.specs.Contents.{bodies_of}
use Rattle.ksi_signature.specs.declared.index_parts.IndexParts.{IndexParts}

abbrev pub parts_left : IndexParts → List ℕ
parts_left parts = map number_of (bodies_of 3 (whole (rest parts.elements)))
