-- The value of a borrowed signature, and the bytes that it borrows.
use Rattle.std.specs.Prelude.{ℕ, List}
use Rattle.ksi_tlv.specs.Views.{view_placed}
use Rattle.ksi_tlv.specs.Inside.{inner_elements}
use Rattle.ksi_signature.specs.Contents.{signature_of}
use Rattle.ksi_signature.specs.declared.signature_view.SignatureView.{SignatureView}
use Rattle.ksi_signature.specs.declared.signature.Signature.{Signature}

abbrev pub seen : SignatureView → Signature
seen signature = signature_of (inner_elements (view_placed signature.at))

abbrev pub bytes_seen : SignatureView → List ℕ
bytes_seen signature = signature.bytes.now
