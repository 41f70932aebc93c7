-- The signature that bytes encode, or their first fault. The law `signature_is_read` says that these are the ones in `File`.
use Rattle.std.specs.Prelude.{ℕ, ◌-◌, List, [], length, Result, Ok, Err}
use Rattle.ksi_tlv.specs.Spelling.{Tlv}
use Rattle.ksi_tlv.specs.Front.{element_at}
use Rattle.ksi_tlv.specs.Walking.{PlacedTlv, elements}
use Rattle.ksi_tlv.specs.Inside.{whole}
use Rattle.ksi_signature.specs.declared.fault.SignatureFault.{SignatureFault}
use Rattle.ksi_signature.specs.declared.signature.Signature.{Signature}
use Rattle.ksi_signature.specs.Contents.{signature_of}
use Rattle.ksi_signature.specs.File.{Answer, answer_of}

-- the elements that the first element of a file holds
abbrev pub held_by : Result (Tlv × ℕ) ℕ → List PlacedTlv
held_by (Err need) = []
held_by (Ok found) = whole (elements (found.1 - length found.0.body) found.0.body)

abbrev pub elements_in : List ℕ → List PlacedTlv
elements_in bytes = held_by (element_at bytes)

abbrev pub read_as : Signature → Answer → Result Signature SignatureFault
read_as signature (Ok u) = Ok signature
read_as signature (Err fault) = Err fault

unfoldable pub signature_at : List ℕ → Result Signature SignatureFault
signature_at bytes = read_as (signature_of (elements_in bytes)) (answer_of bytes)
