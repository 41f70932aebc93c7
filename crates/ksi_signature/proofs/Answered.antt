-- What is read in bytes is the signature that they are, or their first fault.
use Rattle.std.proofs.Common.{◌≡◌, ℕ, List, Result, Ok, Err, refl, sym, ap, ◌∙◌, subst}
use Rattle.std.specs.Prelude.{◌↔◌}
use Rattle.ksi_tlv.specs.Spelling.{AreBytes}
use Rattle.ksi_signature.specs.declared.fault.SignatureFault.{SignatureFault}
use Rattle.ksi_signature.specs.declared.signature.Signature.{Signature}
use Rattle.ksi_signature.specs.Contents.{signature_of}
use Rattle.ksi_signature.specs.File.{Answer, answer_of, IsSignature, IsSignatureFault}
use Rattle.ksi_signature.specs.Reading.{elements_in, read_as, signature_at}
use Rattle.ksi_signature.proofs.Whole.{Laws, signature_if_ok, ok_if_signature, fault_if_err, err_if_fault, front_of, is_value}

abbrev Read : Type 0
Read = Result Signature SignatureFault

abbrev failed : SignatureFault → Answer
failed fault = Err fault

abbrev given : Signature → Read
given signature = Ok signature

abbrev refused : SignatureFault → Read
refused fault = Err fault

value_at : (laws : Laws) (bytes : List ℕ) (signature : Signature) → IsSignature bytes signature → signature_of (elements_in bytes) ≡ signature
value_at laws bytes signature s = rw (front_of laws bytes s.element s.spelled) (sym (is_value bytes signature s))

read_ok : (v : Signature) (r : Answer) (signature : Signature) → read_as v r ≡ given signature → (r ≡ Ok tt) × (v ≡ signature)
read_ok v (Ok u) signature e = (refl, cc)
read_ok v (Err f) signature e = absurd cc

read_err : (v : Signature) (r : Answer) (fault : SignatureFault) → read_as v r ≡ refused fault → r ≡ failed fault
read_err v (Ok u) fault e = absurd cc
read_err v (Err f) fault e = cc

is_signature : (laws : Laws) (bytes : List ℕ) (signature : Signature) → AreBytes bytes → signature_at bytes ≡ Ok signature → IsSignature bytes signature
unfolding signature_at
is_signature laws bytes signature fits e =
    let both = read_ok (signature_of (elements_in bytes)) (answer_of bytes) signature e in
    let s = signature_if_ok laws bytes fits both.0 in
    subst (IsSignature bytes) (sym (value_at laws bytes s.0 s.1) ∙ both.1) s.1

is_read : (laws : Laws) (bytes : List ℕ) (signature : Signature) → IsSignature bytes signature → signature_at bytes ≡ given signature
unfolding signature_at
is_read laws bytes signature s = rw (ok_if_signature laws bytes signature s) (ap given (value_at laws bytes signature s))

is_fault : (laws : Laws) (bytes : List ℕ) (fault : SignatureFault) → AreBytes bytes → signature_at bytes ≡ Err fault → IsSignatureFault bytes fault
unfolding signature_at
is_fault laws bytes fault fits e = fault_if_err laws bytes fault fits (read_err (signature_of (elements_in bytes)) (answer_of bytes) fault e)

is_refused : (laws : Laws) (bytes : List ℕ) (fault : SignatureFault) → AreBytes bytes → IsSignatureFault bytes fault → signature_at bytes ≡ refused fault
unfolding signature_at
is_refused laws bytes fault fits f = rw (err_if_fault laws bytes fault fits f) refl

pub signature_read : (laws : Laws) (bytes : List ℕ) (signature : Signature) → AreBytes bytes → (signature_at bytes ≡ Ok signature) ↔ IsSignature bytes signature
signature_read laws bytes signature fits = (is_signature laws bytes signature fits, is_read laws bytes signature)

pub fault_read : (laws : Laws) (bytes : List ℕ) (fault : SignatureFault) → AreBytes bytes → (signature_at bytes ≡ Err fault) ↔ IsSignatureFault bytes fault
fault_read laws bytes fault fits = (is_fault laws bytes fault fits, is_refused laws bytes fault fits)
