-- Which bytes encode which signature, and the first fault of all other bytes.
use Rattle.std.specs.Prelude.{◌≡◌, ◌≢◌, ℕ, ◌-◌, ◌<◌, ◌⊎◌, ◌==◌, nat_lt, List, length, Result, Ok, Err, if◌then◌else◌}
use Rattle.ksi_tlv.specs.Spelling.{Tlv, Spells, IsFront}
use Rattle.ksi_tlv.specs.Front.{element_at}
use Rattle.ksi_tlv.specs.Walking.{PlacedTlv}
use Rattle.ksi_tlv.specs.declared.grammar.fault.ElementFault.{ElementFault}
use Rattle.ksi_tlv.specs.declared.grammar.fault.ElementFault.TheVariants as faults
use Rattle.ksi_tlv.specs.Table.{Verdict}
use Rattle.ksi_tlv.specs.Containing.{container_verdict}
use Rattle.ksi_tlv.specs.Valid.{IsContainer, IsWhole, IsFirstFault}
use Rattle.ksi_signature.specs.declared.fault.SignatureFault.{SignatureFault}
use Rattle.ksi_signature.specs.declared.fault.SignatureFault.TheVariants as answers
use Rattle.ksi_signature.specs.declared.signature.Signature.{Signature}
use Rattle.ksi_signature.specs.Tables.{signature_table}
use Rattle.ksi_signature.specs.Contents.{signature_of}
use Rattle.ksi_signature.specs.Kinds.{signature_kind}

-- The bytes encode this signature: they are one element 0x800, its body consists of valid elements in any order, and
-- the signature has their values.
pub record IsSignature (bytes : List ℕ) (signature : Signature) : Type 0 where
  pub element : Tlv
  pub spelled : Spells element bytes
  pub kind : element.kind ≡ signature_kind
  pub elements : List PlacedTlv
  pub content : IsContainer signature_table (length bytes - length element.body) element.body elements
  pub value : signature ≡ signature_of elements

-- ---- faults

-- the fault of a signature, from the fault of an element
abbrev pub name_of : ElementFault → SignatureFault
name_of (faults.Tlv place) = answers.Tlv place
name_of (faults.RefusedElement kind place) = answers.RefusedElement kind place
name_of (faults.UnknownCritical kind place) = answers.UnknownCritical kind place
name_of (faults.Missing kind place) = answers.Missing kind place
name_of (faults.Repeated kind place) = answers.Repeated kind place
name_of (faults.Imprint place) = answers.Imprint place
name_of (faults.Number place) = answers.Number place
name_of (faults.Algorithm value) = answers.Algorithm value
name_of (faults.Links place) = answers.Links place
name_of (faults.Chains place) = answers.Chains place
name_of (faults.Sibling place) = answers.Sibling place
name_of (faults.Time place) = answers.Time place

-- the bytes do not begin with an element
pub record IsCut (bytes : List ℕ) (fault : SignatureFault) : Type 0 where
  pub none : (element : Tlv) (size : ℕ) → IsFront bytes element size → ⊥
  pub named : fault ≡ answers.Tlv 0

-- the first element is another
pub record IsOtherKind (bytes : List ℕ) (fault : SignatureFault) : Type 0 where
  pub element : Tlv
  pub size : ℕ
  pub front : IsFront bytes element size
  pub kind : element.kind ≢ signature_kind
  pub named : fault ≡ answers.NotSignature element.kind

-- the first fault is inside the signature, whose place is 0
pub record IsFaultInside (bytes : List ℕ) (fault : SignatureFault) : Type 0 where
  pub element : Tlv
  pub size : ℕ
  pub front : IsFront bytes element size
  pub kind : element.kind ≡ signature_kind
  pub inner : ElementFault
  pub first : IsFirstFault signature_table 0 (size - length element.body) element.body inner
  pub named : fault ≡ name_of inner

-- bytes follow the signature
pub record IsFaultBehind (bytes : List ℕ) (fault : SignatureFault) : Type 0 where
  pub element : Tlv
  pub size : ℕ
  pub front : IsFront bytes element size
  pub kind : element.kind ≡ signature_kind
  pub whole : IsWhole signature_table (size - length element.body) element.body
  pub more : size < length bytes
  pub named : fault ≡ answers.After size

abbrev pub IsSignatureFault : List ℕ → SignatureFault → Type 0
IsSignatureFault bytes fault = IsCut bytes fault ⊎ IsOtherKind bytes fault ⊎ IsFaultInside bytes fault ⊎ IsFaultBehind bytes fault

-- ---- as they are read from left to right: the law `signature_or_fault` states that this is the same as above

abbrev pub Answer : Type 0
Answer = Result (Unit {0}) SignatureFault

abbrev pub behind : List ℕ → ℕ → Verdict → Answer
behind bytes size (Err fault) = Err (name_of fault)
behind bytes size (Ok u) = if nat_lt size (length bytes) then Err (answers.After size) else Ok tt

abbrev pub answer_with : List ℕ → Result (Tlv × ℕ) ℕ → Answer
answer_with bytes (Err need) = Err (answers.Tlv 0)
answer_with bytes (Ok found) =
    if found.0.kind == signature_kind
    then behind bytes found.1 (container_verdict signature_table 0 (found.1 - length found.0.body) found.0.body)
    else Err (answers.NotSignature found.0.kind)

unfoldable pub answer_of : List ℕ → Answer
answer_of bytes = answer_with bytes (element_at bytes)
