-- Which bytes encode which publications file, the first fault of all other bytes, and a file as it is written.
use Rattle.std.specs.Prelude.{◌≡◌, ℕ, ◌==◌, ◌⊎◌, List, [], ◌∷◌, ◌++◌, map, if◌then◌else◌, codes}
use Rattle.ksi_tlv.specs.Spelling.{Tlv, plain}
use Rattle.ksi_tlv.specs.Numerals.{numeral}
use Rattle.ksi_tlv.specs.Walking.{PlacedTlv}
use Rattle.ksi_tlv.specs.Writing.{texts}
use Rattle.ksi_tlv.specs.declared.grammar.fault.ElementFault.{ElementFault}
use Rattle.ksi_tlv.specs.declared.grammar.fault.ElementFault.TheVariants as faults
use Rattle.ksi_tlv.specs.Valid.{IsContainer, IsFirstFault}
use Rattle.ksi_tlv.specs.Published.{recorded_in, record_elements}
use Rattle.ksi_publications.specs.declared.fault.PublicationsFault.{PublicationsFault}
use Rattle.ksi_publications.specs.declared.fault.PublicationsFault.TheVariants as answers
use Rattle.ksi_publications.specs.Tables.{file_table}
use Rattle.ksi_publications.specs.Kinds.{header_kind, record_kind}

-- the eight bytes that a file begins with
abbrev pub magic : List ℕ
magic = codes "KSIPUBLF"

-- the time and the hash of each publication record, in order
abbrev pub pairs_of : List PlacedTlv → List (ℕ × List ℕ)
pairs_of [] = []
pairs_of (at ∷ es) = if at.element.kind == record_kind then recorded_in at ∷ pairs_of es else pairs_of es

-- The bytes are a publications file with these published times and hashes: after the magic come valid elements in any
-- order, and the pairs are those of its records, in order.
pub record IsPublications (bytes : List ℕ) (pairs : List (ℕ × List ℕ)) : Type 0 where
  pub rest : List ℕ
  pub begins : bytes ≡ magic ++ rest
  pub elements : List PlacedTlv
  pub content : IsContainer file_table 8 rest elements
  pub records : pairs ≡ pairs_of elements

-- ---- faults

-- the fault of a file, from the fault of an element; the last four occur only in signatures
abbrev pub IsNamed : ElementFault → PublicationsFault → Type 0
IsNamed (faults.Tlv place) fault = fault ≡ answers.Tlv place
IsNamed (faults.RefusedElement kind place) fault = fault ≡ answers.RefusedElement kind place
IsNamed (faults.UnknownCritical kind place) fault = fault ≡ answers.UnknownCritical kind place
IsNamed (faults.Missing kind place) fault = fault ≡ answers.Missing kind place
IsNamed (faults.Repeated kind place) fault = fault ≡ answers.Repeated kind place
IsNamed (faults.Imprint place) fault = fault ≡ answers.Imprint place
IsNamed (faults.Number place) fault = fault ≡ answers.Number place
IsNamed (faults.Time place) fault = fault ≡ answers.Time place
IsNamed (faults.Algorithm value) fault = ⊥
IsNamed (faults.Links place) fault = ⊥
IsNamed (faults.Chains place) fault = ⊥
IsNamed (faults.Sibling place) fault = ⊥

-- the file begins with other bytes
pub record IsOtherFile (bytes : List ℕ) (fault : PublicationsFault) : Type 0 where
  pub begins : (rest : List ℕ) → bytes ≡ magic ++ rest → ⊥
  pub named : fault ≡ answers.Magic

-- the first fault is after the magic; if the header is missing, its parent has place 0
pub record IsFaultInside (bytes : List ℕ) (fault : PublicationsFault) : Type 0 where
  pub rest : List ℕ
  pub begins : bytes ≡ magic ++ rest
  pub inner : ElementFault
  pub first : IsFirstFault file_table 0 8 rest inner
  pub named : IsNamed inner fault

abbrev pub IsPublicationsFault : List ℕ → PublicationsFault → Type 0
IsPublicationsFault bytes fault = IsOtherFile bytes fault ⊎ IsFaultInside bytes fault

-- ---- as it is written

abbrev pub header_element : ℕ → Tlv
header_element creation = plain header_kind (texts (plain 1 (numeral 1) ∷ plain 2 (numeral creation) ∷ []))

abbrev pub record_element : ℕ × List ℕ → Tlv
record_element pair = plain record_kind (texts (record_elements pair.0 pair.1))

-- the magic, a header of version 1, and the records without references
abbrev pub publications_text : ℕ → List (ℕ × List ℕ) → List ℕ
publications_text creation pairs = magic ++ texts (header_element creation ∷ map record_element pairs)
