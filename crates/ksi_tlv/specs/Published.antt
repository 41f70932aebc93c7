-- Published data, which is a time and the root hash of the calendar tree that was published for it, and its records.
use Rattle.std.specs.Prelude.{ℕ, ◌==◌, List, [], ◌∷◌, Option, Ok, Some, None, if◌then◌else◌}
use Rattle.ksi_imprint.specs.Imprints.{zero_imprint}
use Rattle.ksi_tlv.specs.Spelling.{Tlv, plain}
use Rattle.ksi_tlv.specs.Walking.{PlacedTlv}
use Rattle.ksi_tlv.specs.Numerals.{number_of, numeral}
use Rattle.ksi_tlv.specs.Writing.{texts}
use Rattle.ksi_tlv.specs.Table.{Verdict, Table, exactly_once, any_number}
use Rattle.ksi_tlv.specs.Containing.{inner_verdict}
use Rattle.ksi_tlv.specs.Contents.{passes, time_in, imprint_in}
use Rattle.ksi_tlv.specs.Inside.{inner_elements, first_of}

abbrev pub published_content : PlacedTlv → Verdict
published_content at = if at.element.kind == 2 then passes (time_in at) else passes (imprint_in at)

-- 0x02 time, 0x04 hash
abbrev pub published_table : Table
published_table = record { slots = exactly_once 2 ∷ exactly_once 4 ∷ []; refused = []; content = published_content }

abbrev pub number_or_zero : Option PlacedTlv → ℕ
number_or_zero None = 0
number_or_zero (Some at) = number_of at.element.body

abbrev pub imprint_or_zero : Option PlacedTlv → List ℕ
imprint_or_zero None = zero_imprint
imprint_or_zero (Some at) = at.element.body

-- the time and the hash of published data
unfoldable pub published_in : PlacedTlv → ℕ × List ℕ
published_in at = (number_or_zero (first_of 2 (inner_elements at)), imprint_or_zero (first_of 4 (inner_elements at)))

-- as it is written
abbrev pub published_elements : ℕ → List ℕ → List Tlv
published_elements time hash = plain 2 (numeral time) ∷ plain 4 hash ∷ []

-- ---- records

abbrev pub record_content : PlacedTlv → Verdict
record_content at = if at.element.kind == 0x10 then inner_verdict published_table at else Ok tt

-- 0x10 published data; 0x09 references and 0x0A repository addresses, of any content
abbrev pub record_table : Table
record_table = record { slots = exactly_once 0x10 ∷ any_number 0x09 ∷ any_number 0x0a ∷ []; refused = []; content = record_content }

abbrev pub published_or_zero : Option PlacedTlv → ℕ × List ℕ
published_or_zero None = (0, zero_imprint)
published_or_zero (Some at) = published_in at

-- the time and the hash of the published data, which a record has
unfoldable pub recorded_in : PlacedTlv → ℕ × List ℕ
recorded_in at = published_or_zero (first_of 0x10 (inner_elements at))

-- as it is written, without references
abbrev pub record_elements : ℕ → List ℕ → List Tlv
record_elements time hash = plain 0x10 (texts (published_elements time hash)) ∷ []
