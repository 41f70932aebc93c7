-- The bytes of a signature with another calendar chain and publication record.
use Rattle.std.specs.Prelude.{◌≡◌, ℕ, ◌^◌, ◌<◌, min, ◌+◌, ◌-◌, ◌≤◌, ◌==◌, ◌||◌, ◌&&◌, not, Bool, List, [], ◌∷◌, ◌++◌, length, take, drop, Some, if◌then◌else◌}
use Rattle.ksi_tlv.specs.Spelling.{Tlv, plain, canonical}
use Rattle.ksi_tlv.specs.Walking.{PlacedTlv}
use Rattle.ksi_tlv.specs.Writing.{texts}
use Rattle.ksi_tlv.specs.Table.{is_known}
use Rattle.ksi_signature.specs.Values.{Calendar, Publishing}
use Rattle.ksi_signature.specs.declared.signature.Signature.{Signature}
use Rattle.ksi_signature.specs.Tables.{signature_table}
use Rattle.ksi_signature.specs.Reading.{elements_in}
use Rattle.ksi_signature.specs.Written.{calendar_element, publishing_element}
use Rattle.ksi_signature.specs.Kinds.{signature_kind, chain_kind}

-- An element is retained: it is an aggregation chain, or is unknown and has both flags.
abbrev pub is_retained : Tlv → Bool
is_retained e = e.kind == chain_kind || (not (is_known signature_table.slots e.kind) && (e.non_critical && e.forward))

-- the bytes of an element in the file: from its place to the end of its body
abbrev pub text_in : List ℕ → PlacedTlv → List ℕ
text_in bytes at = take (at.inside + length at.element.body - at.place) (drop at.place bytes)

-- those of the elements that are retained, in order
abbrev pub retained_texts : List ℕ → List PlacedTlv → List ℕ
retained_texts bytes [] = []
retained_texts bytes (at ∷ es) = if is_retained at.element then text_in bytes at ++ retained_texts bytes es else retained_texts bytes es

-- the texts of the retained elements, then the calendar chain and the publication record as they are written
abbrev pub content_with : List ℕ → List PlacedTlv → Calendar → Publishing → List ℕ
content_with bytes es chain published =
    retained_texts bytes es ++ texts (calendar_element chain ∷ publishing_element published ∷ [])

unfoldable pub extended_content : List ℕ → Calendar → Publishing → List ℕ
extended_content bytes chain published = content_with bytes (elements_in bytes) chain published

unfoldable pub extended_text : List ℕ → Calendar → Publishing → List ℕ
extended_text bytes chain published = canonical (plain signature_kind (extended_content bytes chain published))

-- the signature with this calendar chain and publication record in place of its own
abbrev pub renewed : Signature → Calendar → Publishing → Signature
renewed signature chain published = record { chains = signature.chains; calendar = Some chain; publication = Some published }

-- A content of `size` bytes is too long for an element, and n is its size, or 2^64 - 1 if it is more.
pub record IsTooLong (size n : ℕ) : Type 0 where
  pub long : 65535 < size
  pub number : n ≡ min size (2 ^ 64 - 1)

-- the bytes of an element are bytes of the file
pub record StandsIn (bytes : List ℕ) (at : PlacedTlv) : Type 0 where
  pub begins : at.place ≤ at.inside + length at.element.body
  pub ends : at.inside + length at.element.body ≤ length bytes
