-- A signature as it is written: the elements of each container in the order of its table, without flags.
use Rattle.std.specs.Prelude.{◌≡◌, ℕ, suc, zero, nat_lt, List, [], ◌∷◌, ◌++◌, length, map, flat_map, Option, Some, None, Result, Ok, Err, if◌then◌else◌}
use Rattle.ksi_imprint.specs.declared.refused.Refused.{Refused}
use Rattle.ksi_imprint.specs.declared.refused.Refused.TheVariants.{Fault, NoMemory}
use Rattle.ksi_split.specs.declared.side.Side.{Side}
use Rattle.ksi_split.specs.declared.side.Side.TheVariants.{Left, Right}
use Rattle.ksi_split.specs.declared.tree_link.TreeLink.{TreeLink}
use Rattle.ksi_aggtree.specs.declared.chains.link.Link.{Link}
use Rattle.ksi_aggtree.specs.declared.chains.link.Sibling.{Sibling}
use Rattle.ksi_aggtree.specs.declared.chains.link.Sibling.TheVariants as siblings
use Rattle.ksi_tlv.specs.Spelling.{Tlv, plain, canonical}
use Rattle.ksi_tlv.specs.Numerals.{numeral}
use Rattle.ksi_tlv.specs.Writing.{texts}
use Rattle.ksi_tlv.specs.Published.{published_elements}
use Rattle.ksi_signature.specs.Values.{Aggregation, Calendar, Publishing}
use Rattle.ksi_signature.specs.declared.signature.Signature.{Signature}
use Rattle.ksi_signature.specs.declared.refusal.WriteRefusal.{WriteRefusal}
use Rattle.ksi_signature.specs.declared.refusal.WriteRefusal.TheVariants as refusals
use Rattle.ksi_signature.specs.Kinds.{signature_kind, chain_kind, calendar_kind, publication_kind}

abbrev pub side_kind : Side → ℕ
side_kind Left = 7
side_kind Right = 8

-- ---- aggregation chains

abbrev pub sibling_element : Sibling → Tlv
sibling_element (siblings.Imprint bytes) = plain 2 bytes
sibling_element (siblings.Legacy bytes) = plain 3 bytes
sibling_element (siblings.Metadata bytes) = plain 4 bytes

-- a correction only if it is not 0
abbrev pub correction_elements : ℕ → List Tlv
correction_elements zero = []
correction_elements (suc n) = plain 1 (numeral (suc n)) ∷ []

abbrev pub link_elements : Link → List Tlv
link_elements link = correction_elements link.correction ++ (sibling_element link.sibling ∷ [])

abbrev pub link_element : Link → Tlv
link_element link = plain (side_kind link.side) (texts (link_elements link))

abbrev pub body_element : Option (List ℕ) → List Tlv
body_element None = []
body_element (Some body) = plain 4 body ∷ []

abbrev pub part_element : ℕ → Tlv
part_element part = plain 3 (numeral part)

abbrev pub chain_elements : Aggregation → List Tlv
chain_elements c =
    plain 2 (numeral c.time) ∷ (map part_element c.index
    ++ (body_element c.input_body ++ (plain 5 c.input ∷ plain 6 (numeral 1) ∷ map link_element c.links)))

-- ---- calendar chains and publication records

abbrev pub calendar_link_element : TreeLink (List ℕ) → Tlv
calendar_link_element link = plain (side_kind link.side) link.sibling

-- the aggregation time always
abbrev pub calendar_elements : Calendar → List Tlv
calendar_elements c =
    plain 1 (numeral c.publication) ∷ plain 2 (numeral c.time) ∷ plain 5 c.input ∷ map calendar_link_element c.links

abbrev pub publishing_elements : Publishing → List Tlv
publishing_elements p =
    plain 0x10 (texts (published_elements p.time p.hash)) ∷ (map (plain 9) p.references ++ map (plain 0x0a) p.repositories)

-- ---- signatures

abbrev pub chain_element : Aggregation → Tlv
chain_element c = plain chain_kind (texts (chain_elements c))

abbrev pub calendar_element : Calendar → Tlv
calendar_element c = plain calendar_kind (texts (calendar_elements c))

abbrev pub publishing_element : Publishing → Tlv
publishing_element p = plain publication_kind (texts (publishing_elements p))

abbrev pub optional_element : {A : Type 0} → (A → Tlv) → Option A → List Tlv
optional_element element None = []
optional_element element (Some value) = element value ∷ []

abbrev pub signature_elements : Signature → List Tlv
signature_elements s =
    map chain_element s.chains ++ (optional_element calendar_element s.calendar ++ optional_element publishing_element s.publication)

unfoldable pub signature_text : Signature → List ℕ
signature_text s = canonical (plain signature_kind (texts (signature_elements s)))

-- ---- what may be too long

-- The sizes of the bodies that may be too long for an element, in the order of writing, an inner one before the one that
-- it is in. Numbers, imprints, links, published data and calendar chains are always shorter.
abbrev pub body_sizes : Option (List ℕ) → List ℕ
body_sizes None = []
body_sizes (Some body) = length body ∷ []

abbrev pub chain_sizes : Aggregation → List ℕ
chain_sizes c = body_sizes c.input_body ++ (length (texts (chain_elements c)) ∷ [])

abbrev pub publishing_sizes : Publishing → List ℕ
publishing_sizes p = map length p.references ++ map length p.repositories ++ (length (texts (publishing_elements p)) ∷ [])

abbrev pub optional_sizes : Option Publishing → List ℕ
optional_sizes None = []
optional_sizes (Some p) = publishing_sizes p

abbrev pub sizes_of : Signature → List ℕ
sizes_of s = flat_map chain_sizes s.chains ++ optional_sizes s.publication ++ (length (texts (signature_elements s)) ∷ [])

-- the first that is above 65,535
abbrev pub first_long : List ℕ → Option ℕ
first_long [] = None
first_long (size ∷ sizes) = if nat_lt 65535 size then Some size else first_long sizes

-- none of these sizes is too long, or this is the first that is; nothing is claimed if the call ran out of memory
abbrev pub TellsLong : {A : Type 0} → List ℕ → Result A (Refused WriteRefusal) → Type 0
TellsLong sizes (Ok value) = first_long sizes ≡ None
TellsLong sizes (Err (Fault (refusals.TooLong size))) = first_long sizes ≡ Some size
TellsLong sizes (Err NoMemory) = Unit {0}
