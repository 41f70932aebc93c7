-- A journal as it is written.
use Rattle.std.specs.Prelude.{◌≡◌, ℕ, List, [], ◌∷◌, ◌++◌, length, map, Bool, true, false, ◌||◌, Option, Some, None, if◌then◌else◌}
use Rattle.std.specs.List.{list_any}
use Rattle.std.specs.Option.{is_some}
use Rattle.ksi_tlv.specs.Spelling.{Tlv, plain}
use Rattle.ksi_tlv.specs.Numerals.{numeral}
use Rattle.ksi_tlv.specs.Writing.{texts}
use Rattle.ksi_aggtree.specs.declared.item.Item.{Item}
use Rattle.ksi_aggtree.specs.declared.second.Second.{Second}
use Rattle.ksi_synod.specs.declared.core_plan.VotersFrom.{VotersFrom}
use Rattle.ksi_journal.specs.declared.version.Version.{Version}
use Rattle.ksi_journal.specs.declared.version.Version.TheVariants.{One, Two}
use Rattle.ksi_journal.specs.Journal.{Contents}
use Rattle.ksi_journal.specs.Voters.{bits_of}
use Rattle.ksi_journal.specs.File.{magic}

-- inside voters
abbrev pub voter_elements : VotersFrom → List Tlv
voter_elements pair = plain 1 (numeral pair.second) ∷ plain 2 (numeral (bits_of pair.voters)) ∷ []

abbrev pub voters_element : VotersFrom → Tlv
voters_element pair = plain 8 (texts (voter_elements pair))

-- inside a second
abbrev pub head_elements : Second → List Tlv
head_elements kept = plain 1 (numeral kept.second) ∷ plain 2 kept.root ∷ plain 3 (numeral (length kept.items)) ∷ []

abbrev pub second_element : Second → Tlv
second_element kept = plain 2 (texts (head_elements kept))

-- an item, and then its name if it has one
abbrev pub element_with : Item → Option (List ℕ) → Tlv
element_with item None = plain 3 (item.imprint ++ item.level ∷ [])
element_with item (Some name) = plain 7 (item.imprint ++ item.level ∷ name)

abbrev pub item_element : Item → Tlv
item_element item = element_with item item.name

-- a second and its items
abbrev pub kept_elements : Second → List Tlv
kept_elements kept = second_element kept ∷ map item_element kept.items

abbrev pub seconds_elements : List Second → List Tlv
seconds_elements [] = []
seconds_elements (kept ∷ others) = kept_elements kept ++ seconds_elements others

-- inside an issued signature, and inside a publication
abbrev pub pair_elements : ℕ × List ℕ → List Tlv
pair_elements pair = plain 1 (numeral pair.0) ∷ plain 2 pair.1 ∷ []

abbrev pub issued_element : ℕ × List ℕ → Tlv
issued_element signature = plain 4 (texts (pair_elements signature))

abbrev pub publication_element : ℕ × List ℕ → Tlv
publication_element publication = plain 5 (texts (pair_elements publication))

abbrev pub journal_elements : Contents → List Tlv
journal_elements journal =
    plain 1 (numeral journal.start) ∷ (map voters_element journal.voters
    ++ (seconds_elements journal.seconds
    ++ (map issued_element journal.issued ++ (map publication_element journal.publications ++ plain 6 [] ∷ []))))

-- the text in a version
abbrev pub text_in : Version → Contents → List ℕ
text_in version journal = magic version ++ texts (journal_elements journal)

abbrev pub has_some : {A : Type 0} → List A → Bool
has_some [] = false
has_some (x ∷ xs) = true

-- whether an item of a second has a name
abbrev pub has_name : Second → Bool
has_name kept = list_any (λ item. is_some item.name) kept.items

-- whether there are voters, or a kept item has a name
abbrev pub needs_two : Contents → Bool
needs_two journal = has_some journal.voters || list_any has_name journal.seconds

-- a version in which the journal can be written
abbrev pub Allows : Version → Contents → Type 0
Allows One journal = needs_two journal ≡ false
Allows Two journal = Unit {0}

-- version 2 exactly where it is needed
abbrev pub version_of : Contents → Version
version_of journal = if needs_two journal then Two else One

abbrev pub journal_text : Contents → List ℕ
journal_text journal = text_in (version_of journal) journal
