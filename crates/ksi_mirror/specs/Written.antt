-- A mirror as it is written.
use Rattle.std.specs.Prelude.{ℕ, List, [], ◌∷◌, ◌++◌, length, map}
use Rattle.ksi_tlv.specs.Spelling.{Tlv, plain}
use Rattle.ksi_tlv.specs.Numerals.{numeral}
use Rattle.ksi_tlv.specs.Writing.{texts}
use Rattle.ksi_journal.specs.Written.{pair_elements, item_element}
use Rattle.ksi_mirror.specs.declared.sealed_list.SealedList.{SealedList}
use Rattle.ksi_mirror.specs.Mirrors.{MirrorState}
use Rattle.ksi_mirror.specs.File.{magic}

-- a root: its second, and the root
abbrev pub root_element : ℕ × List ℕ → Tlv
root_element one = plain 2 (texts (pair_elements one))

-- inside a list
abbrev pub head_elements : SealedList → List Tlv
head_elements one = plain 1 (numeral one.second) ∷ plain 2 (numeral one.core) ∷ plain 3 (numeral (length one.items)) ∷ []

abbrev pub list_element : SealedList → Tlv
list_element one = plain 9 (texts (head_elements one))

-- a list and its items
abbrev pub list_elements : SealedList → List Tlv
list_elements one = list_element one ∷ map item_element one.items

abbrev pub lists_elements : List SealedList → List Tlv
lists_elements [] = []
lists_elements (one ∷ others) = list_elements one ++ lists_elements others

abbrev pub mirror_elements : MirrorState → List Tlv
mirror_elements mirror = plain 1 (numeral mirror.start) ∷ (map root_element mirror.roots ++ (lists_elements mirror.lists ++ plain 6 [] ∷ []))

abbrev pub mirror_text : MirrorState → List ℕ
mirror_text mirror = magic ++ texts (mirror_elements mirror)
