-- What is written one after the other.
use Rattle.std.proofs.Common.{◌≡◌, ℕ, List, [], ◌∷◌, ◌++◌, map, sym, ap, ◌∙◌, append_assoc}
use Rattle.ksi_tlv.specs.Spelling.{canonical, plain}
use Rattle.ksi_tlv.specs.Writing.{texts}
use Rattle.ksi_tlv.specs.Numerals.{numeral}
use Rattle.ksi_tlv.proofs.Texts.{texts-append, last_told, before}
use Rattle.ksi_mirror.specs.declared.sealed_list.SealedList.{SealedList}
use Rattle.ksi_mirror.specs.Mirrors.{MirrorState}
use Rattle.ksi_mirror.specs.Written.{root_element, list_elements, lists_elements, mirror_elements}

-- the loop over the lists
pub lists_told : (old new whole : List ℕ) (one : SealedList) (left others : List SealedList) → left ≡ one ∷ others → old ++ texts (lists_elements left) ≡ whole → new ≡ old ++ texts (list_elements one) → new ++ texts (lists_elements others) ≡ whole
lists_told old new whole one left others is all next =
    ap (λ (t : List ℕ). t ++ texts (lists_elements others)) next ∙ append_assoc old (texts (list_elements one)) (texts (lists_elements others))
    ∙ ap (λ (t : List ℕ). old ++ t) (sym (texts-append (list_elements one) (lists_elements others))) ∙ ap (λ (ks : List SealedList). old ++ texts (lists_elements ks)) (sym is) ∙ all

-- the parts of a mirror
pub parts_told : (mirror : MirrorState) (start : ℕ) (roots : List (ℕ × List ℕ)) (lists : List SealedList) (o a b c d : List ℕ) → start ≡ mirror.start → roots ≡ mirror.roots → lists ≡ mirror.lists
    → a ≡ o ++ canonical (plain 1 (numeral start)) → b ≡ a ++ texts (map root_element roots) → c ≡ b ++ texts (lists_elements lists) → d ≡ c ++ canonical (plain 6 [])
    → d ≡ o ++ texts (mirror_elements mirror)
parts_told mirror start roots lists o a b c d one two three ea eb ec ed =
    ed ∙ last_told c (plain 6 [])
    ∙ before b (lists_elements mirror.lists) (plain 6 [] ∷ []) c (ec ∙ ap (λ (xs : List SealedList). b ++ texts (lists_elements xs)) three)
    ∙ before a (map root_element mirror.roots) (lists_elements mirror.lists ++ plain 6 [] ∷ []) b (eb ∙ ap (λ (xs : List (ℕ × List ℕ)). a ++ texts (map root_element xs)) two)
    ∙ ap (λ (x : List ℕ). x ++ texts (map root_element mirror.roots ++ (lists_elements mirror.lists ++ plain 6 [] ∷ []))) (ea ∙ ap (λ (n : ℕ). o ++ canonical (plain 1 (numeral n))) one)
    ∙ append_assoc o (canonical (plain 1 (numeral mirror.start))) _
