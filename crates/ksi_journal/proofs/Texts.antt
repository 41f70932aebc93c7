-- What is written one after the other.
use Rattle.std.proofs.Common.{◌≡◌, ℕ, List, [], ◌∷◌, ◌++◌, map, sym, ap, ◌∙◌, append_assoc}
use Rattle.ksi_tlv.specs.Spelling.{canonical, plain}
use Rattle.ksi_tlv.specs.Writing.{texts}
use Rattle.ksi_tlv.specs.Numerals.{numeral}
use Rattle.ksi_tlv.proofs.Texts.{texts-append, last_told, before}
use Rattle.ksi_aggtree.specs.declared.second.Second.{Second}
use Rattle.ksi_synod.specs.declared.core_plan.VotersFrom.{VotersFrom}
use Rattle.ksi_journal.specs.Journal.{Contents}
use Rattle.ksi_journal.specs.Written.{voters_element, kept_elements, second_element, item_element, seconds_elements, issued_element, publication_element, journal_elements}

-- a second is its element and then its items
pub second_told : (old one two : List ℕ) (kept : Second) → one ≡ old ++ canonical (second_element kept) → two ≡ one ++ texts (map item_element kept.items) → two ≡ old ++ texts (kept_elements kept)
second_told old one two kept e1 e2 = e2 ∙ ap (λ (t : List ℕ). t ++ texts (map item_element kept.items)) e1 ∙ append_assoc old (canonical (second_element kept)) (texts (map item_element kept.items))

-- the loop over the seconds
pub seconds_told : (old new whole : List ℕ) (kept : Second) (left others : List Second) → left ≡ kept ∷ others → old ++ texts (seconds_elements left) ≡ whole → new ≡ old ++ texts (kept_elements kept) → new ++ texts (seconds_elements others) ≡ whole
seconds_told old new whole kept left others is all next =
    ap (λ (t : List ℕ). t ++ texts (seconds_elements others)) next ∙ append_assoc old (texts (kept_elements kept)) (texts (seconds_elements others))
    ∙ ap (λ (t : List ℕ). old ++ t) (sym (texts-append (kept_elements kept) (seconds_elements others))) ∙ ap (λ (ks : List Second). old ++ texts (seconds_elements ks)) (sym is) ∙ all

-- the parts of a journal
pub parts_told : (journal : Contents) (o a v b c d e : List ℕ) → a ≡ o ++ canonical (plain 1 (numeral journal.start)) → v ≡ a ++ texts (map voters_element journal.voters)
    → b ≡ v ++ texts (seconds_elements journal.seconds)
    → c ≡ b ++ texts (map issued_element journal.issued) → d ≡ c ++ texts (map publication_element journal.publications) → e ≡ d ++ canonical (plain 6 [])
    → e ≡ o ++ texts (journal_elements journal)
parts_told journal o a v b c d e ea ev eb ec ed ee =
    ee ∙ last_told d (plain 6 []) ∙ before c (map publication_element journal.publications) (plain 6 [] ∷ []) d ed
    ∙ before b (map issued_element journal.issued) (map publication_element journal.publications ++ plain 6 [] ∷ []) c ec
    ∙ before v (seconds_elements journal.seconds) (map issued_element journal.issued ++ (map publication_element journal.publications ++ plain 6 [] ∷ [])) b eb
    ∙ before a (map voters_element journal.voters) (seconds_elements journal.seconds ++ (map issued_element journal.issued ++ (map publication_element journal.publications ++ plain 6 [] ∷ []))) v ev
    ∙ ap (λ (x : List ℕ). x ++ texts (map voters_element journal.voters ++ (seconds_elements journal.seconds ++ (map issued_element journal.issued ++ (map publication_element journal.publications ++ plain 6 [] ∷ []))))) ea
    ∙ append_assoc o (canonical (plain 1 (numeral journal.start))) _

pub parts_read : (journal : Contents) (start : ℕ) (voters : List VotersFrom) (seconds : List Second) (issued publications : List (ℕ × List ℕ)) (o a v b c d e : List ℕ)
    → start ≡ journal.start → voters ≡ journal.voters → seconds ≡ journal.seconds → issued ≡ journal.issued → publications ≡ journal.publications
    → a ≡ o ++ canonical (plain 1 (numeral start)) → v ≡ a ++ texts (map voters_element voters) → b ≡ v ++ texts (seconds_elements seconds) → c ≡ b ++ texts (map issued_element issued)
    → d ≡ c ++ texts (map publication_element publications) → e ≡ d ++ canonical (plain 6 [])
    → e ≡ o ++ texts (journal_elements journal)
parts_read journal start voters seconds issued publications o a v b c d e one more two three four ea ev eb ec ed ee =
    parts_told journal o a v b c d e
    (ea ∙ ap (λ (n : ℕ). o ++ canonical (plain 1 (numeral n))) one)
    (ev ∙ ap (λ (x : List VotersFrom). a ++ texts (map voters_element x)) more)
    (eb ∙ ap (λ (x : List Second). v ++ texts (seconds_elements x)) two)
    (ec ∙ ap (λ (x : List (ℕ × List ℕ)). b ++ texts (map issued_element x)) three)
    (ed ∙ ap (λ (x : List (ℕ × List ℕ)). c ++ texts (map publication_element x)) four)
    ee
