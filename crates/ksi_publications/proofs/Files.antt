-- A publications file or its first fault.
use Rattle.std.proofs.Common.{◌≡◌, ◌⊎◌, ℕ, List, [], ◌∷◌, ◌++◌, true, Ok, Err, refl, sym, ap, subst, ◌∙◌, inl, inr}
use Rattle.std.specs.Prelude.{◌↔◌}
use Rattle.std.proofs.lemmas.List.{append_cancel_left}
use Rattle.std.proofs.lemmas.Bool.{cases_eq}
use Rattle.ksi_tlv.specs.Walking.{PlacedTlv, elements, items_of}
use Rattle.ksi_tlv.specs.declared.grammar.fault.ElementFault.{ElementFault}
use Rattle.ksi_tlv.specs.Table.{Verdict, Table, is_table}
use Rattle.ksi_tlv.specs.Containing.{container_verdict}
use Rattle.ksi_tlv.specs.Valid.{IsContainer, IsWhole, IsFirstFault}
use Rattle.ksi_tlv.specs.Inside.{whole}
use Rattle.ksi_publications.specs.declared.fault.PublicationsFault.{PublicationsFault}
use Rattle.ksi_publications.specs.declared.fault.PublicationsFault.TheVariants as answers
use Rattle.ksi_publications.specs.Tables.{file_table}
use Rattle.ksi_publications.specs.File.{magic, pairs_of, IsNamed, IsPublications, IsPublicationsFault}
use Rattle.ksi_publications.proofs.Named.{AreByTable, file_named, one_name}

-- the laws of containers
pub record Laws : Type 0 where
  pub whole : (t : Table) (place inside : ℕ) (body : List ℕ) → is_table t ≡ true → (container_verdict t place inside body ≡ Ok tt) ↔ IsWhole t inside body
  pub fault : (t : Table) (place inside : ℕ) (body : List ℕ) (fault : ElementFault) → is_table t ≡ true → (container_verdict t place inside body ≡ Err fault) ↔ IsFirstFault t place inside body fault

-- ---- the magic

behind_head : (x y : ℕ) (front bytes : List ℕ) → x ≡ y → ((rest : List ℕ) × (bytes ≡ front ++ rest)) ⊎ ((rest : List ℕ) → bytes ≡ front ++ rest → ⊥)
    → ((rest : List ℕ) × (y ∷ bytes ≡ x ∷ front ++ rest)) ⊎ ((rest : List ℕ) → y ∷ bytes ≡ x ∷ front ++ rest → ⊥)
behind_head x y front bytes same (inl found) = inl (found.0, let tails = found.1 in cc)
behind_head x y front bytes same (inr other) = inr (λ rest e. let tails : bytes ≡ front ++ rest = cc in other rest tails)

begins : (front bytes : List ℕ) → ((rest : List ℕ) × (bytes ≡ front ++ rest)) ⊎ ((rest : List ℕ) → bytes ≡ front ++ rest → ⊥)
begins [] bytes = inl (bytes, refl)
begins (x ∷ front) [] = inr (λ rest e. absurd cc)
begins (x ∷ front) (y ∷ bytes) =
    elim (cases_eq x y) [
      | inl same ↦ behind_head x y front bytes same (begins front bytes)
      | inr other ↦ inr (λ rest e. let same : x ≡ y = cc in other same)
    ]

one_rest : (bytes rest other : List ℕ) → bytes ≡ magic ++ rest → bytes ≡ magic ++ other → rest ≡ other
one_rest bytes rest other e f = append_cancel_left magic rest other (sym e ∙ f)

-- ---- one of both, and one list or fault

inside_one : (laws : Laws) → AreByTable → (bytes rest : List ℕ) (v : Verdict) → bytes ≡ magic ++ rest → container_verdict file_table 0 8 rest ≡ v
    → ((pairs : List (ℕ × List ℕ)) × IsPublications bytes pairs) ⊎ ((fault : PublicationsFault) × IsPublicationsFault bytes fault)
inside_one laws law bytes rest (Ok u) e is =
    let c = (laws.whole file_table 0 8 rest refl).0 is in
    inl (pairs_of c.0, record { rest = rest; begins = e; elements = c.0; content = c.1; records = refl })
inside_one laws law bytes rest (Err inner) e is =
    let n = file_named law 0 8 rest inner is in
    inr (n.0, inr (record { rest = rest; begins = e; inner = inner; first = (laws.fault file_table 0 8 rest inner refl).0 is; named = n.1 }))

pub one_of_both : (laws : Laws) → AreByTable → (bytes : List ℕ) → ((pairs : List (ℕ × List ℕ)) × IsPublications bytes pairs) ⊎ ((fault : PublicationsFault) × IsPublicationsFault bytes fault)
one_of_both laws law bytes =
    elim (begins magic bytes) [
      | inl found ↦ inside_one laws law bytes found.0 (container_verdict file_table 0 8 found.0) found.1 refl
      | inr other ↦ inr (answers.Magic, inl (record { begins = other; named = refl }))
    ]

verdict_of : (laws : Laws) (bytes rest : List ℕ) (pairs : List (ℕ × List ℕ)) → IsPublications bytes pairs → bytes ≡ magic ++ rest → container_verdict file_table 0 8 rest ≡ Ok tt
verdict_of laws bytes rest pairs file e =
    let same = one_rest bytes file.rest rest file.begins e in
    subst (λ (rest : List ℕ). container_verdict file_table 0 8 rest ≡ Ok tt) same ((laws.whole file_table 0 8 file.rest refl).1 (file.elements, file.content))

abbrev failed : ElementFault → Verdict
failed fault = Err fault

pub not_both : (laws : Laws) (bytes : List ℕ) (pairs : List (ℕ × List ℕ)) (fault : PublicationsFault) → IsPublications bytes pairs → IsPublicationsFault bytes fault → ⊥
not_both laws bytes pairs fault file (inl other) = other.begins file.rest file.begins
not_both laws bytes pairs fault file (inr inside) =
    let ok = verdict_of laws bytes inside.rest pairs file inside.begins in
    let err : container_verdict file_table 0 8 inside.rest ≡ failed inside.inner = (laws.fault file_table 0 8 inside.rest inside.inner refl).1 inside.first in
    let no : failed inside.inner ≡ Ok tt = sym err ∙ ok in absurd cc

pub whole-items_of : (es : List PlacedTlv) → whole (items_of es) ≡ es
whole-items_of [] = refl
whole-items_of (at ∷ es) = ap (λ (es : List PlacedTlv). at ∷ es) (whole-items_of es)

-- the elements of a file are those that are found in it
elements_of : (bytes rest : List ℕ) (pairs : List (ℕ × List ℕ)) → (file : IsPublications bytes pairs) → bytes ≡ magic ++ rest → file.elements ≡ whole (elements 8 rest)
elements_of bytes rest pairs file e =
    let same = one_rest bytes file.rest rest file.begins e in
    sym (whole-items_of file.elements) ∙ ap whole (sym file.content.split) ∙ ap (λ (rest : List ℕ). whole (elements 8 rest)) same

pub one_list : (bytes : List ℕ) (some others : List (ℕ × List ℕ)) → IsPublications bytes some → IsPublications bytes others → some ≡ others
one_list bytes some others file other =
    file.records ∙ ap pairs_of (elements_of bytes file.rest some file file.begins ∙ sym (elements_of bytes file.rest others other file.begins)) ∙ sym other.records

pub one_fault : (laws : Laws) (bytes : List ℕ) (a b : PublicationsFault) → IsPublicationsFault bytes a → IsPublicationsFault bytes b → a ≡ b
one_fault laws bytes a b (inl x) (inl y) = x.named ∙ sym y.named
one_fault laws bytes a b (inl x) (inr y) = absurd (x.begins y.rest y.begins)
one_fault laws bytes a b (inr x) (inl y) = absurd (y.begins x.rest x.begins)
one_fault laws bytes a b (inr x) (inr y) =
    let rests = one_rest bytes x.rest y.rest x.begins y.begins in
    let ex : container_verdict file_table 0 8 x.rest ≡ failed x.inner = (laws.fault file_table 0 8 x.rest x.inner refl).1 x.first in
    let ey : container_verdict file_table 0 8 y.rest ≡ failed y.inner = (laws.fault file_table 0 8 y.rest y.inner refl).1 y.first in
    let both : failed x.inner ≡ failed y.inner = sym ex ∙ ap (container_verdict file_table 0 8) rests ∙ ey in
    let inner : x.inner ≡ y.inner = cc in
    one_name y.inner a b (subst (λ (f : ElementFault). IsNamed f a) inner x.named) y.named

-- ---- what a reader answers

pub file_of : (bytes rest : List ℕ) (pairs : List (ℕ × List ℕ)) → bytes ≡ magic ++ rest → IsContainer file_table 8 rest (whole (elements 8 rest)) → pairs ≡ pairs_of (whole (elements 8 rest)) → IsPublications bytes pairs
file_of bytes rest pairs e held is = record { rest = rest; begins = e; elements = whole (elements 8 rest); content = held; records = is }

pub fault_of : (laws : Laws) (bytes rest : List ℕ) (inner : ElementFault) (fault : PublicationsFault) → bytes ≡ magic ++ rest → container_verdict file_table 0 8 rest ≡ Err inner → IsNamed inner fault → IsPublicationsFault bytes fault
fault_of laws bytes rest inner fault e is named =
    inr (record { rest = rest; begins = e; inner = inner; first = (laws.fault file_table 0 8 rest inner refl).0 is; named = named })
