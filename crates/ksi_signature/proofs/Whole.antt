-- A signature, or the first fault.
use Rattle.std.proofs.Common.{◌≡◌, ◌⊎◌, ℕ, ◌-◌, ◌≤◌, Bool, true, false, cond, eqb, ltb, List, [], ◌∷◌, ◌++◌, length, Result, Ok, Err, refl, sym, ap, subst, ◌∙◌, inl, inr, arith}
use Rattle.std.specs.Prelude.{◌↔◌, IsOk}
use Rattle.std.proofs.lemmas.Bool.{eqb-true, eqb-false, ltb-true, ltb-false, le-ltb, lt-ltb, ne_eqb}
use Rattle.std.proofs.lemmas.List.{take_all, append-nil}
use Rattle.ksi_tlv.specs.Spelling.{Tlv, Spells, AreBytes, IsFront}
use Rattle.ksi_tlv.specs.Front.{element_at}
use Rattle.ksi_tlv.specs.Walking.{PlacedTlv, elements, items_of}
use Rattle.ksi_tlv.specs.declared.grammar.fault.ElementFault.{ElementFault}
use Rattle.ksi_tlv.specs.Table.{Verdict, Table, is_table}
use Rattle.ksi_tlv.specs.Containing.{container_verdict}
use Rattle.ksi_tlv.specs.Valid.{IsContainer, IsWhole, IsFirstFault}
use Rattle.ksi_tlv.specs.Inside.{whole}
use Rattle.ksi_signature.specs.declared.fault.SignatureFault.{SignatureFault}
use Rattle.ksi_signature.specs.declared.fault.SignatureFault.TheVariants as answers
use Rattle.ksi_signature.specs.declared.signature.Signature.{Signature}
use Rattle.ksi_signature.specs.Tables.{signature_table}
use Rattle.ksi_signature.specs.Contents.{signature_of}
use Rattle.ksi_signature.specs.File.{Answer, name_of, behind, answer_with, answer_of, IsSignature, IsSignatureFault}

-- the laws of containers and of elements at the front
pub record Laws : Type 0 where
  pub whole : (t : Table) (place inside : ℕ) (body : List ℕ) → is_table t ≡ true → (container_verdict t place inside body ≡ Ok tt) ↔ IsWhole t inside body
  pub fault : (t : Table) (place inside : ℕ) (body : List ℕ) (fault : ElementFault) → is_table t ≡ true → (container_verdict t place inside body ≡ Err fault) ↔ IsFirstFault t place inside body fault
  pub found : (bytes : List ℕ) (e : Tlv) (n : ℕ) → AreBytes bytes → (element_at bytes ≡ Ok (e, n)) ↔ IsFront bytes e n
  pub spelled : (e : Tlv) (text rest : List ℕ) → Spells e text → element_at (text ++ rest) ≡ Ok (e, length text)

abbrev failed : SignatureFault → Answer
failed fault = Err fault

abbrev fails_if : Bool → SignatureFault → Answer
fails_if b fault = cond b (Err fault) (Ok tt)

-- ---- no fault, and so a signature

kind_ok : (b : Bool) (v : Answer) (d : SignatureFault) → cond b v (Err d) ≡ Ok tt → (b ≡ true) × (v ≡ Ok tt)
kind_ok true v d e = (refl, e)
kind_ok false v d e = absurd cc

test_ok : (b : Bool) (d : SignatureFault) → fails_if b d ≡ Ok tt → b ≡ false
test_ok true d e = absurd cc
test_ok false d e = refl

inside_ok : (bytes : List ℕ) (size : ℕ) (v : Verdict) → behind bytes size v ≡ Ok tt → (v ≡ Ok tt) × (ltb size (length bytes) ≡ false)
inside_ok bytes size (Ok u) e = (refl, test_ok (ltb size (length bytes)) (answers.After size) e)
inside_ok bytes size (Err f) e = absurd cc

with_ok : (laws : Laws) (bytes : List ℕ) (r : Result (Tlv × ℕ) ℕ) → AreBytes bytes → element_at bytes ≡ r → answer_with bytes r ≡ Ok tt → (signature : Signature) × IsSignature bytes signature
with_ok laws bytes (Err need) fits read e = absurd cc
with_ok laws bytes (Ok found) fits read e =
    let k = kind_ok (eqb found.0.kind 2048) (behind bytes found.1 (container_verdict signature_table 0 (found.1 - length found.0.body) found.0.body)) (answers.NotSignature found.0.kind) e in
    let i = inside_ok bytes found.1 (container_verdict signature_table 0 (found.1 - length found.0.body) found.0.body) k.1 in
    let front = (laws.found bytes found.0 found.1 fits).0 read in
    let all : length bytes ≤ found.1 = ltb-false _ _ i.1 in
    let within : found.1 ≤ length bytes = front.within in
    let size : found.1 ≡ length bytes = omega (arith, all, within) in
    let c = (laws.whole signature_table 0 (found.1 - length found.0.body) found.0.body refl).0 i.0 in (
      signature_of c.0,
      record {
        element = found.0;
        spelled = subst (Spells found.0) (take_all found.1 bytes all) front.spelled;
        kind = eqb-true _ _ k.0;
        elements = c.0;
        content = subst (λ (n : ℕ). IsContainer signature_table (n - length found.0.body) found.0.body c.0) size c.1;
        value = refl;
      },
    )

pub signature_if_ok : (laws : Laws) (bytes : List ℕ) → AreBytes bytes → answer_of bytes ≡ Ok tt → (signature : Signature) × IsSignature bytes signature
unfolding answer_of
signature_if_ok laws bytes fits e = with_ok laws bytes (element_at bytes) fits refl e

-- ---- a signature, and so no fault

-- the element of a signature is the one at the front
pub front_of : (laws : Laws) (bytes : List ℕ) (element : Tlv) → Spells element bytes → element_at bytes ≡ Ok (element, length bytes)
front_of laws bytes element spelled = ap element_at (sym (append-nil bytes)) ∙ laws.spelled element bytes [] spelled

pub ok_if_signature : (laws : Laws) (bytes : List ℕ) (signature : Signature) → IsSignature bytes signature → answer_of bytes ≡ Ok tt
unfolding answer_of
ok_if_signature laws bytes signature s =
    let inside = (laws.whole signature_table 0 (length bytes - length s.element.body) s.element.body refl).1 (s.elements, s.content) in
    rw (front_of laws bytes s.element s.spelled, s.kind, inside, le-ltb (length bytes) (length bytes) (omega arith)) refl

-- ---- the first fault

kind_err : (b : Bool) (v : Answer) (d f : SignatureFault) → cond b v (Err d) ≡ Err f → ((b ≡ true) × (v ≡ Err f)) ⊎ ((b ≡ false) × (f ≡ d))
kind_err true v d f e = inl (refl, e)
kind_err false v d f e = inr (refl, cc)

test_err : (b : Bool) (d f : SignatureFault) → fails_if b d ≡ Err f → (b ≡ true) × (f ≡ d)
test_err true d f e = (refl, cc)
test_err false d f e = absurd cc

inside_err : (bytes : List ℕ) (size : ℕ) (v : Verdict) (f : SignatureFault) → behind bytes size v ≡ Err f → ((inner : ElementFault) × (v ≡ Err inner) × (f ≡ name_of inner)) ⊎ ((v ≡ Ok tt) × (ltb size (length bytes) ≡ true) × (f ≡ answers.After size))
inside_err bytes size (Ok u) f e = let t = test_err (ltb size (length bytes)) (answers.After size) f e in inr (refl, t.0, t.1)
inside_err bytes size (Err inner) f e = inl (inner, refl, cc)

with_err : (laws : Laws) (bytes : List ℕ) (r : Result (Tlv × ℕ) ℕ) (f : SignatureFault) → AreBytes bytes → element_at bytes ≡ r → answer_with bytes r ≡ Err f → IsSignatureFault bytes f
with_err laws bytes (Err need) f fits read e =
    inl (record {
      none = λ element size front. let here = (laws.found bytes element size fits).1 front in absurd cc;
      named = cc;
    })
with_err laws bytes (Ok found) f fits read e =
    let front = (laws.found bytes found.0 found.1 fits).0 read in
    elim (kind_err (eqb found.0.kind 2048) (behind bytes found.1 (container_verdict signature_table 0 (found.1 - length found.0.body) found.0.body)) (answers.NotSignature found.0.kind) f e) [
      | inr k ↦ inr (inl (record { element = found.0; size = found.1; front = front; kind = λ is. eqb-false _ _ k.0 is; named = k.1 }))
      | inl k ↦ elim (inside_err bytes found.1 (container_verdict signature_table 0 (found.1 - length found.0.body) found.0.body) f k.1) [
        | inl i ↦ inr (inr (inl (record { element = found.0; size = found.1; front = front; kind = eqb-true _ _ k.0; inner = i.0; first = (laws.fault signature_table 0 (found.1 - length found.0.body) found.0.body i.0 refl).0 i.1; named = i.2 })))
        | inr i ↦ inr (inr (inr (record { element = found.0; size = found.1; front = front; kind = eqb-true _ _ k.0; whole = (laws.whole signature_table 0 (found.1 - length found.0.body) found.0.body refl).0 i.0; more = ltb-true _ _ i.1; named = i.2 })))
      ]
    ]

pub fault_if_err : (laws : Laws) (bytes : List ℕ) (f : SignatureFault) → AreBytes bytes → answer_of bytes ≡ Err f → IsSignatureFault bytes f
unfolding answer_of
fault_if_err laws bytes f fits e = with_err laws bytes (element_at bytes) f fits refl e

-- ---- the first fault is what reading answers

none_at : (laws : Laws) (bytes : List ℕ) (r : Result (Tlv × ℕ) ℕ) → AreBytes bytes → element_at bytes ≡ r → ((e : Tlv) (size : ℕ) → IsFront bytes e size → ⊥) → answer_with bytes r ≡ Err (answers.Tlv 0)
none_at laws bytes (Err need) fits read none = refl
none_at laws bytes (Ok found) fits read none = absurd (none found.0 found.1 ((laws.found bytes found.0 found.1 fits).0 read))

pub err_if_fault : (laws : Laws) (bytes : List ℕ) (f : SignatureFault) → AreBytes bytes → IsSignatureFault bytes f → answer_of bytes ≡ failed f
unfolding answer_of
err_if_fault laws bytes f fits (inl h) = none_at laws bytes (element_at bytes) fits refl h.none ∙ ap failed (sym h.named)
err_if_fault laws bytes f fits (inr (inl k)) = rw ((laws.found bytes k.element k.size fits).1 k.front, ne_eqb _ _ k.kind, k.named) refl
err_if_fault laws bytes f fits (inr (inr (inl i))) =
    rw ((laws.found bytes i.element i.size fits).1 i.front, i.kind, (laws.fault signature_table 0 (i.size - length i.element.body) i.element.body i.inner refl).1 i.first, i.named) refl
err_if_fault laws bytes f fits (inr (inr (inr b))) =
    rw ((laws.found bytes b.element b.size fits).1 b.front, b.kind, (laws.whole signature_table 0 (b.size - length b.element.body) b.element.body refl).1 b.whole, lt-ltb _ _ b.more, b.named) refl

-- ---- one of both, and one of each

one_at : (laws : Laws) (bytes : List ℕ) (r : Answer) → AreBytes bytes → answer_of bytes ≡ r → ((signature : Signature) × IsSignature bytes signature) ⊎ ((fault : SignatureFault) × IsSignatureFault bytes fault)
one_at laws bytes (Ok u) fits e = inl (signature_if_ok laws bytes fits e)
one_at laws bytes (Err f) fits e = inr (f, fault_if_err laws bytes f fits e)

pub one_of_both : (laws : Laws) (bytes : List ℕ) → AreBytes bytes → ((signature : Signature) × IsSignature bytes signature) ⊎ ((fault : SignatureFault) × IsSignatureFault bytes fault)
one_of_both laws bytes fits = one_at laws bytes (answer_of bytes) fits refl

pub not_both : (laws : Laws) (bytes : List ℕ) (signature : Signature) (fault : SignatureFault) → AreBytes bytes → IsSignature bytes signature → IsSignatureFault bytes fault → ⊥
not_both laws bytes signature fault fits s f =
    let no : failed fault ≡ Ok tt = sym (err_if_fault laws bytes fault fits f) ∙ ok_if_signature laws bytes signature s in absurd cc

pub one_fault : (laws : Laws) (bytes : List ℕ) (fault other : SignatureFault) → AreBytes bytes → IsSignatureFault bytes fault → IsSignatureFault bytes other → fault ≡ other
one_fault laws bytes fault other fits f g =
    let both : failed fault ≡ failed other = sym (err_if_fault laws bytes fault fits f) ∙ err_if_fault laws bytes other fits g in cc

whole-items_of : (es : List PlacedTlv) → whole (items_of es) ≡ es
whole-items_of [] = refl
whole-items_of (at ∷ es) = ap (λ (es : List PlacedTlv). at ∷ es) (whole-items_of es)

-- the elements of a container are those that are found in it
pub found_in : (t : Table) (inside : ℕ) (body : List ℕ) (es : List PlacedTlv) → IsContainer t inside body es → es ≡ whole (elements inside body)
found_in t inside body es c = sym (whole-items_of es) ∙ ap whole (sym c.split)

abbrev value_of : ℕ → Tlv → Signature
value_of size element = signature_of (whole (elements (size - length element.body) element.body))

pub is_value : (bytes : List ℕ) (signature : Signature) → (s : IsSignature bytes signature) → signature ≡ value_of (length bytes) s.element
is_value bytes signature s = s.value ∙ ap signature_of (found_in signature_table (length bytes - length s.element.body) s.element.body s.elements s.content)

abbrev found : Tlv → ℕ → Tlv × ℕ
found element size = (element, size)

one_front : (a b : Tlv) (m n : ℕ) (r : Result (Tlv × ℕ) ℕ) → r ≡ Ok (a, m) → r ≡ Ok (b, n) → found a m ≡ found b n
one_front a b m n r e f = cc

one_found : (a b : Tlv) (n : ℕ) (r : Result (Tlv × ℕ) ℕ) → r ≡ Ok (a, n) → r ≡ Ok (b, n) → a ≡ b
one_found a b n r e f =
    ap (λ (found : Tlv × ℕ). found.0) (one_front a b n n r e f)

pub one_signature : (laws : Laws) (bytes : List ℕ) (some other : Signature) → IsSignature bytes some → IsSignature bytes other → some ≡ other
one_signature laws bytes some other s r =
    let same = one_found s.element r.element (length bytes) (element_at bytes) (front_of laws bytes s.element s.spelled) (front_of laws bytes r.element r.spelled) in
    is_value bytes some s ∙ ap (value_of (length bytes)) same ∙ sym (is_value bytes other r)

-- ---- what a reader answers

pub ok_answer : (bytes : List ℕ) (r : Answer) → r ≡ answer_of bytes → (answer_of bytes ≡ Ok tt) ↔ ((signature : Signature) × IsSignature bytes signature) → IsOk r ↔ ((signature : Signature) × IsSignature bytes signature)
ok_answer bytes (Ok u) e law = (λ ok. law.0 (sym e), λ s. refl)
ok_answer bytes (Err f) e law = (λ ok. absurd cc, λ s. let no : failed f ≡ Ok tt = e ∙ law.1 s in absurd cc)

pub err_answer : (bytes : List ℕ) (r : Answer) (fault : SignatureFault) → r ≡ answer_of bytes → (answer_of bytes ≡ Err fault) ↔ IsSignatureFault bytes fault → (r ≡ Err fault) ↔ IsSignatureFault bytes fault
err_answer bytes r fault e law = (λ is. law.0 (sym e ∙ is), λ is. e ∙ law.1 is)

-- the signature that is read in the element at the front is the one that the bytes are
pub read_is : (laws : Laws) (bytes : List ℕ) (element : Tlv) (size : ℕ) (signature : Signature) → element_at bytes ≡ Ok (element, size) → ((some : Signature) × IsSignature bytes some) → signature ≡ value_of size element → IsSignature bytes signature
read_is laws bytes element size signature front s value =
    let here = front_of laws bytes s.1.element s.1.spelled in
    let same = one_front element s.1.element size (length bytes) (element_at bytes) front here in
    let values = value ∙ ap (λ (found : Tlv × ℕ). value_of found.1 found.0) same ∙ sym (is_value bytes s.0 s.1) in
    subst (IsSignature bytes) (sym values) s.1

-- a fault that was found is the one there is
pub err_found : {A : Type 0} (bytes : List ℕ) (found fault : SignatureFault) → answer_of bytes ≡ Err found → (answer_of bytes ≡ Err fault) ↔ IsSignatureFault bytes fault
    → (◌≡◌ {A = Result A SignatureFault} (Err found) (Err fault)) ↔ IsSignatureFault bytes fault
err_found {A} bytes found fault e law = (
  λ is. let same : found ≡ fault = cc in law.0 (e ∙ ap (λ (fault : SignatureFault). Err fault) same),
  λ is. let both : failed found ≡ failed fault = sym e ∙ law.1 is in let same : found ≡ fault = cc in ap (λ (fault : SignatureFault). Err fault) same,
)
