-- Where the elements of a signature stand in its bytes.
use Rattle.std.proofs.Common.{◌≡◌, ℕ, ◌+◌, ◌-◌, ◌<◌, ◌≤◌, List, [], ◌∷◌, ◌++◌, length, take, drop, Ok, refl, sym, ap, subst, ◌∙◌, inl, inr, arith, length-append, length-drop}
use Rattle.std.specs.Prelude.{◌↔◌}
use Rattle.std.specs.List.{AllByRecursion}
use Rattle.std.proofs.lemmas.List.{append-nil, drop_at, drop-drop}
use Rattle.std.proofs.lemmas.List.Elements.{All-drop}
use Rattle.ksi_tlv.specs.Spelling.{Tlv, Spells, AreBytes}
use Rattle.ksi_tlv.specs.Walking.{PlacedTlv, placed_at, Items, elements, joined, laid, items_of, end_at, IsReading}
use Rattle.ksi_signature.specs.declared.signature.Signature.{Signature}
use Rattle.ksi_signature.specs.Tables.{signature_table}
use Rattle.ksi_signature.specs.File.{IsSignature}
use Rattle.ksi_signature.specs.Reading.{held_by, elements_in}
use Rattle.ksi_signature.specs.Extended.{text_in, StandsIn}
use Rattle.ksi_signature.proofs.Whole.{Laws, front_of, found_in}

abbrev pub Reading : Type 0
Reading = (place : ℕ) (bytes : List ℕ) (items : Items) → AreBytes bytes → (items ≡ elements place bytes) ↔ IsReading place bytes items

abbrev pub AreSpelled : List (Tlv × List ℕ) → Type 0
AreSpelled parts = AllByRecursion (λ part. Spells part.0 part.1) parts

-- ---- a header and a body

drop_two : (a b : ℕ) (body : List ℕ) → drop (length (a ∷ b ∷ body) - length body) (a ∷ b ∷ body) ≡ body
drop_two a b body = let two : length (a ∷ b ∷ body) - length body ≡ 2 = omega arith in rw two refl

drop_four : (a b c d : ℕ) (body : List ℕ) → drop (length (a ∷ b ∷ c ∷ d ∷ body) - length body) (a ∷ b ∷ c ∷ d ∷ body) ≡ body
drop_four a b c d body = let four : length (a ∷ b ∷ c ∷ d ∷ body) - length body ≡ 4 = omega arith in rw four refl

-- the body ends the text
pub body_last : (e : Tlv) (text : List ℕ) → Spells e text → drop (length text - length e.body) text ≡ e.body
body_last e text (inl short) = rw short.1 (drop_two _ _ e.body)
body_last e text (inr long) = rw long.1 (drop_four _ _ _ _ e.body)

pub body_within : (e : Tlv) (text : List ℕ) → Spells e text → length e.body + 2 ≤ length text
body_within e text (inl short) = rw short.1 (omega arith)
body_within e text (inr long) = rw long.1 (omega arith)

-- ---- texts one after the other in a file

pub text_at : (bytes : List ℕ) (place n : ℕ) (e : Tlv) → length e.body ≤ n → text_in bytes (placed_at place e n) ≡ take n (drop place bytes)
text_at bytes place n e le =
    let size : place + (n - length e.body) + length e.body - place ≡ n = omega arith in ap (λ (n : ℕ). take n (drop place bytes)) size

pub behind : (bytes text rest : List ℕ) (place : ℕ) → drop place bytes ≡ text ++ rest → drop (place + length text) bytes ≡ rest
behind bytes text rest place is = sym (drop-drop (length text) place bytes) ∙ ap (drop (length text)) is ∙ drop_at text rest (length text) refl

pub all_stand : (bytes : List ℕ) (place : ℕ) (parts : List (Tlv × List ℕ)) → AreSpelled parts → drop place bytes ≡ joined parts → AllByRecursion (StandsIn bytes) (laid place parts)
all_stand bytes place [] spelled is = tt
all_stand bytes place (part ∷ parts) spelled is =
    let within = body_within part.0 part.1 spelled.0 in
    let size : length bytes - place ≡ length (part.1 ++ joined parts) = sym (length-drop place bytes) ∙ ap length is in (
      record { begins = omega arith; ends = omega (arith, size, length-append part.1 (joined parts)) },
      all_stand bytes (place + length part.1) parts spelled.1 (behind bytes part.1 (joined parts) place is),
    )

-- ---- the elements of a signature are all of its body

no_item : (at : PlacedTlv) (es : List PlacedTlv) (place : ℕ) (left : List ℕ) → items_of (at ∷ es) ≡ end_at place left → ⊥
no_item at es place [] is = absurd cc
no_item at es place (b ∷ left) is = absurd cc

nothing_left : (place : ℕ) (left : List ℕ) → end_at place left ≡ [] → left ≡ []
nothing_left place [] is = refl
nothing_left place (b ∷ left) is = absurd cc

abbrev items_head : PlacedTlv → Items → Items
items_head at es = Ok at ∷ es

same_head : (at bt : PlacedTlv) (es fs : Items) → items_head at es ≡ items_head bt fs → (at ≡ bt) × (es ≡ fs)
same_head at bt es fs is = (cc, cc)

pub all_read : (es fs : List PlacedTlv) (place : ℕ) (left : List ℕ) → items_of es ≡ items_of fs ++ end_at place left → (left ≡ []) × (es ≡ fs)
all_read [] [] place left is = (nothing_left place left (sym is), refl)
all_read [] (bt ∷ fs) place left is = absurd cc
all_read (at ∷ es) [] place left is = absurd (no_item at es place left is)
all_read (at ∷ es) (bt ∷ fs) place left is =
    let heads = same_head at bt (items_of es) (items_of fs ++ end_at place left) is in
    let rest = all_read es fs place left heads.1 in
    (rest.0, rw (heads.0, rest.1) refl)

-- the texts of a signature's elements, one after the other, are its body
pub record Parts (bytes : List ℕ) : Type 0 where
  pub place : ℕ
  pub parts : List (Tlv × List ℕ)
  pub spelled : AreSpelled parts
  pub body : drop place bytes ≡ joined parts
  pub laid_in : elements_in bytes ≡ laid place parts

pub elements_of : (laws : Laws) (bytes : List ℕ) (signature : Signature) → (s : IsSignature bytes signature) → elements_in bytes ≡ s.elements
elements_of laws bytes signature s =
    ap held_by (front_of laws bytes s.element s.spelled) ∙ sym (found_in signature_table (length bytes - length s.element.body) s.element.body s.elements s.content)

pub parts_of : (laws : Laws) → Reading → (bytes : List ℕ) (signature : Signature) → AreBytes bytes → IsSignature bytes signature → Parts bytes
parts_of laws reading bytes signature fits s =
    let inside = length bytes - length s.element.body in
    let last : drop inside bytes ≡ s.element.body = body_last s.element bytes s.spelled in
    let r = (reading inside s.element.body (elements inside s.element.body) (subst AreBytes last (All-drop (λ b. b < 256) inside bytes fits))).0 refl in
    let all = all_read s.elements (laid inside r.parts) (inside + length (joined r.parts)) r.left (sym s.content.split ∙ r.placed) in
    record {
      place = inside;
      parts = r.parts;
      spelled = r.spelled;
      body = last ∙ r.split ∙ ap (λ (left : List ℕ). joined r.parts ++ left) all.0 ∙ append-nil (joined r.parts);
      laid_in = elements_of laws bytes signature s ∙ all.1;
    }

pub elements_stand : (laws : Laws) → Reading → (bytes : List ℕ) → AreBytes bytes → ((signature : Signature) × IsSignature bytes signature) → AllByRecursion (StandsIn bytes) (elements_in bytes)
elements_stand laws reading bytes fits s =
    let p = parts_of laws reading bytes s.0 fits s.1 in
    subst (AllByRecursion (StandsIn bytes)) (sym p.laid_in) (all_stand bytes p.place p.parts p.spelled p.body)
