-- What is answered where a signature is given another calendar chain.
use Rattle.std.proofs.Common.{◌≡◌, ◌⊎◌, ℕ, ◌<◌, ◌≤◌, Bool, true, false, cond, ltb, List, [], ◌∷◌, ◌++◌, length, map, Option, Some, Result, Ok, Err, refl, sym, ap, ◌∙◌, inl, inr, arith}
use Rattle.std.specs.Prelude.{◌↔◌}
use Rattle.std.proofs.lemmas.Bool.{ltb-true}
use Rattle.std.proofs.lemmas.List.{append-nil, length-append}
use Rattle.ksi_imprint.specs.declared.refused.Refused.{Refused}
use Rattle.ksi_imprint.specs.declared.refused.Refused.TheVariants.{Fault, NoMemory}
use Rattle.ksi_tlv.specs.Spelling.{plain, canonical}
use Rattle.ksi_tlv.specs.Walking.{PlacedTlv}
use Rattle.ksi_tlv.specs.Writing.{texts}
use Rattle.ksi_tlv.specs.Published.{published_elements}
use Rattle.ksi_signature.specs.declared.fault.SignatureFault.{SignatureFault}
use Rattle.ksi_signature.specs.declared.refusal.WriteRefusal.{WriteRefusal}
use Rattle.ksi_signature.specs.declared.refusal.WriteRefusal.TheVariants as unwritten
use Rattle.ksi_signature.specs.declared.extension.WithRefusal.{WithRefusal}
use Rattle.ksi_signature.specs.declared.extension.WithRefusal.TheVariants as refusals
use Rattle.ksi_signature.specs.Values.{Calendar, Publishing}
use Rattle.ksi_signature.specs.Renewed.{too_long}
use Rattle.ksi_signature.specs.Lengths.{capped}
use Rattle.ksi_signature.specs.Written.{publishing_elements, first_long, TellsLong}
use Rattle.ksi_signature.specs.Reading.{elements_in}
use Rattle.ksi_signature.specs.Extended.{content_with, extended_content, IsTooLong}
use Rattle.ksi_signature.proofs.Capped.{size-canonical, length-joined}

-- ---- the clauses, by what reading answers

pub malformed_passed : {A B : Type 0} (fault f : SignatureFault) (F : Type 0) → (◌≡◌ {A = Result A SignatureFault} (Err fault) (Err f)) ↔ F
    → (◌≡◌ {A = Result B (Refused WithRefusal)} (Err (Fault (refusals.Malformed fault))) (Err (Fault (refusals.Malformed f)))) ↔ F
malformed_passed fault f F law = (
  λ is. let same : fault ≡ f = cc in law.0 (ap (λ (fault : SignatureFault). Err fault) same),
  λ stands. let here = law.1 stands in let same : fault ≡ f = cc in ap (λ (fault : SignatureFault). Err (Fault (refusals.Malformed fault))) same,
)

pub long_passed : {A B : Type 0} (refused : Refused WriteRefusal) (refusal : WriteRefusal) (told : WithRefusal) (n : ℕ) (L : Type 0) → refused ≡ Fault refusal → told ≡ too_long refusal
    → (◌≡◌ {A = Result A (Refused WriteRefusal)} (Err refused) (Err (Fault (unwritten.TooLong n)))) ↔ L
    → (◌≡◌ {A = Result B (Refused WithRefusal)} (Err (Fault told)) (Err (Fault (refusals.TooLong n)))) ↔ L
long_passed refused (unwritten.TooLong m) told n L is_refused is_told law = (
  λ is. let same : m ≡ n = cc in law.0 (ap (λ (refused : Refused WriteRefusal). Err refused) (is_refused ∙ ap (λ (n : ℕ). Fault (unwritten.TooLong n)) same)),
  λ long. let here = law.1 long in let same : m ≡ n = cc in ap (λ (told : WithRefusal). Err (Fault told)) (is_told ∙ ap (λ (n : ℕ). refusals.TooLong n) same),
)

pub never_long : {A B : Type 0} (r : Result A (Refused WriteRefusal)) (s : Result B (Refused WithRefusal)) (n : ℕ) (L : Type 0) → (r ≡ Err (Fault (unwritten.TooLong n))) ↔ L
    → (r ≡ Err (Fault (unwritten.TooLong n)) → ⊥) → (s ≡ Err (Fault (refusals.TooLong n)) → ⊥) → (s ≡ Err (Fault (refusals.TooLong n))) ↔ L
never_long r s n L law none never = (λ is. absurd (never is), λ long. absurd (none (law.1 long)))

above : (size total : ℕ) → total ≡ capped size → 65535 < total → 65535 < size
above size total is lt = grind (arith, is, lt)

pub within : (size total : ℕ) → total ≡ capped size → total ≤ 65535 → size ≤ 65535
within size total is le = grind (arith, is, le)

pub renewed_long : {A : Type 0} (size total n : ℕ) (r : Result A (Refused WriteRefusal)) → total ≡ capped size → 65535 < total → r ≡ Err (Fault (unwritten.TooLong total)) → (r ≡ Err (Fault (unwritten.TooLong n))) ↔ IsTooLong size n
renewed_long size total n r capped_is lt is = (
  λ long. let one : total ≡ n = cc in record { long = above size total capped_is lt; number = sym one ∙ capped_is },
  λ h. let number = h.number in cc,
)

pub renewed_not : {A : Type 0} (size total n : ℕ) (r : Result A (Refused WriteRefusal)) → total ≡ capped size → total ≤ 65535 → (r ≡ Err (Fault (unwritten.TooLong n)) → ⊥) → (r ≡ Err (Fault (unwritten.TooLong n))) ↔ IsTooLong size n
renewed_not size total n r is le never =
    (λ long. absurd (never long), λ h. let lt = h.long in let short = within size total is le in absurd (omega arith))

-- the content by the elements that were found
pub content_found : (bytes : List ℕ) (es : List PlacedTlv) (chain : Calendar) (published : Publishing) → elements_in bytes ≡ es → extended_content bytes chain published ≡ content_with bytes es chain published
unfolding extended_content
content_found bytes es chain published found = ap (λ (es : List PlacedTlv). content_with bytes es chain published) found

-- ---- a record that is not too long

some_at : (b : Bool) (size n : ℕ) (rest : Option ℕ) → ltb 65535 size ≡ b → cond b (Some size) rest ≡ Some n → (65535 < size) ⊎ (rest ≡ Some n)
some_at true size n rest test is = inl (ltb-true _ _ test)
some_at false size n rest test is = inr is

long_among : (kind : ℕ) (bodies : List (List ℕ)) (more : List ℕ) (n : ℕ) → first_long (map length bodies ++ more) ≡ Some n → (65535 < length (texts (map (plain kind) bodies))) ⊎ (first_long more ≡ Some n)
long_among kind [] more n is = inr is
long_among kind (body ∷ bodies) more n is =
    let size = length-append (canonical (plain kind body)) (texts (map (plain kind) bodies)) in
    elim (some_at (ltb 65535 (length body)) (length body) n (first_long (map length bodies ++ more)) refl is) [
      | inl long ↦ inl (omega (arith, long, size, body_in kind body))
      | inr rest ↦ elim (long_among kind bodies more n rest) [
        | inl long ↦ inl (omega (arith, long, size))
        | inr more ↦ inr more
      ]
    ]
  where
    body_in : (kind : ℕ) (body : List ℕ) → length body ≤ length (canonical (plain kind body))
    body_in kind body = grind (arith, size-canonical (plain kind body))

none_long : (n : ℕ) → first_long [] ≡ Some n → ⊥
none_long n is = absurd cc

tells_some : {A : Type 0} (sizes : List ℕ) (r : Result A (Refused WriteRefusal)) (n : ℕ) → TellsLong sizes r → r ≡ Err (Fault (unwritten.TooLong n)) → first_long sizes ≡ Some n
tells_some sizes (Ok value) n tells is = absurd cc
tells_some sizes (Err NoMemory) n tells is = absurd cc
tells_some sizes (Err (Fault (unwritten.TooLong size))) n tells is = let same : size ≡ n = cc in tells ∙ ap (λ (n : ℕ). Some n) same

pub record_short : {A : Type 0} (p : Publishing) (r : Result A (Refused WriteRefusal)) (refusal : WriteRefusal) → TellsLong (map length p.references ++ map length p.repositories) r → r ≡ Err (Fault refusal) → length (texts (publishing_elements p)) ≤ 65535 → ⊥
record_short p r (unwritten.TooLong n) tells is short =
    let front = canonical (plain 16 (texts (published_elements p.time p.hash))) in
    let all = length-append front (texts (map (plain 9) p.references ++ map (plain 10) p.repositories)) in
    let both = length-joined (map (plain 9) p.references) (map (plain 10) p.repositories) in
    elim (long_among 9 p.references (map length p.repositories) n (tells_some (map length p.references ++ map length p.repositories) r n tells is)) [
      | inl long ↦ absurd (omega (arith, long, all, both, short))
      | inr rest ↦ elim (long_among 10 p.repositories [] n (ap first_long (append-nil (map length p.repositories)) ∙ rest)) [
        | inl long ↦ absurd (omega (arith, long, all, both, short))
        | inr none ↦ none_long n none
      ]
    ]
