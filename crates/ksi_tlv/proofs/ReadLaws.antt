-- The laws of elements, at what was read.
use Rattle.std.proofs.Common.{◌≡◌, ℕ, ◌<◌, ◌≤◌, List, [], ◌∷◌, ◌++◌, false, eqb, length, Result, Ok, Err, sym, ap, ◌∙◌, refl, arith}
use Rattle.std.specs.Prelude.{IfOk, IfErr, IsOk, IsOkAnd, ◌↔◌}
use Rattle.ksi_tlv.specs.Spelling.{Tlv, Spells, IsFront}
use Rattle.ksi_tlv.specs.Front.{size_at, element_at}
use Rattle.ksi_tlv.specs.Walking.{elements}
use Rattle.ksi_tlv.proofs.FrontLaws.{IsBytes, element_at-found, element_at-spelled, element_at-ok, element_at-err}
use Rattle.ksi_tlv.proofs.WalkLaws.{elements-nil, elements-cut}
use Rattle.ksi_tlv.specs.declared.element.Element.{Element}
use Rattle.ksi_tlv.specs.declared.element.TlvFault.{TlvFault}
use Rattle.ksi_tlv.specs.declared.element.TlvFault.TheVariants.{Short}
use Rattle.ksi_tlv.specs.Views.{view, view_front, view_cut}

abbrev ok : Tlv × ℕ → Result (Tlv × ℕ) ℕ
ok x = Ok x

ok_is : (x y : Tlv × ℕ) → ok x ≡ ok y → (x.0 ≡ y.0) × (x.1 ≡ y.1)
ok_is x y e = let same : x ≡ y = cc in (ap (λ (p : Tlv × ℕ). p.0) same, ap (λ (p : Tlv × ℕ). p.1) same)

pub is_found : (bytes : List ℕ) (r : Result (Element × ℕ) TlvFault) → IsBytes bytes → element_at bytes ≡ view_front r → IfOk r (λ found. IsFront bytes (view found.0) found.1)
is_found bytes (Ok found) fits read = element_at-found bytes (view found.0) found.1 fits read
is_found bytes (Err fault) fits read = tt

pub is_only : (bytes : List ℕ) (r : Result (Element × ℕ) TlvFault) (e : Tlv) (text rest : List ℕ) → element_at bytes ≡ view_front r → Spells e text → bytes ≡ text ++ rest
    → IsOkAnd r (λ found. (view found.0 ≡ e) × (found.1 ≡ length text))
is_only bytes (Ok found) e text rest read spells is = ok_is (view found.0, found.1) (e, length text) (sym read ∙ ap element_at is ∙ element_at-spelled e text rest spells)
is_only bytes (Err (Short need have)) e text rest read spells is = let none : Err need ≡ ok (e, length text) = sym read ∙ ap element_at is ∙ element_at-spelled e text rest spells in absurd cc

pub is_ok : (bytes : List ℕ) (r : Result (Element × ℕ) TlvFault) → element_at bytes ≡ view_front r → IsOk r ↔ (size_at bytes ≤ length bytes)
is_ok bytes (Ok found) read = (λ _. (element_at-ok bytes (view found.0) found.1 read).1, λ _. refl)
is_ok bytes (Err (Short need have)) read = (λ never. absurd cc, λ le. let lt : length bytes < size_at bytes = (element_at-err bytes need read).1 in absurd (omega arith))

pub is_short : (bytes : List ℕ) (r : Result (Element × ℕ) TlvFault) → element_at bytes ≡ view_front r → IfErr r (λ fault. (view_cut 0 fault).have ≡ length bytes)
    → IfErr r (λ fault. fault ≡ Short (size_at bytes) (length bytes))
is_short bytes (Ok found) read have = tt
is_short bytes (Err (Short need have)) read stands = rw (stands, (element_at-err bytes need read).0) refl

pub rest_cut : (place : ℕ) (bytes : List ℕ) (fault : TlvFault) → eqb (length bytes) 0 ≡ false → element_at bytes ≡ view_front (Err fault) → fault ≡ Short (size_at bytes) (length bytes)
    → elements place bytes ≡ Err (view_cut place fault) ∷ elements place []
rest_cut place [] fault some read is = absurd cc
rest_cut place (b ∷ bytes) (Short need have) some read is =
    let stands : length (b ∷ bytes) ≡ have = cc in
    rw (elements-nil, sym stands) (elements-cut place b bytes need read)
