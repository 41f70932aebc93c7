-- What is written one after the other.
use Rattle.std.proofs.Common.{◌≡◌, ℕ, List, [], ◌∷◌, ◌++◌, refl, sym, ap, ◌∙◌, append_assoc, append-nil}
use Rattle.ksi_tlv.specs.Spelling.{Tlv, canonical}
use Rattle.ksi_tlv.specs.Writing.{texts}

pub texts-append : (xs ys : List Tlv) → texts (xs ++ ys) ≡ texts xs ++ texts ys
texts-append [] ys = refl
texts-append (x ∷ xs) ys = ap (λ (t : List ℕ). canonical x ++ t) (texts-append xs ys) ∙ sym (append_assoc (canonical x) (texts xs) (texts ys))

-- the last element
pub last_told : (d : List ℕ) (e : Tlv) → d ++ canonical e ≡ d ++ texts (e ∷ [])
last_told d e = ap (λ (t : List ℕ). d ++ t) (sym (append-nil (canonical e)))

-- elements, and more behind them
pub before : (x : List ℕ) (es more : List Tlv) (y : List ℕ) → y ≡ x ++ texts es → y ++ texts more ≡ x ++ texts (es ++ more)
before x es more y is = ap (λ (t : List ℕ). t ++ texts more) is ∙ append_assoc x (texts es) (texts more) ∙ ap (λ (t : List ℕ). x ++ t) (sym (texts-append es more))
