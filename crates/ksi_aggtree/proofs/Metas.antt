-- The bytes of names and of their metadata.
use Rattle.std.proofs.Common.{◌≡◌, ℕ, ◌+◌, ◌<◌, ◌%◌, ◌++◌, ◌∷◌, [], List, length, true, arith, inl, inr}
use Rattle.std.specs.Prelude.{All}
use Rattle.std.proofs.lemmas.List.Elements.{All-append, All-cons, All-nil}
use Rattle.std.proofs.lemmas.Bool.{and_parts}
use Rattle.std.proofs.lemmas.Bool.Decides.{eqb_tells}
use Rattle.ksi_aggtree.specs.Names.{IsName, is_name_byte, are_name_bytes, padding, meta_of}

are_low : List ℕ → Type 0
are_low bytes = All (λ (b : ℕ). b < 256) bytes

name_byte_low : (b : ℕ) → is_name_byte b ≡ true → b < 256
name_byte_low b is = grind arith

pub name_low : (name : List ℕ) → are_name_bytes name ≡ true → All (λ (b : ℕ). b < 256) name
name_low [] is = All-nil (λ b. b < 256)
name_low (b ∷ name) is =
    let both = and_parts (is_name_byte b) (are_name_bytes name) is in
    All-cons (λ b. b < 256) b name (name_byte_low b both.0) (name_low name both.1)

padding_low : (n : ℕ) → All (λ (b : ℕ). b < 256) (padding n)
padding_low n = elim (eqb_tells (n % 2) 0) [
  | inl t ↦ rw t.0 (grind arith)
  | inr f ↦ rw f.0 (grind arith)
]

pub meta_low : (name : List ℕ) → IsName name → All (λ (b : ℕ). b < 256) (meta_of name)
meta_low name is =
    let few = is.few in
    All-append (λ b. b < 256) (padding (length name)) (1 ∷ (length name + 1) ∷ (name ++ 0 ∷ [])) (padding_low (length name))
    (All-cons (λ b. b < 256) 1 ((length name + 1) ∷ (name ++ 0 ∷ [])) (omega arith)
    (All-cons (λ b. b < 256) (length name + 1) (name ++ 0 ∷ []) (omega (arith, few))
    (All-append (λ b. b < 256) name (0 ∷ []) (name_low name is.each) (All-cons (λ b. b < 256) 0 [] (omega arith) (All-nil (λ b. b < 256))))))
