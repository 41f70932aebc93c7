-- Checks in order: the first that fails is the result.
use Rattle.std.specs.Prelude.{ℕ, ◌+◌, Bool, true, false, List, [], ◌∷◌, Result, Ok, Err}
use Rattle.ksi_verifier.specs.declared.refusal.Refusal.{Refusal}

-- the next check, if this one holds, with its value or without
infixl 10 ◌>>=◌ ◌>>◌
abbrev pub ◌>>=◌ : {A B : Type 0} → Result A Refusal → (A → Result B Refusal) → Result B Refusal
(Ok x) >>= next = next x
(Err refusal) >>= next = Err refusal

abbrev pub ◌>>◌ : {A B : Type 0} → Result A Refusal → Result B Refusal → Result B Refusal
(Ok x) >> next = next
(Err refusal) >> next = Err refusal

-- the condition must hold, or the result is the refusal
abbrev pub need : Bool → Refusal → Result (Unit {0}) Refusal
need true refusal = Ok tt
need false refusal = Err refusal

-- a check of each member, with its number; the first one has the number given
abbrev pub each : {A : Type 0} → (ℕ → A → Result (Unit {0}) Refusal) → ℕ → List A → Result (Unit {0}) Refusal
each check k [] = Ok tt
each check k (x ∷ xs) = check k x >> each check (k + 1) xs
