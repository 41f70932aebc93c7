-- What it means that checks pass.
use Rattle.std.proofs.Common.{◌≡◌, ◌≢◌, ℕ, ◌<◌, ◌≤◌, Bool, true, false, not, List, Result, Ok, Err, refl, ◌⊎◌, inl, inr, nat_le}
use Rattle.std.specs.Str.{bytes_eq}
use Rattle.std.proofs.lemmas.Slice.Eq.{bytes_eq-Decides}
use Rattle.std.proofs.lemmas.Bool.Decides.{leb_tells, not_from_Decides}
use Rattle.ksi_extender.specs.declared.refusal.ExtendRefusal.{ExtendRefusal}
use Rattle.ksi_extender.specs.Checks.{◌>>=◌, ◌>>◌, need}

pub bind_ok : {A B : Type 0} (r : Result A ExtendRefusal) (next : A → Result B ExtendRefusal) (y : B) → (r >>= next) ≡ Ok y → (x : A) × (r ≡ Ok x) × (next x ≡ Ok y)
bind_ok (Ok x) next y e = (x, refl, e)
bind_ok (Err refusal) next y e = absurd cc

pub then_ok : {B : Type 0} (r : Result (Unit {0}) ExtendRefusal) (next : Result B ExtendRefusal) (y : B) → (r >> next) ≡ Ok y → (r ≡ Ok tt) × (next ≡ Ok y)
then_ok (Ok tt) next y e = (refl, e)
then_ok (Err refusal) next y e = absurd cc

need_ok : (test : Bool) (refusal : ExtendRefusal) → need test refusal ≡ Ok tt → test ≡ true
need_ok true refusal e = refl
need_ok false refusal e = absurd cc

not_true : (test : Bool) → not test ≡ true → test ≡ false
not_true true e = absurd cc
not_true false e = refl

pub need_same : (a b : List ℕ) (refusal : ExtendRefusal) → need (bytes_eq a b) refusal ≡ Ok tt → a ≡ b
need_same a b refusal e = (bytes_eq-Decides a b).0 (need_ok (bytes_eq a b) refusal e)

pub need_other : (a b : List ℕ) (refusal : ExtendRefusal) → need (not (bytes_eq a b)) refusal ≡ Ok tt → a ≢ b
need_other a b refusal e = not_from_Decides (bytes_eq a b) (bytes_eq-Decides a b) (not_true (bytes_eq a b) (need_ok (not (bytes_eq a b)) refusal e))

pub le_cases : (a b : ℕ) → ((nat_le a b ≡ true) × (a ≤ b)) ⊎ ((nat_le a b ≡ false) × (b < a))
le_cases a b = leb_tells a b

pub need_le : (a b : ℕ) (refusal : ExtendRefusal) → need (nat_le a b) refusal ≡ Ok tt → a ≤ b
need_le a b refusal e = elim (le_cases a b) [
  | inl holds ↦ holds.1
  | inr fails ↦ absurd (let is = need_ok (nat_le a b) refusal e in let other = fails.0 in cc)
]
