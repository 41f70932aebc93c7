-- What it means that checks pass.
use Rattle.std.proofs.Common.{◌≡◌, ◌≢◌, ◌↔◌, ℕ, ◌+◌, Bool, true, false, not, List, [], ◌∷◌, Result, Ok, Err, refl, ap, ◌∙◌}
use Rattle.std.specs.Prelude.{◌==◌}
use Rattle.std.specs.List.{AllByRecursion}
use Rattle.std.specs.Str.{bytes_eq}
use Rattle.std.proofs.lemmas.Slice.Eq.{bytes_eq-Decides}
use Rattle.std.proofs.lemmas.Bool.Decides.{Decides-eqb, not_from_Decides}
use Rattle.ksi_verifier.specs.declared.refusal.Refusal.{Refusal}
use Rattle.ksi_verifier.specs.Checks.{◌>>=◌, ◌>>◌, need, each}

abbrev pub Passes : Result (Unit {0}) Refusal → Type 0
Passes r = r ≡ Ok tt

abbrev pub good : {A : Type 0} → A → Result A Refusal
good x = Ok x

pub ok_is : {A : Type 0} (x y : A) → good x ≡ good y → x ≡ y
ok_is x y e = cc

-- one check and what follows it
pub bind_both : {A B : Type 0} (r : Result A Refusal) (next : A → Result B Refusal) (y : B) → ((r >>= next) ≡ Ok y) ↔ ((x : A) × (r ≡ Ok x) × (next x ≡ Ok y))
bind_both (Ok x) next y = (λ e. (x, refl, e), λ h. ap next (ok_is x h.0 h.1) ∙ h.2)
bind_both (Err refusal) next y = (λ e. absurd cc, λ h. absurd (let e = h.1 in cc))

pub then_both : {B : Type 0} (r : Result (Unit {0}) Refusal) (next : Result B Refusal) (y : B) → ((r >> next) ≡ Ok y) ↔ (Passes r × (next ≡ Ok y))
then_both (Ok tt) next y = (λ e. (refl, e), λ h. h.1)
then_both (Err refusal) next y = (λ e. absurd cc, λ h. absurd (let e = h.0 in cc))

pub need_both : (test : Bool) (refusal : Refusal) → Passes (need test refusal) ↔ (test ≡ true)
need_both true refusal = (λ e. refl, λ e. refl)
need_both false refusal = (λ e. absurd cc, λ e. absurd cc)

pub need_same : (a b : List ℕ) (refusal : Refusal) → Passes (need (bytes_eq a b) refusal) ↔ (a ≡ b)
need_same a b refusal =
    let d = bytes_eq-Decides a b in
    let n = need_both (bytes_eq a b) refusal in
    (λ e. d.0 (n.0 e), λ e. n.1 (d.1 e))

pub need_equal : (a b : ℕ) (refusal : Refusal) → Passes (need (a == b) refusal) ↔ (a ≡ b)
need_equal a b refusal =
    let d = Decides-eqb a b in
    let n = need_both (a == b) refusal in
    (λ e. d.0 (n.0 e), λ e. n.1 (d.1 e))

not_true : (b : Bool) → (not b ≡ true) ↔ (b ≡ false)
not_true true = (λ e. absurd cc, λ e. absurd cc)
not_true false = (λ e. refl, λ e. refl)

false_is : (b : Bool) (P : Type 0) → (b ≡ true) ↔ P → (P → ⊥) → b ≡ false
false_is true P d none = absurd (none (d.0 refl))
false_is false P d none = refl

pub need_other : (a b : List ℕ) (refusal : Refusal) → Passes (need (not (bytes_eq a b)) refusal) ↔ (a ≢ b)
need_other a b refusal =
    let d = bytes_eq-Decides a b in
    let n = need_both (not (bytes_eq a b)) refusal in
    (λ e. not_from_Decides (bytes_eq a b) d ((not_true (bytes_eq a b)).0 (n.0 e)), λ other. n.1 ((not_true (bytes_eq a b)).1 (false_is (bytes_eq a b) (a ≡ b) d other)))

-- a check of each member
pub each_both : {A : Type 0} (check : ℕ → A → Result (Unit {0}) Refusal) (P : A → Type 0) → ((k : ℕ) (x : A) → Passes (check k x) ↔ P x)
    → (k : ℕ) (xs : List A) → Passes (each check k xs) ↔ AllByRecursion P xs
each_both check P one k [] = (λ e. tt, λ all. refl)
each_both check P one k (x ∷ xs) =
    let here = then_both (check k x) (each check (k + 1) xs) tt in
    let rest = each_both check P one (k + 1) xs in
    (λ e. ((one k x).0 (here.0 e).0, rest.0 (here.0 e).1), λ all. here.1 ((one k x).1 all.0, rest.1 all.1))

-- one equivalence after another
pub both_then : {A B C : Type 0} → A ↔ B → B ↔ C → A ↔ C
both_then f g = (λ a. g.0 (f.0 a), λ c. f.1 (g.1 c))
