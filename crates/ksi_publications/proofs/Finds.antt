-- Where no pair has the time.
use Rattle.std.proofs.Common.{◌≡◌, ◌≢◌, ℕ, suc, zero, ◌<◌, Bool, true, false, cond, eqb, List, [], ◌∷◌, length, take, get_or, Option, Some, None, refl, arith}
use Rattle.std.specs.Prelude.{◌↔◌}
use Rattle.std.specs.List.{AllByRecursion}
use Rattle.std.proofs.lemmas.Bool.{eqb-false, ne_eqb}
use Rattle.ksi_publications.specs.Finding.{find}

none_at : (b : Bool) (pair : ℕ × List ℕ) (o : Option (List ℕ)) → cond b (Some pair.1) o ≡ None → (b ≡ false) × (o ≡ None)
none_at true pair o e = absurd cc
none_at false pair o e = (refl, e)

none_other : (time : ℕ) (pairs : List (ℕ × List ℕ)) → find time pairs ≡ None → AllByRecursion (λ pair. pair.0 ≢ time) pairs
none_other time [] e = tt
none_other time (pair ∷ pairs) e =
    let n = none_at (eqb pair.0 time) pair (find time pairs) e in (eqb-false _ _ n.0, none_other time pairs n.1)

other_none : (time : ℕ) (pairs : List (ℕ × List ℕ)) → AllByRecursion (λ pair. pair.0 ≢ time) pairs → find time pairs ≡ None
other_none time [] all = refl
other_none time (pair ∷ pairs) all = rw (ne_eqb _ _ all.0) (other_none time pairs all.1)

pub find_none : (time : ℕ) (pairs : List (ℕ × List ℕ)) (o : Option (List ℕ)) → o ≡ find time pairs → (o ≡ None) ↔ AllByRecursion (λ pair. pair.0 ≢ time) pairs
find_none time pairs o is = rw is (none_other time pairs, other_none time pairs)

pub all_take : {X : Type 0} (P : X → Type 0) (xs : List X) (i : ℕ) (d : X) → i < length xs → AllByRecursion P (take i xs) → P (get_or xs i d) → AllByRecursion P (take (suc i) xs)
all_take P [] i d lt all p = absurd (omega (arith, lt))
all_take P (x ∷ xs) zero d lt all p = (p, tt)
all_take P (x ∷ xs) (suc i) d lt all p = (all.0, all_take P xs i d (omega (arith, lt)) all.1 p)

pub all_both : {X : Type 0} (P Q : X → Type 0) (xs : List X) → AllByRecursion P xs → AllByRecursion Q xs → AllByRecursion (λ x. P x × Q x) xs
all_both P Q [] p q = tt
all_both P Q (x ∷ xs) p q = ((p.0, q.0), all_both P Q xs p.1 q.1)
