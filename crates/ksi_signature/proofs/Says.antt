-- What accepted elements say.
use Rattle.std.proofs.Common.{◌≡◌, ℕ, ◌^◌, ◌<◌, Bool, true, false, cond, eqb, ltb, List, [], ◌∷◌, length, Result, Ok, Err, refl, sym, ap, ◌∙◌}
use Rattle.std.proofs.lemmas.Bool.{ltb-true}
use Rattle.ksi_imprint.specs.declared.fault.ImprintFault.{ImprintFault}
use Rattle.ksi_imprint.specs.declared.fault.ImprintFault.TheVariants.{Algorithm, Length}
use Rattle.ksi_imprint.specs.Reading.{imprint_at}
use Rattle.ksi_tlv.specs.Walking.{PlacedTlv}
use Rattle.ksi_tlv.specs.Numerals.{number_of}
use Rattle.ksi_tlv.specs.declared.grammar.fault.ElementFault.{ElementFault}
use Rattle.ksi_tlv.specs.declared.grammar.fault.ElementFault.TheVariants as faults
use Rattle.ksi_tlv.specs.Containing.{◌>>=◌}
use Rattle.ksi_tlv.specs.Contents.{passes, time_in, level_in, imprint_or, imprint_in}

pub no_fault : {A : Type 0} (r s : Result A ElementFault) (fault : ElementFault) → passes s ≡ Ok tt → r ≡ s → r ≡ Err fault → ⊥
no_fault r (Ok x) fault ok is err = let no : Ok x ≡ Err fault = sym is ∙ err in absurd cc
no_fault r (Err other) fault ok is err = absurd cc

abbrev bounded : ℕ → ElementFault → ℕ → Result ℕ ElementFault
bounded limit fault n = cond (ltb n limit) (Ok n) (Err fault)

bounded_at : (c : Bool) (limit : ℕ) (fault : ElementFault) (m n : ℕ) → ltb m limit ≡ c → cond c (Ok m) (Err fault) ≡ Ok n → (n ≡ m) × (n < limit)
bounded_at true limit fault m n test e = let same : n ≡ m = cc in (same, rw same (ltb-true _ _ test))
bounded_at false limit fault m n test e = absurd cc

bounded_if : (b : Bool) (limit : ℕ) (long fault : ElementFault) (m n : ℕ) → (cond b (Err long) (Ok m) >>= bounded limit fault) ≡ Ok n → (n ≡ m) × (n < limit)
bounded_if true limit long fault m n e = absurd cc
bounded_if false limit long fault m n e = bounded_at (ltb m limit) limit fault m n refl e

pub time_says : (at : PlacedTlv) (n : ℕ) → time_in at ≡ Ok n → (n ≡ number_of at.element.body) × (n < 2 ^ 63)
unfolding time_in
time_says at n e = bounded_if (ltb 8 (length at.element.body)) (2 ^ 63) (faults.Number at.place) (faults.Time at.place) (number_of at.element.body) n e

pub level_says : (at : PlacedTlv) (n : ℕ) → level_in at ≡ Ok n → (n ≡ number_of at.element.body) × (n < 256)
unfolding level_in
level_says at n e = bounded_if (ltb 8 (length at.element.body)) 256 (faults.Number at.place) (faults.Number at.place) (number_of at.element.body) n e

pub passed : {A : Type 0} (r : Result A ElementFault) → passes r ≡ Ok tt → (x : A) × (r ≡ Ok x)
passed (Ok x) ok = (x, refl)
passed (Err fault) ok = absurd cc

read_if : (algorithm : ℕ) (digest bytes : List ℕ) (b c : Bool) (f g : ImprintFault) → cond b (cond c (Ok (algorithm ∷ digest)) (Err f)) (Err g) ≡ Ok bytes → bytes ≡ algorithm ∷ digest
read_if algorithm digest bytes true true f g e = cc
read_if algorithm digest bytes true false f g e = absurd cc
read_if algorithm digest bytes false c f g e = absurd cc

read_is : (body bytes : List ℕ) → imprint_at body ≡ Ok bytes → bytes ≡ body
read_is [] bytes e = absurd cc
read_is (algorithm ∷ digest) bytes e =
    read_if algorithm digest bytes (eqb algorithm 1) (eqb (length digest) 32) (Length (length (algorithm ∷ digest))) (Algorithm algorithm) e

imprint_if : (place : ℕ) (r : Result (List ℕ) ImprintFault) (bytes : List ℕ) → imprint_or place r ≡ Ok bytes → r ≡ Ok bytes
imprint_if place (Ok imprint) bytes e = let same : imprint ≡ bytes = cc in ap (λ (bytes : List ℕ). Ok bytes) same
imprint_if place (Err fault) bytes e = absurd cc

pub imprint_says : (at : PlacedTlv) (bytes : List ℕ) → imprint_in at ≡ Ok bytes → bytes ≡ at.element.body
unfolding imprint_in
imprint_says at bytes e = read_is at.element.body bytes (imprint_if at.place (imprint_at at.element.body) bytes e)
