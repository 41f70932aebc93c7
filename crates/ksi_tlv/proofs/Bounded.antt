-- What a value that was read is.
use Rattle.std.proofs.Common.{◌≡◌, ℕ, ◌^◌, ◌<◌, Bool, true, false, cond, ltb, eqb, List, [], ◌∷◌, length, Result, Ok, Err, refl, subst, arith}
use Rattle.std.proofs.lemmas.Bool.{ltb-true, eqb-true}
use Rattle.ksi_imprint.specs.declared.fault.ImprintFault.{ImprintFault}
use Rattle.ksi_imprint.specs.declared.fault.ImprintFault.TheVariants as faults
use Rattle.ksi_imprint.specs.Imprints.{IsImprint}
use Rattle.ksi_imprint.specs.Reading as imprints
use Rattle.ksi_tlv.specs.Walking.{PlacedTlv}
use Rattle.ksi_tlv.specs.declared.grammar.fault.ElementFault.{ElementFault}
use Rattle.ksi_tlv.specs.declared.grammar.fault.ElementFault.TheVariants as elements
use Rattle.ksi_tlv.specs.Containing.{◌>>=◌}
use Rattle.ksi_tlv.specs.Contents.{number_in, time_in, imprint_or, imprint_in}
use Rattle.ksi_tlv.specs.declared.order.fault.OrderFault.{OrderFault}
use Rattle.ksi_tlv.specs.declared.order.fault.OrderFault.TheVariants as orders
use Rattle.ksi_tlv.specs.Values.{or_fault, time_at, imprint_at}

value : {A : Type 0} (fault : OrderFault) (r : Result A ElementFault) (a : A) → or_fault fault r ≡ Ok a → r ≡ Ok a
value fault (Ok b) a e = cc
value fault (Err other) a e = absurd cc

below : (test : Bool) (fault : ElementFault) (n t : ℕ) → cond test (Ok n) (Err fault) ≡ Ok t → (test ≡ true) × (n ≡ t)
below true fault n t e = (refl, cc)
below false fault n t e = absurd cc

time_below : (place : ℕ) (r : Result ℕ ElementFault) (t : ℕ) → (r >>= λ n. cond (ltb n (2 ^ 63)) (Ok n) (Err (elements.Time place))) ≡ Ok t → t < 2 ^ 63
time_below place (Ok n) t e =
    let b = below (ltb n (2 ^ 63)) (elements.Time place) n t e in
    let lt = ltb-true n (2 ^ 63) b.0 in let same = b.1 in omega (arith, lt, same)
time_below place (Err fault) t e = absurd cc

pub early : (at : PlacedTlv) (t : ℕ) → time_at at ≡ Ok t → t < 2 ^ 63
unfolding time_at time_in
early at t e = time_below at.place (number_in at) t (value (orders.Bound at.place) _ t e)

bytes_imprint : (bytes x : List ℕ) → imprints.imprint_at bytes ≡ Ok x → IsImprint x
bytes_imprint [] x e = absurd cc
bytes_imprint (a ∷ digest) x e = by (eqb a 1) (eqb (length digest) 32) refl refl
  where
    by : (one whole : Bool) → eqb a 1 ≡ one → eqb (length digest) 32 ≡ whole → IsImprint x
    by true true ia id =
        let found : imprints.imprint_at (a ∷ digest) ≡ Ok (a ∷ digest) = rw (ia, id) refl in
        let same : a ∷ digest ≡ x = cc in
        subst IsImprint same (record { algorithm = eqb-true a 1 ia; size = (let d = eqb-true (length digest) 32 id in omega (arith, d)) })
    by true false ia id = absurd (let found : imprints.imprint_at (a ∷ digest) ≡ Err (faults.Length (length (a ∷ digest))) = rw (ia, id) refl in cc)
    by false whole ia id = absurd (let found : imprints.imprint_at (a ∷ digest) ≡ Err (faults.Algorithm a) = rw ia refl in cc)

named : (place : ℕ) (r : Result (List ℕ) ImprintFault) (x : List ℕ) → imprint_or place r ≡ Ok x → r ≡ Ok x
named place (Ok y) x e = cc
named place (Err fault) x e = absurd cc

pub imprint : (at : PlacedTlv) (x : List ℕ) → imprint_at at ≡ Ok x → IsImprint x
unfolding imprint_at imprint_in
imprint at x e = bytes_imprint at.element.body x (named at.place (imprints.imprint_at at.element.body) x (value (orders.Imprint at.place) _ x e))
