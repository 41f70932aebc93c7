-- What accepted chains say is within the limits of their types.
use Rattle.std.proofs.Common.{◌≡◌, ℕ, ◌<◌, ◌^◌, Bool, true, false, cond, eqb, List, [], ◌∷◌, length, Some, Ok, Err, Result, refl, subst, arith}
use Rattle.std.specs.Prelude.{◌||◌}
use Rattle.std.specs.List.{AllByRecursion}
use Rattle.std.proofs.lemmas.Bool.{eqb-true}
use Rattle.ksi_imprint.specs.declared.fault.ImprintFault.{ImprintFault}
use Rattle.ksi_imprint.specs.Imprints.{IsImprint}
use Rattle.ksi_imprint.specs.Reading.{imprint_at}
use Rattle.ksi_aggtree.specs.declared.chains.link.Sibling.TheVariants as siblings
use Rattle.ksi_tlv.specs.Walking.{PlacedTlv}
use Rattle.ksi_tlv.specs.Numerals.{number_of}
use Rattle.ksi_tlv.specs.Table.{slot_of}
use Rattle.ksi_tlv.specs.Containing.{inner_verdict}
use Rattle.ksi_tlv.specs.Valid.{MayStandAs, MayStand}
use Rattle.ksi_tlv.specs.Contents.{time_in, level_in, imprint_or, imprint_in}
use Rattle.ksi_tlv.specs.Inside.{inner_elements, first_of}
use Rattle.ksi_tlv.specs.Published.{number_or_zero, imprint_or_zero}
use Rattle.ksi_signature.specs.Tables.{link_table, chain_table}
use Rattle.ksi_signature.specs.Contents.{sibling_among, link_in, links_among, chain_in}
use Rattle.ksi_signature.specs.Kept.{HasImprint, IsLink, IsLent}
use Rattle.ksi_signature.proofs.Says.{passed, time_says, level_says}
use Rattle.ksi_signature.proofs.Limits.{IsHeld, are_links, some_index, left_stands, right_stands}

-- ---- imprints

size_at : (b : Bool) (digest bytes : List ℕ) (fault : ImprintFault) → eqb (length digest) 32 ≡ b → cond b (Ok (1 ∷ digest)) (Err fault) ≡ Ok bytes → IsImprint (1 ∷ digest)
size_at true digest bytes fault is e = let size = eqb-true _ _ is in record { algorithm = refl; size = omega (arith, size) }
size_at false digest bytes fault is e = absurd cc

algorithm_at : (b : Bool) (algorithm : ℕ) (digest bytes : List ℕ) (short other : ImprintFault) → eqb algorithm 1 ≡ b
    → cond b (cond (eqb (length digest) 32) (Ok (algorithm ∷ digest)) (Err short)) (Err other) ≡ Ok bytes → IsImprint (algorithm ∷ digest)
algorithm_at true algorithm digest bytes short other is e =
    let one = eqb-true _ _ is in
    rw one (size_at (eqb (length digest) 32) digest bytes short refl (subst (λ (a : ℕ). cond (eqb (length digest) 32) (Ok (a ∷ digest)) (Err short) ≡ Ok bytes) one e))
algorithm_at false algorithm digest bytes short other is e = absurd cc

is_imprint : (body bytes : List ℕ) → imprint_at body ≡ Ok bytes → IsImprint body
is_imprint [] bytes e = absurd cc
is_imprint (algorithm ∷ digest) bytes e = algorithm_at (eqb algorithm 1) algorithm digest bytes _ _ refl e

imprint_read : (place : ℕ) (body bytes : List ℕ) (r : Result (List ℕ) ImprintFault) → imprint_at body ≡ r → imprint_or place r ≡ Ok bytes → IsImprint body
imprint_read place body bytes (Ok imprint) is e = is_imprint body imprint is
imprint_read place body bytes (Err fault) is e = absurd cc

pub imprint_is : (at : PlacedTlv) (bytes : List ℕ) → imprint_in at ≡ Ok bytes → IsImprint at.element.body
unfolding imprint_in
imprint_is at bytes e = imprint_read at.place at.element.body bytes (imprint_at at.element.body) refl e

-- an imprint is read as itself
pub imprint_again : (bytes : List ℕ) → IsImprint bytes → imprint_at bytes ≡ Ok bytes
imprint_again [] is = let n = is.size in absurd (omega (arith, n))
imprint_again (algorithm ∷ digest) is =
    let one : algorithm ≡ 1 = is.algorithm in
    let n = is.size in
    let size : length digest ≡ 32 = omega (arith, n) in
    rw (one, size) refl

-- ---- links

level_stands : (at : PlacedTlv) → at.element.kind ≡ 1 → MayStand link_table at → number_of at.element.body < 2 ^ 8
unfolding level_in
level_stands at is may =
    let fits : MayStandAs link_table at (slot_of link_table.slots at.element.kind) = may.fits in
    let level = passed (level_in at) (rw is at fits) in
    let says = level_says at level.0 level.1 in
    let n = says.0 in let lt = says.1 in omega (arith, n, lt)

correction_at : (b : Bool) (at : PlacedTlv) (es : List PlacedTlv) → eqb at.element.kind 1 ≡ b → MayStand link_table at → number_or_zero (first_of 1 es) < 2 ^ 8 → number_or_zero (cond b (Some at) (first_of 1 es)) < 2 ^ 8
correction_at true at es is may rest = level_stands at (eqb-true _ _ is) may
correction_at false at es is may rest = rest

corrections : (es : List PlacedTlv) → AllByRecursion (MayStand link_table) es → number_or_zero (first_of 1 es) < 2 ^ 8
corrections [] all = omega arith
corrections (at ∷ es) all = correction_at (eqb at.element.kind 1) at es refl all.0 (corrections es all.1)

sibling_stands : (at : PlacedTlv) → at.element.kind ≡ 2 → MayStand link_table at → IsImprint at.element.body
unfolding imprint_in
sibling_stands at is may =
    let fits : MayStandAs link_table at (slot_of link_table.slots at.element.kind) = may.fits in
    let read = passed (imprint_in at) (rw is at fits) in
    imprint_is at read.0 read.1

sibling_at : (b c d : Bool) (at : PlacedTlv) (es : List PlacedTlv) → eqb at.element.kind 2 ≡ b → MayStand link_table at → HasImprint (sibling_among es)
    → HasImprint (cond b (siblings.Imprint at.element.body) (cond c (siblings.Legacy at.element.body) (cond d (siblings.Metadata at.element.body) (sibling_among es))))
sibling_at true c d at es is may rest = sibling_stands at (eqb-true _ _ is) may
sibling_at false true d at es is may rest = tt
sibling_at false false true at es is may rest = tt
sibling_at false false false at es is may rest = rest

sibling_is : (es : List PlacedTlv) → AllByRecursion (MayStand link_table) es → HasImprint (sibling_among es)
sibling_is [] all = record { algorithm = refl; size = refl }
sibling_is (at ∷ es) all = sibling_at (eqb at.element.kind 2) (eqb at.element.kind 3) (eqb at.element.kind 4) at es refl all.0 (sibling_is es all.1)

pub link_is : IsHeld → (at : PlacedTlv) → inner_verdict link_table at ≡ Ok tt → IsLink (link_in at)
unfolding link_in
link_is held at ok =
    let each = (held link_table at.place at.inside at.element.body refl ok).each in
    record { correction = corrections (inner_elements at) each; sibling = sibling_is (inner_elements at) each }

links_at : (b c : Bool) (at : PlacedTlv) (es : List PlacedTlv) → IsHeld → eqb at.element.kind 7 ≡ b → eqb at.element.kind 8 ≡ c → MayStand chain_table at → AllByRecursion IsLink (links_among es)
    → AllByRecursion IsLink (cond (b || c) (link_in at ∷ links_among es) (links_among es))
links_at true c at es held is_left is_right may rest = (link_is held at (left_stands at (eqb-true _ _ is_left) may), rest)
links_at false true at es held is_left is_right may rest = (link_is held at (right_stands at (eqb-true _ _ is_right) may), rest)
links_at false false at es held is_left is_right may rest = rest

links : IsHeld → (es : List PlacedTlv) → AllByRecursion (MayStand chain_table) es → AllByRecursion IsLink (links_among es)
links held [] all = tt
links held (at ∷ es) all = links_at (eqb at.element.kind 7) (eqb at.element.kind 8) at es held refl refl all.0 (links held es all.1)

-- ---- chains

time_stands : (at : PlacedTlv) → at.element.kind ≡ 2 → MayStand chain_table at → number_of at.element.body < 2 ^ 63
unfolding time_in
time_stands at is may =
    let fits : MayStandAs chain_table at (slot_of chain_table.slots at.element.kind) = may.fits in
    let time = passed (time_in at) (rw is at fits) in
    let says = time_says at time.0 time.1 in
    subst (λ (n : ℕ). n < 2 ^ 63) says.0 says.1

time_at : (b : Bool) (at : PlacedTlv) (es : List PlacedTlv) → eqb at.element.kind 2 ≡ b → MayStand chain_table at → number_or_zero (first_of 2 es) < 2 ^ 63 → number_or_zero (cond b (Some at) (first_of 2 es)) < 2 ^ 63
time_at true at es is may rest = time_stands at (eqb-true _ _ is) may
time_at false at es is may rest = rest

times : (es : List PlacedTlv) → AllByRecursion (MayStand chain_table) es → number_or_zero (first_of 2 es) < 2 ^ 63
times [] all = omega arith
times (at ∷ es) all = time_at (eqb at.element.kind 2) at es refl all.0 (times es all.1)

input_stands : (at : PlacedTlv) → at.element.kind ≡ 5 → MayStand chain_table at → IsImprint at.element.body
unfolding imprint_in
input_stands at is may =
    let fits : MayStandAs chain_table at (slot_of chain_table.slots at.element.kind) = may.fits in
    let read = passed (imprint_in at) (rw is at fits) in
    imprint_is at read.0 read.1

input_at : (b : Bool) (at : PlacedTlv) (es : List PlacedTlv) → eqb at.element.kind 5 ≡ b → MayStand chain_table at → IsImprint (imprint_or_zero (first_of 5 es)) → IsImprint (imprint_or_zero (cond b (Some at) (first_of 5 es)))
input_at true at es is may rest = input_stands at (eqb-true _ _ is) may
input_at false at es is may rest = rest

inputs : (es : List PlacedTlv) → AllByRecursion (MayStand chain_table) es → IsImprint (imprint_or_zero (first_of 5 es))
inputs [] all = record { algorithm = refl; size = refl }
inputs (at ∷ es) all = input_at (eqb at.element.kind 5) at es refl all.0 (inputs es all.1)

pub chain_is : IsHeld → (at : PlacedTlv) → inner_verdict chain_table at ≡ Ok tt → IsLent (chain_in at)
unfolding chain_in
chain_is held at ok =
    let each = (held chain_table at.place at.inside at.element.body refl ok).each in
    record {
      time = times (inner_elements at) each;
      some = some_index held at ok;
      input = inputs (inner_elements at) each;
      limits = are_links held at ok;
      links = links held (inner_elements at) each;
    }
