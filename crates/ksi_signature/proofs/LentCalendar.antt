-- What accepted calendar chains say is within the limits of their types.
use Rattle.std.proofs.Common.{◌≡◌, ℕ, ◌<◌, ◌^◌, Bool, true, false, cond, eqb, List, [], ◌∷◌, Some, Ok, refl, subst, arith}
use Rattle.std.specs.Prelude.{◌||◌}
use Rattle.std.specs.List.{AllByRecursion}
use Rattle.std.proofs.lemmas.Bool.{eqb-true}
use Rattle.ksi_imprint.specs.Imprints.{IsImprint}
use Rattle.ksi_split.specs.declared.tree_link.TreeLink.{TreeLink}
use Rattle.ksi_tlv.specs.Walking.{PlacedTlv}
use Rattle.ksi_tlv.specs.Numerals.{number_of}
use Rattle.ksi_tlv.specs.Table.{slot_of}
use Rattle.ksi_tlv.specs.Containing.{inner_verdict}
use Rattle.ksi_tlv.specs.Valid.{MayStandAs, MayStand}
use Rattle.ksi_tlv.specs.Contents.{time_in, imprint_in}
use Rattle.ksi_tlv.specs.Inside.{inner_elements, first_of}
use Rattle.ksi_tlv.specs.Published.{number_or_zero, imprint_or_zero}
use Rattle.ksi_signature.specs.Tables.{calendar_table}
use Rattle.ksi_signature.specs.Contents.{side_in, number_or, calendar_links_among, calendar_in}
use Rattle.ksi_signature.specs.Kept.{IsCalendar}
use Rattle.ksi_signature.proofs.Says.{passed, time_says}
use Rattle.ksi_signature.proofs.Limits.{IsHeld, few_calendar_links}
use Rattle.ksi_signature.proofs.Lent.{imprint_is}

time_passes : (at : PlacedTlv) (n : ℕ) → time_in at ≡ Ok n → number_of at.element.body < 2 ^ 63
time_passes at n e = let says = time_says at n e in subst (λ (n : ℕ). n < 2 ^ 63) says.0 says.1

publication_stands : (at : PlacedTlv) → at.element.kind ≡ 1 → MayStand calendar_table at → number_of at.element.body < 2 ^ 63
unfolding time_in
publication_stands at is may =
    let fits : MayStandAs calendar_table at (slot_of calendar_table.slots at.element.kind) = may.fits in
    let time = passed (time_in at) (rw is at fits) in
    time_passes at time.0 time.1

time_stands : (at : PlacedTlv) → at.element.kind ≡ 2 → MayStand calendar_table at → number_of at.element.body < 2 ^ 63
unfolding time_in
time_stands at is may =
    let fits : MayStandAs calendar_table at (slot_of calendar_table.slots at.element.kind) = may.fits in
    let time = passed (time_in at) (rw is at fits) in
    time_passes at time.0 time.1

input_stands : (at : PlacedTlv) → at.element.kind ≡ 5 → MayStand calendar_table at → IsImprint at.element.body
unfolding imprint_in
input_stands at is may =
    let fits : MayStandAs calendar_table at (slot_of calendar_table.slots at.element.kind) = may.fits in
    let read = passed (imprint_in at) (rw is at fits) in
    imprint_is at read.0 read.1

left_stands : (at : PlacedTlv) → at.element.kind ≡ 7 → MayStand calendar_table at → IsImprint at.element.body
unfolding imprint_in
left_stands at is may =
    let fits : MayStandAs calendar_table at (slot_of calendar_table.slots at.element.kind) = may.fits in
    let read = passed (imprint_in at) (rw is at fits) in
    imprint_is at read.0 read.1

right_stands : (at : PlacedTlv) → at.element.kind ≡ 8 → MayStand calendar_table at → IsImprint at.element.body
unfolding imprint_in
right_stands at is may =
    let fits : MayStandAs calendar_table at (slot_of calendar_table.slots at.element.kind) = may.fits in
    let read = passed (imprint_in at) (rw is at fits) in
    imprint_is at read.0 read.1

publication_at : (b : Bool) (at : PlacedTlv) (es : List PlacedTlv) → eqb at.element.kind 1 ≡ b → MayStand calendar_table at → number_or_zero (first_of 1 es) < 2 ^ 63 → number_or_zero (cond b (Some at) (first_of 1 es)) < 2 ^ 63
publication_at true at es is may rest = publication_stands at (eqb-true _ _ is) may
publication_at false at es is may rest = rest

publications : (es : List PlacedTlv) → AllByRecursion (MayStand calendar_table) es → number_or_zero (first_of 1 es) < 2 ^ 63
publications [] all = omega arith
publications (at ∷ es) all = publication_at (eqb at.element.kind 1) at es refl all.0 (publications es all.1)

time_at : (b : Bool) (other : ℕ) (at : PlacedTlv) (es : List PlacedTlv) → eqb at.element.kind 2 ≡ b → MayStand calendar_table at → number_or other (first_of 2 es) < 2 ^ 63 → number_or other (cond b (Some at) (first_of 2 es)) < 2 ^ 63
time_at true other at es is may rest = time_stands at (eqb-true _ _ is) may
time_at false other at es is may rest = rest

times : (other : ℕ) (es : List PlacedTlv) → other < 2 ^ 63 → AllByRecursion (MayStand calendar_table) es → number_or other (first_of 2 es) < 2 ^ 63
times other [] low all = low
times other (at ∷ es) low all = time_at (eqb at.element.kind 2) other at es refl all.0 (times other es low all.1)

input_at : (b : Bool) (at : PlacedTlv) (es : List PlacedTlv) → eqb at.element.kind 5 ≡ b → MayStand calendar_table at → IsImprint (imprint_or_zero (first_of 5 es)) → IsImprint (imprint_or_zero (cond b (Some at) (first_of 5 es)))
input_at true at es is may rest = input_stands at (eqb-true _ _ is) may
input_at false at es is may rest = rest

inputs : (es : List PlacedTlv) → AllByRecursion (MayStand calendar_table) es → IsImprint (imprint_or_zero (first_of 5 es))
inputs [] all = record { algorithm = refl; size = refl }
inputs (at ∷ es) all = input_at (eqb at.element.kind 5) at es refl all.0 (inputs es all.1)

abbrev AreImprints : List (TreeLink (List ℕ)) → Type 0
AreImprints links = AllByRecursion (λ link. IsImprint link.sibling) links

links_at : (b c : Bool) (at : PlacedTlv) (es : List PlacedTlv) → eqb at.element.kind 7 ≡ b → eqb at.element.kind 8 ≡ c → MayStand calendar_table at → AreImprints (calendar_links_among es)
    → AreImprints (cond (b || c) (record { side = side_in at; sibling = at.element.body } ∷ calendar_links_among es) (calendar_links_among es))
links_at true c at es is_left is_right may rest = (left_stands at (eqb-true _ _ is_left) may, rest)
links_at false true at es is_left is_right may rest = (right_stands at (eqb-true _ _ is_right) may, rest)
links_at false false at es is_left is_right may rest = rest

links : (es : List PlacedTlv) → AllByRecursion (MayStand calendar_table) es → AreImprints (calendar_links_among es)
links [] all = tt
links (at ∷ es) all = links_at (eqb at.element.kind 7) (eqb at.element.kind 8) at es refl refl all.0 (links es all.1)

pub calendar_is : IsHeld → (at : PlacedTlv) → inner_verdict calendar_table at ≡ Ok tt → IsCalendar (calendar_in at)
unfolding calendar_in
calendar_is held at ok =
    let es = inner_elements at in
    let each = (held calendar_table at.place at.inside at.element.body refl ok).each in
    record {
      publication = publications es each;
      time = times (number_or_zero (first_of 1 es)) es (publications es each) each;
      input = inputs es each;
      count = few_calendar_links held at ok;
      links = links es each;
    }
