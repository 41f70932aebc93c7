-- Elements that a container may hold, as they are written.
use Rattle.std.proofs.Common.{◌≡◌, ℕ, ◌+◌, cond, List, [], ◌∷◌, length, Ok, refl, ap, ◌∙◌}
use Rattle.std.specs.List.{AllByRecursion}
use Rattle.ksi_tlv.specs.Spelling.{Tlv, FitsLong, canonical}
use Rattle.ksi_tlv.specs.Walking.{elements, items_of}
use Rattle.ksi_tlv.specs.Writing.{texts, placed}
use Rattle.ksi_tlv.specs.Table.{Table, is_among, count}
use Rattle.ksi_tlv.specs.Containing.{container_verdict}
use Rattle.ksi_tlv.specs.Valid.{MayStand}
use Rattle.ksi_tlv.specs.Inside.{whole}
use Rattle.ksi_tlv.specs.Written.{MayStandAnywhere, MayBeWritten}
use Rattle.ksi_tlv.proofs.Ways.{container_again, within-alike, enough-alike}
use Rattle.ksi_tlv.proofs.Wholes.{whole-items_of}

-- the law of written elements
abbrev pub AreReadAgain : Type 0
AreReadAgain = (place : ℕ) (es : List Tlv) → AllByRecursion FitsLong es → elements place (texts es) ≡ items_of (placed place es)

each_placed : (t : Table) (place : ℕ) (es : List Tlv) → AllByRecursion (MayStandAnywhere t) es → AllByRecursion (MayStand t) (placed place es)
each_placed t place [] may = tt
each_placed t place (e ∷ es) may = (may.0.stands place (length (canonical e)), each_placed t (place + length (canonical e)) es may.1)

each_spelled : (t : Table) (es : List Tlv) → AllByRecursion (MayStandAnywhere t) es → AllByRecursion FitsLong es
each_spelled t [] may = tt
each_spelled t (e ∷ es) may = (may.0.spelled, each_spelled t es may.1)

count-placed : (kinds : List ℕ) (place other : ℕ) (es : List Tlv) → count kinds (placed place es) ≡ count kinds (placed other es)
count-placed kinds place other [] = refl
count-placed kinds place other (e ∷ es) = ap (λ (n : ℕ). cond (is_among e.kind kinds) 1 0 + n) (count-placed kinds (place + length (canonical e)) (other + length (canonical e)) es)

pub write_whole : AreReadAgain → (t : Table) (place inside : ℕ) (es : List Tlv) → MayBeWritten t es → (container_verdict t place inside (texts es) ≡ Ok tt) × (whole (elements inside (texts es)) ≡ placed inside es)
write_whole again t place inside es may =
    let split : elements inside (texts es) ≡ items_of (placed inside es) = again inside es (each_spelled t es may.each) in (
      container_again t place inside (texts es) (placed inside es) (record {
        split = split;
        each = each_placed t inside es may.each;
        within = within-alike t.slots (placed 0 es) (placed inside es) (λ kinds. count-placed kinds 0 inside es) may.within;
        enough = enough-alike t.slots (placed 0 es) (placed inside es) (λ kinds. count-placed kinds 0 inside es) may.enough;
      }),
      ap whole split ∙ whole-items_of (placed inside es),
    )
