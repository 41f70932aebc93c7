-- One walk over a link finds what it says.
use Rattle.std.proofs.Common.{◌≡◌, ℕ, ◌+◌, ◌<◌, ◌≤◌, Bool, true, false, cond, eqb, List, [], ◌∷◌, Ok, refl, ◌∙◌, arith}
use Rattle.std.specs.Prelude.{◌||◌}
use Rattle.ksi_aggtree.specs.declared.chains.link.Sibling.{Sibling}
use Rattle.ksi_aggtree.specs.declared.chains.link.Sibling.TheVariants as siblings
use Rattle.ksi_tlv.specs.Walking.{PlacedTlv}
use Rattle.ksi_tlv.specs.Table.{count}
use Rattle.ksi_tlv.specs.Containing.{inner_verdict}
use Rattle.ksi_tlv.specs.Inside.{inner_elements, first_of}
use Rattle.ksi_tlv.specs.Published.{number_or_zero}
use Rattle.ksi_signature.specs.Tables.{link_table}
use Rattle.ksi_signature.specs.Contents.{sibling_among, link_in}
use Rattle.ksi_signature.specs.LinkParts.{Parts, parts_of, sibling_with, parts_with, parts_behind}
use Rattle.ksi_signature.proofs.Limits.{IsHeld}
use Rattle.ksi_signature.proofs.Heading.{last_or, one_last, number, number_is}

abbrev sibling_behind : Sibling → List PlacedTlv → Sibling
sibling_behind sibling [] = sibling
sibling_behind sibling (at ∷ es) = sibling_behind (sibling_with sibling at) es

abbrev as_kind : Bool → Bool → Bool → List ℕ → Sibling → Sibling
as_kind b c d bytes other = cond b (siblings.Imprint bytes) (cond c (siblings.Legacy bytes) (cond d (siblings.Metadata bytes) other))

none_at : (b c d : Bool) (sibling : Sibling) (bytes : List ℕ) (es : List PlacedTlv) → cond (b || (c || (d || false))) 1 0 + count (2 ∷ 3 ∷ 4 ∷ []) es ≡ 0
    → (count (2 ∷ 3 ∷ 4 ∷ []) es ≡ 0 → sibling_behind sibling es ≡ sibling) → sibling_behind (as_kind b c d bytes sibling) es ≡ sibling
none_at true c d sibling bytes es none rest = absurd (omega (arith, none))
none_at false true d sibling bytes es none rest = absurd (omega (arith, none))
none_at false false true sibling bytes es none rest = absurd (omega (arith, none))
none_at false false false sibling bytes es none rest = rest (omega (arith, none))

none_behind : (sibling : Sibling) (es : List PlacedTlv) → count (2 ∷ 3 ∷ 4 ∷ []) es ≡ 0 → sibling_behind sibling es ≡ sibling
none_behind sibling [] none = refl
none_behind sibling (at ∷ es) none =
    none_at (eqb at.element.kind 2) (eqb at.element.kind 3) (eqb at.element.kind 4) sibling at.element.body es none (none_behind sibling es)

one_at : (b c d : Bool) (sibling : Sibling) (bytes : List ℕ) (es : List PlacedTlv) → cond (b || (c || (d || false))) 1 0 + count (2 ∷ 3 ∷ 4 ∷ []) es ≡ 1
    → (count (2 ∷ 3 ∷ 4 ∷ []) es ≡ 1 → sibling_behind sibling es ≡ sibling_among es) → sibling_behind (as_kind b c d bytes sibling) es ≡ as_kind b c d bytes (sibling_among es)
one_at true c d sibling bytes es one rest = none_behind (siblings.Imprint bytes) es (omega (arith, one))
one_at false true d sibling bytes es one rest = none_behind (siblings.Legacy bytes) es (omega (arith, one))
one_at false false true sibling bytes es one rest = none_behind (siblings.Metadata bytes) es (omega (arith, one))
one_at false false false sibling bytes es one rest = rest (omega (arith, one))

one_behind : (sibling : Sibling) (es : List PlacedTlv) → count (2 ∷ 3 ∷ 4 ∷ []) es ≡ 1 → sibling_behind sibling es ≡ sibling_among es
one_behind sibling [] one = absurd (omega (arith, one))
one_behind sibling (at ∷ es) one =
    one_at (eqb at.element.kind 2) (eqb at.element.kind 3) (eqb at.element.kind 4) sibling at.element.body es one (one_behind sibling es)

walked : (parts : Parts) (es : List PlacedTlv) → parts_behind parts es ≡ record { correction = last_or number 1 parts.correction es; sibling = sibling_behind parts.sibling es }
walked parts [] = refl
walked parts (at ∷ es) = walked (parts_with parts at) es

pub parts_are : IsHeld → (at : PlacedTlv) → inner_verdict link_table at ≡ Ok tt → parts_behind (record { correction = 0; sibling = siblings.Imprint [] }) (inner_elements at) ≡ parts_of (link_in at)
unfolding link_in
parts_are held at ok =
    let es = inner_elements at in
    let c = held link_table at.place at.inside at.element.body refl ok in
    let most : count (2 ∷ 3 ∷ 4 ∷ []) es ≤ 1 = c.within.1.0 in
    let least : 0 < count (2 ∷ 3 ∷ 4 ∷ []) es = c.enough.1.0 in
    let correction : last_or number 1 0 es ≡ number_or_zero (first_of 1 es) = one_last number 1 0 es c.within.0 ∙ number_is (first_of 1 es) in
    let sibling = one_behind (siblings.Imprint []) es (omega (arith, most, least)) in
    walked (record { correction = 0; sibling = siblings.Imprint [] }) es ∙ rw (correction, sibling) refl
