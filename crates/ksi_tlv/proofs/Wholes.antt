-- The elements of a container that was accepted.
use Rattle.std.proofs.Common.{◌≡◌, ℕ, List, [], ◌∷◌, true, Ok, refl, sym, ap, subst, ◌∙◌}
use Rattle.ksi_tlv.specs.Walking.{PlacedTlv, elements, items_of}
use Rattle.ksi_tlv.specs.Table.{Table, is_table}
use Rattle.ksi_tlv.specs.Containing.{container_verdict}
use Rattle.ksi_tlv.specs.Valid.{IsContainer}
use Rattle.ksi_tlv.specs.Inside.{whole}
use Rattle.ksi_tlv.proofs.Ways.{container_ok}

pub whole-items_of : (es : List PlacedTlv) → whole (items_of es) ≡ es
whole-items_of [] = refl
whole-items_of (at ∷ es) = ap (λ (es : List PlacedTlv). at ∷ es) (whole-items_of es)

pub wholes : (t : Table) (place inside : ℕ) (body : List ℕ) → is_table t ≡ true → container_verdict t place inside body ≡ Ok tt → IsContainer t inside body (whole (elements inside body))
wholes t place inside body table ok =
    let c = container_ok t place inside body table ok in
    let is : whole (elements inside body) ≡ c.0 = ap whole c.1.split ∙ whole-items_of c.0 in
    subst (IsContainer t inside body) (sym is) c.1
