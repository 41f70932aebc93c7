-- The index parts of an accepted chain are numbers.
use Rattle.std.proofs.Common.{◌≡◌, ℕ, Bool, true, false, cond, eqb, ltb, leb, List, [], ◌∷◌, length, Ok, Err, refl}
use Rattle.std.specs.Prelude.{◌&&◌}
use Rattle.std.specs.List.{AllByRecursion}
use Rattle.std.proofs.lemmas.Bool.{eqb-true, ltb-false, le-leb}
use Rattle.ksi_tlv.specs.Walking.{PlacedTlv}
use Rattle.ksi_tlv.specs.Numerals.{number_of}
use Rattle.ksi_tlv.specs.declared.grammar.fault.ElementFault.{ElementFault}
use Rattle.ksi_tlv.specs.declared.grammar.fault.ElementFault.TheVariants as faults
use Rattle.ksi_tlv.specs.Table.{slot_of}
use Rattle.ksi_tlv.specs.Containing.{inner_verdict}
use Rattle.ksi_tlv.specs.Valid.{MayStandAs, MayStand}
use Rattle.ksi_tlv.specs.Contents.{passes, number_in}
use Rattle.ksi_tlv.specs.Inside.{inner_elements}
use Rattle.ksi_signature.specs.Tables.{chain_table}
use Rattle.ksi_signature.specs.Heads.{parts_pass}
use Rattle.ksi_signature.proofs.Limits.{IsHeld}

short_if : (b : Bool) (n : ℕ) (size : ℕ) (fault : ElementFault) → ltb 8 size ≡ b → passes (cond b (Err fault) (Ok n)) ≡ Ok tt → leb size 8 ≡ true
short_if true n size fault is e = absurd cc
short_if false n size fault is e = le-leb _ _ (ltb-false _ _ is)

short : (at : PlacedTlv) → at.element.kind ≡ 3 → MayStand chain_table at → leb (length at.element.body) 8 ≡ true
short at is may =
    let fits : MayStandAs chain_table at (slot_of chain_table.slots at.element.kind) = may.fits in
    let pass : passes (number_in at) ≡ Ok tt = rw is at fits in
    short_if (ltb 8 (length at.element.body)) (number_of at.element.body) (length at.element.body) (faults.Number at.place) refl pass

pass_at : (b : Bool) (at : PlacedTlv) (es : List PlacedTlv) → eqb at.element.kind 3 ≡ b → MayStand chain_table at → parts_pass es ≡ true → (cond b (leb (length at.element.body) 8) true && parts_pass es) ≡ true
pass_at true at es is may rest = rw (short at (eqb-true _ _ is) may, rest) refl
pass_at false at es is may rest = rest

pass : (es : List PlacedTlv) → AllByRecursion (MayStand chain_table) es → parts_pass es ≡ true
pass [] all = refl
pass (at ∷ es) all = pass_at (eqb at.element.kind 3) at es refl all.0 (pass es all.1)

pub parts_are : IsHeld → (at : PlacedTlv) → inner_verdict chain_table at ≡ Ok tt → parts_pass (inner_elements at) ≡ true
parts_are held at ok = pass (inner_elements at) (held chain_table at.place at.inside at.element.body refl ok).each
