-- Tests and what they tell of slots.
use Rattle.std.proofs.Common.{◌≡◌, ℕ, ◌≤◌, Bool, true, false, not, eqb, leb, List, [], ◌∷◌, length, refl}
use Rattle.std.specs.Prelude.{◌||◌, ◌&&◌}
use Rattle.std.proofs.lemmas.Bool.{eqb-true, leb-true}
use Rattle.ksi_tlv.specs.Table.{Slot, Table, is_among, is_known, none_known, limit_fits, slots_fit, is_table}

pub both : (b c : Bool) → (b && c) ≡ true → (b ≡ true) × (c ≡ true)
both true c e = (refl, e)
both false c e = absurd cc

pub neither : (b c : Bool) → (b || c) ≡ false → (b ≡ false) × (c ≡ false)
neither true c e = absurd cc
neither false c e = (refl, e)

not_so : (b : Bool) → not b ≡ true → b ≡ false
not_so true e = absurd cc
not_so false e = refl

none_at : (b : Bool) (slots : List Slot) (kinds : List ℕ) (kind other : ℕ) → eqb kind other ≡ b → (not (is_known slots other) && none_known slots kinds) ≡ true → (b || is_among kind kinds) ≡ true
    → (none_known slots kinds ≡ true → is_among kind kinds ≡ true → is_known slots kind ≡ false) → is_known slots kind ≡ false
none_at true slots kinds kind other same n a rest =
    let is : kind ≡ other = eqb-true _ _ same in
    rw is (not_so (is_known slots other) (both (not (is_known slots other)) (none_known slots kinds) n).0)
none_at false slots kinds kind other same n a rest = rest (both (not (is_known slots other)) (none_known slots kinds) n).1 a

-- a kind of one slot is not in the slots behind it
pub none_of : (slots : List Slot) (kinds : List ℕ) (kind : ℕ) → none_known slots kinds ≡ true → is_among kind kinds ≡ true → is_known slots kind ≡ false
none_of slots [] kind n a = absurd cc
none_of slots (other ∷ kinds) kind n a = none_at (eqb kind other) slots kinds kind other refl n a (none_of slots kinds kind)

-- what a table is
pub record Fits (slot : Slot) (slots : List Slot) : Type 0 where
  pub limit : limit_fits slot.most ≡ true
  pub apart : none_known slots slot.kinds ≡ true
  pub others : slots_fit slots ≡ true

pub fits_cons : (slot : Slot) (slots : List Slot) → slots_fit (slot ∷ slots) ≡ true → Fits slot slots
fits_cons slot slots e =
    let one = both (limit_fits slot.most && none_known slots slot.kinds) (slots_fit slots) e in
    let two = both (limit_fits slot.most) (none_known slots slot.kinds) one.0 in
    record { limit = two.0; apart = two.1; others = one.1 }

pub table_fits : (t : Table) → is_table t ≡ true → (length t.slots ≤ 8) × (slots_fit t.slots ≡ true)
table_fits t e = let b = both (leb (length t.slots) 8) (slots_fit t.slots) e in (leb-true _ _ b.0, b.1)
