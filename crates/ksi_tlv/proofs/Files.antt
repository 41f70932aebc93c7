-- What is read in bytes is the value that they are, or their first fault; so they have exactly one of these.
use Rattle.std.proofs.Common.{◌≡◌, ◌⊎◌, inl, inr, ℕ, Bool, true, false, cond, List, ◌++◌, length, take, drop, Result, Ok, Err, refl, sym, ap, subst, ◌∙◌, take-append-drop}
use Rattle.std.specs.Prelude.{◌↔◌}
use Rattle.std.specs.Str.{bytes_eq}
use Rattle.std.proofs.lemmas.Slice.Eq.{bytes_eq-Decides}
use Rattle.std.proofs.Math.Seq.{take-append_seam, drop-append_seam}
use Rattle.ksi_tlv.specs.Walking.{Items}
use Rattle.ksi_tlv.specs.Order.{Order, walked}
use Rattle.ksi_tlv.specs.Sequence.{IsWhole, IsFirstFault}
use Rattle.ksi_tlv.specs.Format.{Format, behind, end_of, IsFile, IsOtherFile, IsFileFault}
use Rattle.ksi_tlv.specs.Reading.{value_said, read_behind, file_at}

-- what is said of a walk
pub record Laws (S F : Type 0) : Type 0 where
  pub whole : (o : Order S F) (end : ℕ) (items : Items) (s t : S) → (walked o end items s ≡ Ok t) ↔ IsWhole o items s t
  pub fault : (o : Order S F) (end : ℕ) (items : Items) (s : S) (fault : F) → (walked o end items s ≡ Err fault) ↔ IsFirstFault o end items s fault

-- the bytes begin with the magic, or not
pub begins : (magic bytes : List ℕ) → bytes_eq (take (length magic) bytes) magic ≡ true → bytes ≡ magic ++ drop (length magic) bytes
begins magic bytes is = sym (take-append-drop (length magic) bytes) ∙ ap (λ (front : List ℕ). front ++ drop (length magic) bytes) ((bytes_eq-Decides (take (length magic) bytes) magic).0 is)

begun : (magic rest : List ℕ) → bytes_eq (take (length magic) (magic ++ rest)) magic ≡ true
begun magic rest = (bytes_eq-Decides (take (length magic) (magic ++ rest)) magic).1 (take-append_seam magic rest)

module _ {S F A : Type 0} (laws : Laws S F) (f : Format S F A) where
  reads : (rest : List ℕ) → file_at f (f.magic ++ rest) ≡ read_behind f rest
  unfolding file_at
  reads rest = rw (begun f.magic rest) (ap (read_behind f) (drop-append_seam f.magic rest))

  -- what is read stands
  abbrev Stands : List ℕ → Result A F → Type 0
  Stands bytes (Ok value) = IsFile f bytes value
  Stands bytes (Err fault) = IsFileFault f bytes fault

  inside : (bytes rest : List ℕ) (r : Result S F) → bytes ≡ f.magic ++ rest → walked f.order (end_of f rest) (behind f rest) f.start ≡ r → Stands bytes (value_said f.value r)
  inside bytes rest (Ok said) begins is = record { rest = rest; begins = begins; said = said; whole = (laws.whole f.order (end_of f rest) (behind f rest) f.start said).0 is; has = refl }
  inside bytes rest (Err fault) begins is = inr (record { rest = rest; begins = begins; first = (laws.fault f.order (end_of f rest) (behind f rest) f.start fault).0 is })

  stands_by : (bytes : List ℕ) (begun : Bool) → bytes_eq (take (length f.magic) bytes) f.magic ≡ begun → Stands bytes (cond begun (read_behind f (drop (length f.magic) bytes)) (Err f.other))
  stands_by bytes true is = inside bytes (drop (length f.magic) bytes) _ (begins f.magic bytes is) refl
  stands_by bytes false not = inl (record {
    begins = λ rest is. absurd (let same : bytes_eq (take (length f.magic) bytes) f.magic ≡ true = ap (λ (b : List ℕ). bytes_eq (take (length f.magic) b) f.magic) is ∙ begun f.magic rest in cc);
    named = refl;
  })

  stands : (bytes : List ℕ) → Stands bytes (file_at f bytes)
  unfolding file_at
  stands bytes = stands_by bytes (bytes_eq (take (length f.magic) bytes) f.magic) refl

  of_file : (bytes : List ℕ) (value : A) → IsFile f bytes value → file_at f bytes ≡ Ok value
  of_file bytes value file =
      ap (file_at f) file.begins ∙ reads file.rest ∙ ap (value_said f.value) ((laws.whole f.order (end_of f file.rest) (behind f file.rest) f.start file.said).1 file.whole) ∙ ap Ok (sym file.has)

  other_at : (bytes : List ℕ) (fault : F) (begun : Bool) → bytes_eq (take (length f.magic) bytes) f.magic ≡ begun → IsOtherFile f bytes fault → file_at f bytes ≡ Err fault
  unfolding file_at
  other_at bytes fault true is other = absurd (other.begins (drop (length f.magic) bytes) (begins f.magic bytes is))
  other_at bytes fault false is other = rw is (ap Err (sym other.named))

  of_fault : (bytes : List ℕ) (fault : F) → IsFileFault f bytes fault → file_at f bytes ≡ Err fault
  of_fault bytes fault (inl other) = other_at bytes fault (bytes_eq (take (length f.magic) bytes) f.magic) refl other
  of_fault bytes fault (inr inside) =
      ap (file_at f) inside.begins ∙ reads inside.rest ∙ ap (value_said f.value) ((laws.fault f.order (end_of f inside.rest) (behind f inside.rest) f.start fault).1 inside.first)

  pub value_read : (bytes : List ℕ) (value : A) → (file_at f bytes ≡ Ok value) ↔ IsFile f bytes value
  value_read bytes value = (λ e. subst (Stands bytes) e (stands bytes), of_file bytes value)

  pub fault_read : (bytes : List ℕ) (fault : F) → (file_at f bytes ≡ Err fault) ↔ IsFileFault f bytes fault
  fault_read bytes fault = (λ e. subst (Stands bytes) e (stands bytes), of_fault bytes fault)

  -- ---- exactly one

  by_reading : (bytes : List ℕ) (r : Result A F) → Stands bytes r → ((value : A) × IsFile f bytes value) ⊎ ((fault : F) × IsFileFault f bytes fault)
  by_reading bytes (Ok value) file = inl (value, file)
  by_reading bytes (Err fault) first = inr (fault, first)

  pub one : (bytes : List ℕ) → ((value : A) × IsFile f bytes value) ⊎ ((fault : F) × IsFileFault f bytes fault)
  one bytes = by_reading bytes (file_at f bytes) (stands bytes)

  pub not_both : (bytes : List ℕ) (value : A) (fault : F) → IsFile f bytes value → IsFileFault f bytes fault → ⊥
  not_both bytes value fault file first = absurd (let ok = of_file bytes value file in let err = of_fault bytes fault first in cc)

  pub one_value : (bytes : List ℕ) (some other : A) → IsFile f bytes some → IsFile f bytes other → some ≡ other
  one_value bytes some other file also = let a = of_file bytes some file in let b = of_file bytes other also in cc

  pub one_fault : (bytes : List ℕ) (fault other : F) → IsFileFault f bytes fault → IsFileFault f bytes other → fault ≡ other
  one_fault bytes fault other first also = let a = of_fault bytes fault first in let b = of_fault bytes other also in cc
