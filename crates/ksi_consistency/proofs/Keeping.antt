-- What is kept of a front's file is what its whole list begins with.
use Rattle.std.proofs.Common.{◌≡◌, ℕ, zero, suc, Bool, true, false, cond, List, [], ◌∷◌, ◌++◌, length, take, Result, Ok, Err, refl, sym, ap, subst, ◌∙◌, arith}
use Rattle.std.proofs.lemmas.List.{length-take-le}
use Rattle.std.proofs.Math.Seq.{take-append_seam, drop-append_seam}
use Rattle.std.specs.Prelude.{nat_lt, ◌==◌}
use Rattle.std.specs.Str.{bytes_eq}
use Rattle.std.proofs.lemmas.Slice.Eq.{bytes_eq-Decides}
use Rattle.ksi_tlv.specs.Walking.{PlacedTlv, Cut, Items}
use Rattle.ksi_tlv.specs.Order.{Steps, one_more, walked, may_stand, ◌>>=◌}
use Rattle.ksi_tlv.specs.Values.{time_at, imprint_at}
use Rattle.ksi_imprint.specs.declared.refused.Refused.{Refused}
use Rattle.ksi_imprint.specs.declared.refused.Refused.TheVariants.{Fault}
use Rattle.ksi_tlv.specs.Format.{Format, or_named, behind, end_of}
use Rattle.ksi_tlv.specs.Reading.{file_at, read_behind, value_said}
use Rattle.ksi_tlv.specs.declared.order.fault.OrderFault.{OrderFault}
use Rattle.ksi_consistency.specs.declared.fault.FrontFault.{FrontFault}
use Rattle.ksi_consistency.specs.declared.fault.FrontFault.TheVariants as faults
use Rattle.ksi_consistency.specs.Elements.{Said, named, is_whole, kinds_next, with_old, old_at, with_new, not_before, new_at, with_imprint, next_at, element_read, front_order, nothing_yet}
use Rattle.ksi_consistency.specs.File.{front_format, magic}
use Rattle.ksi_consistency.specs.Few.{few_at, few_said, few_read, few_order}
use Rattle.ksi_consistency.specs.Reading.{front_at}

-- ---- lists

pub take_again : (n : ℕ) (l : List (List ℕ)) → take n (take n l) ≡ take n l
take_again zero l = refl
take_again (suc n) [] = refl
take_again (suc n) (x ∷ l) = ap (λ (rest : List (List ℕ)). x ∷ rest) (take_again n l)

pub take_more : (n : ℕ) (l : List (List ℕ)) (x : List ℕ) → take n (take n l ++ x ∷ []) ≡ take n (l ++ x ∷ [])
take_more zero l x = refl
take_more (suc n) [] x = refl
take_more (suc n) (y ∷ l) x = ap (λ (rest : List (List ℕ)). y ∷ rest) (take_more n l x)

-- of a list that is full, nothing more is kept
pub take_end : (n : ℕ) (l : List (List ℕ)) (x : List ℕ) → n ≡ 65 → length l ≡ 65 → take n l ≡ take 65 (take n l ++ x ∷ [])
take_end n l x full size =
    let long : 65 ≡ length (take n l) = omega (arith, full, length-take-le n l (omega (arith, full, size))) in
    sym (ap (λ (k : ℕ). take k (take n l ++ x ∷ [])) long ∙ take-append_seam (take n l) (x ∷ []))

-- ---- one element

module _ (s : Said) (at : PlacedTlv) where
  old_by : (r : Result ℕ OrderFault) → few_read (or_named named r >>= λ p. Ok (with_old (few_said s) p)) ≡ few_read (or_named named r >>= λ p. Ok (with_old s p))
  old_by (Ok p) = ap (λ (l : List (List ℕ)). Ok (record (with_old s p) { contents = record (with_old s p).contents { list = l } })) (take_again 65 s.contents.list)
  old_by (Err fault) = refl

  new_when : (before : Bool) (p : ℕ) → few_read (cond before (Err (faults.Number at.place)) (Ok (with_new (few_said s) p))) ≡ few_read (cond before (Err (faults.Number at.place)) (Ok (with_new s p)))
  new_when true p = refl
  new_when false p = ap (λ (l : List (List ℕ)). Ok (record (with_new s p) { contents = record (with_new s p).contents { list = l } })) (take_again 65 s.contents.list)

  new_by : (r : Result ℕ OrderFault) → few_read (or_named named r >>= not_before (few_said s) at.place) ≡ few_read (or_named named r >>= not_before s at.place)
  new_by (Ok p) = new_when (nat_lt p s.contents.p1) p
  new_by (Err fault) = refl

  next_by : (r : Result (List ℕ) OrderFault) → few_read (or_named named r >>= λ x. Ok (with_imprint (few_said s) x)) ≡ few_read (or_named named r >>= λ x. Ok (with_imprint s x))
  next_by (Ok x) = ap (λ (l : List (List ℕ)). Ok (record s { contents = record s.contents { list = l } })) (take_more 65 s.contents.list x)
  next_by (Err fault) = refl

  read_by : (one two : Bool) → few_read (cond one (old_at (few_said s) at) (cond two (new_at (few_said s) at) (next_at (few_said s) at))) ≡ few_read (cond one (old_at s at) (cond two (new_at s at) (next_at s at)))
  unfolding old_at new_at next_at
  read_by true two = old_by (time_at at)
  read_by false true = new_by (time_at at)
  read_by false false = next_by (imprint_at at)

  pub read_few : few_read (element_read (few_said s) at) ≡ few_read (element_read s at)
  unfolding element_read
  read_few = read_by (at.element.kind == 1) (at.element.kind == 2)

  may_by : (may : Bool) → cond may (few_read (element_read (few_said s) at)) (Err (faults.Order at.place)) ≡ few_read (cond may (element_read s at) (Err (faults.Order at.place)))
  may_by true = read_few
  may_by false = refl

one_few : (item : Result PlacedTlv Cut) (s : Said) → one_more few_order item (few_said s) ≡ few_read (one_more front_order item s)
unfolding one_more
one_few (Err cut) s = refl
one_few (Ok at) s = may_by s at (may_stand (kinds_next s.stage) at.element.kind)

-- ---- all elements

ends_by : (whole : Bool) (s : Said) (fault : FrontFault) → cond whole (Ok (few_said s)) (Err fault) ≡ few_read (cond whole (Ok s) (Err fault))
ends_by true s fault = refl
ends_by false s fault = refl

then_few : (end : ℕ) (items : Items) → ((u : Said) → walked few_order end items (few_said u) ≡ few_read (walked front_order end items u))
    → (r : Result Said FrontFault) → (few_read r >>= walked few_order end items) ≡ few_read (r >>= walked front_order end items)
then_few end items more (Ok u) = more u
then_few end items more (Err fault) = refl

pub walked_few : (end : ℕ) (items : Items) (s : Said) → walked few_order end items (few_said s) ≡ few_read (walked front_order end items s)
unfolding walked
walked_few end [] s = ends_by (is_whole s.stage) s (faults.Order end)
walked_few end (item ∷ items) s =
    ap (λ (r : Result Said FrontFault). r >>= walked few_order end items) (one_few item s) ∙ then_few end items (λ u. walked_few end items u) (one_more front_order item s)

-- ---- a file

begun : (magic rest : List ℕ) → bytes_eq (take (length magic) (magic ++ rest)) magic ≡ true
begun magic rest = (bytes_eq-Decides (take (length magic) (magic ++ rest)) magic).1 (take-append_seam magic rest)

reads : {S F A : Type 0} (f : Format S F A) (rest : List ℕ) → file_at f (f.magic ++ rest) ≡ read_behind f rest
unfolding file_at
reads f rest = rw (begun f.magic rest) (ap (read_behind f) (drop-append_seam f.magic rest))

front_reads : (rest : List ℕ) → front_at (magic ++ rest) ≡ read_behind front_format rest
unfolding front_at front_format
front_reads rest = reads front_format rest

-- a refusal of a walk is its fault
pub step_fault : (expected : Result Said FrontFault) (new : Said) (refused : Refused FrontFault) (fault : FrontFault) → refused ≡ Fault fault → Steps expected new (Err refused) → expected ≡ Err fault
step_fault expected new refused fault is steps = subst (λ (r : Refused FrontFault). Steps expected new (Err r)) is steps

said_few : (r : Result Said FrontFault) → value_said (λ s. s.contents) (few_read r) ≡ few_at (value_said (λ s. s.contents) r)
said_few (Ok s) = refl
said_few (Err fault) = refl

-- a walk over the bytes after the magic gives the same result as reading the whole file
pub noted_few : (bytes rest : List ℕ) → bytes ≡ magic ++ rest
    → value_said (λ s. s.contents) (walked few_order (end_of front_format rest) (behind front_format rest) nothing_yet) ≡ few_at (front_at bytes)
unfolding front_format
noted_few bytes rest begins =
    ap (value_said (λ s. s.contents)) (walked_few (end_of front_format rest) (behind front_format rest) nothing_yet)
    ∙ said_few (walked front_order (end_of front_format rest) (behind front_format rest) nothing_yet)
    ∙ ap few_at (sym (ap front_at begins ∙ front_reads rest))
