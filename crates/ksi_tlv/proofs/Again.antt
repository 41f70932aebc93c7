-- What is written of a value is read again.
use Rattle.std.proofs.Common.{◌≡◌, ℕ, ◌+◌, ◌^◌, ◌<◌, ◌≤◌, true, false, ◌&&◌, ltb, eqb, List, [], ◌∷◌, ◌++◌, length, Ok, refl, ap, ◌∙◌, arith, length-append}
use Rattle.std.specs.List.{AllByRecursion}
use Rattle.std.proofs.lemmas.Bool.{lt-ltb, le-ltb, eq-eqb, cond_both}
use Rattle.ksi_imprint.specs.Imprints.{IsImprint}
use Rattle.ksi_imprint.specs.Reading as imprints
use Rattle.ksi_tlv.specs.Spelling.{Tlv, FitsLong, plain, canonical, short_form, long_form}
use Rattle.ksi_tlv.specs.Walking.{PlacedTlv, elements, items_of}
use Rattle.ksi_tlv.specs.Numerals.{number_of, numeral}
use Rattle.ksi_tlv.specs.Writing.{texts, placed}
use Rattle.ksi_tlv.specs.Contents.{number_in, time_in, imprint_in}
use Rattle.ksi_tlv.specs.Sequence.{Leads}
use Rattle.ksi_tlv.specs.Values.{number_at, time_at, imprint_at}
use Rattle.ksi_tlv.specs.Format.{Format, IsFile}

-- the laws of what is written
pub record Written : Type 0 where
  pub texts : (place : ℕ) (es : List Tlv) → AllByRecursion FitsLong es → elements place (texts es) ≡ items_of (placed place es)
  pub value : (n : ℕ) → n < 2 ^ 64 → number_of (numeral n) ≡ n
  pub size : (n : ℕ) → length (numeral n) ≤ 8

pub imprint_is : (bytes : List ℕ) → IsImprint bytes → imprints.imprint_at bytes ≡ Ok bytes
imprint_is [] is = absurd (let s = is.size in omega arith)
imprint_is (a ∷ digest) is =
    let one : eqb a 1 ≡ true = eq-eqb a 1 is.algorithm in
    let size : eqb (length digest) 32 ≡ true = eq-eqb (length digest) 32 (let s = is.size in omega arith) in
    rw (one, size) refl

pub imprint_again : (at : PlacedTlv) → IsImprint at.element.body → imprint_at at ≡ Ok at.element.body
unfolding imprint_at imprint_in
imprint_again at is = rw (imprint_is at.element.body is) refl

pub fits_imprint : (kind : ℕ) (bytes : List ℕ) → kind < 32 → IsImprint bytes → FitsLong (plain kind bytes)
fits_imprint kind bytes lt is = record { kind = omega arith; body = (let s = is.size in omega arith) }

pub length-canonical : (e : Tlv) → length (canonical e) ≤ 4 + length e.body
length-canonical e = cond_both (ltb e.kind 32 && ltb (length e.body) 256) (short_form e) (long_form e) (λ (text : List ℕ). length text ≤ 4 + length e.body) (λ yes. omega arith) (λ no. omega arith)

pub length-two : (e f : Tlv) → length (texts (e ∷ f ∷ [])) ≤ 8 + length e.body + length f.body
length-two e f = rw (length-append (canonical e) (canonical f ++ []), length-append (canonical f) []) (omega (arith, length-canonical e, length-canonical f))

pub length-three : (e f g : Tlv) → length (texts (e ∷ f ∷ g ∷ [])) ≤ 12 + length e.body + length f.body + length g.body
length-three e f g = rw (length-append (canonical e) (canonical f ++ (canonical g ++ [])), length-append (canonical f) (canonical g ++ []), length-append (canonical g) []) (omega (arith, length-canonical e, length-canonical f, length-canonical g))

module _ (laws : Written) where
  pub numeral_again : (at : PlacedTlv) (n : ℕ) → at.element.body ≡ numeral n → n < 2 ^ 64 → number_in at ≡ Ok n
  numeral_again at n is lt =
      let short : ltb 8 (length at.element.body) ≡ false = le-ltb _ _ (let e = ap (λ (x : List ℕ). length x) is in let s = laws.size n in omega arith) in
      let value : number_of at.element.body ≡ n = ap number_of is ∙ laws.value n lt in
      rw (short, value) refl

  pub number_again : (at : PlacedTlv) (n : ℕ) → at.element.body ≡ numeral n → n < 2 ^ 64 → number_at at ≡ Ok n
  unfolding number_at
  number_again at n is lt = rw (numeral_again at n is lt) refl

  pub time_again : (at : PlacedTlv) (n : ℕ) → at.element.body ≡ numeral n → n < 2 ^ 63 → time_at at ≡ Ok n
  unfolding time_at time_in
  time_again at n is lt = rw (numeral_again at n is (omega (arith, lt)), lt-ltb n (2 ^ 63) lt) refl

  pub fits_number : (kind n : ℕ) → kind < 32 → FitsLong (plain kind (numeral n))
  fits_number kind n lt = record { kind = omega arith; body = (let s = laws.size n in omega arith) }

  -- written elements that lead from the start to an end make a file
  pub file_again : {S F A : Type 0} (f : Format S F A) (es : List Tlv) (value : A) (t : S) → AllByRecursion FitsLong es → Leads f.order f.start (placed (length f.magic) es) t
      → f.order.whole t ≡ true → value ≡ f.value t → IsFile f (f.magic ++ texts es) value
  file_again f es value t fits leads ends has = record {
    rest = texts es;
    begins = refl;
    said = t;
    whole = record { es = placed (length f.magic) es; split = laws.texts (length f.magic) es fits; leads = leads; ends = ends };
    has = has;
  }
