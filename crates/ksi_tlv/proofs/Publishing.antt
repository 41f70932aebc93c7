-- Published data, read and written.
use Rattle.std.proofs.Common.{◌≡◌, ℕ, ◌^◌, ◌<◌, ◌≤◌, true, false, ltb, eqb, ◌+◌, List, [], ◌∷◌, ◌++◌, length, Result, Ok, Err, refl, sym, ap, ◌∙◌, arith}
use Rattle.std.proofs.lemmas.Bool.{le-ltb, lt-ltb, eq-eqb, cond_both}
use Rattle.std.proofs.lemmas.List.{length-append}
use Rattle.std.specs.Prelude.{◌&&◌, IfOk}
use Rattle.ksi_imprint.specs.Imprints.{IsImprint}
use Rattle.ksi_tlv.specs.Spelling.{Tlv, plain, canonical, short_form, long_form}
use Rattle.ksi_tlv.specs.Walking.{PlacedTlv, placed_at, elements}
use Rattle.ksi_tlv.specs.Numerals.{number_of, numeral}
use Rattle.ksi_tlv.specs.Writing.{texts, placed}
use Rattle.ksi_tlv.specs.declared.grammar.fault.ElementFault.{ElementFault}
use Rattle.ksi_tlv.specs.Table.{slot_of}
use Rattle.ksi_tlv.specs.Containing.{container_verdict, inner_verdict}
use Rattle.ksi_tlv.specs.Valid.{MayStandAs, MayStand}
use Rattle.ksi_tlv.specs.Contents.{passes, time_in, imprint_in}
use Rattle.ksi_tlv.specs.Inside.{whole, first_of}
use Rattle.ksi_tlv.specs.Written.{MayBeWritten}
use Rattle.ksi_tlv.specs.Published.{published_table, published_in, published_elements, record_table, published_or_zero, recorded_in, record_elements}
use Rattle.ksi_tlv.proofs.Writes.{AreReadAgain, write_whole}

no_fault : {A : Type 0} (r s : Result A ElementFault) (fault : ElementFault) → passes s ≡ Ok tt → r ≡ s → r ≡ Err fault → ⊥
no_fault r (Ok x) fault ok is err = let no : Ok x ≡ Err fault = sym is ∙ err in absurd cc
no_fault r (Err other) fault ok is err = absurd cc

pub time_stands : (at : PlacedTlv) (r : Result ℕ ElementFault) (fault : ElementFault) → MayStand published_table at → at.element.kind ≡ 2 → r ≡ time_in at → r ≡ Err fault → ⊥
unfolding time_in
time_stands at r fault may is same err =
    let fits : MayStandAs published_table at (slot_of published_table.slots at.element.kind) = may.fits in
    no_fault r (time_in at) fault (rw is at fits) same err

pub hash_stands : (at : PlacedTlv) (r : Result (List ℕ) ElementFault) (fault : ElementFault) → MayStand published_table at → at.element.kind ≡ 4 → r ≡ imprint_in at → r ≡ Err fault → ⊥
unfolding imprint_in
hash_stands at r fault may is same err =
    let fits : MayStandAs published_table at (slot_of published_table.slots at.element.kind) = may.fits in
    no_fault r (imprint_in at) fault (rw is at fits) same err

-- the laws of numerals
pub record Numerals : Type 0 where
  pub value : (n : ℕ) → n < 2 ^ 64 → number_of (numeral n) ≡ n
  pub size : (n : ℕ) → length (numeral n) ≤ 8

pub time_again : Numerals → (place size kind time : ℕ) → time < 2 ^ 63 → time_in (placed_at place (plain kind (numeral time)) size) ≡ Ok time
unfolding time_in
time_again numerals place size kind time lt =
    let short : ltb 8 (length (numeral time)) ≡ false = le-ltb _ _ (numerals.size time) in
    rw (short, numerals.value time (omega (arith, lt)), lt-ltb time (2 ^ 63) lt) refl

abbrev nothing : List ℕ
nothing = []

pub imprint_again : (place size kind : ℕ) (hash : List ℕ) → IsImprint hash → imprint_in (placed_at place (plain kind hash) size) ≡ Ok hash
unfolding imprint_in
imprint_again place size kind [] is = let no : length nothing ≡ 33 = is.size in absurd (omega (arith, no))
imprint_again place size kind (algorithm ∷ digest) is =
    let one : eqb algorithm 1 ≡ true = eq-eqb _ _ is.algorithm in
    let long : eqb (length digest) 32 ≡ true = eq-eqb _ _ (omega (arith, is.size)) in
    rw (one, long) refl

pub published_may_be_written : Numerals → (time : ℕ) (hash : List ℕ) → time < 2 ^ 63 → IsImprint hash → MayBeWritten published_table (published_elements time hash)
published_may_be_written numerals time hash lt is = record {
  each = (
    record { spelled = record { kind = omega arith; body = omega (arith, numerals.size time) }; stands = λ place size. record { named = refl; fits = rw (time_again numerals place size 2 time lt) refl } },
    (record { spelled = record { kind = omega arith; body = omega (arith, is.size) }; stands = λ place size. record { named = refl; fits = rw (imprint_again place size 4 hash is) refl } }, tt),
  );
  within = (omega arith, (omega arith, tt));
  enough = (omega arith, (omega arith, tt));
}

pub published_again : AreReadAgain → Numerals → (at : PlacedTlv) (time : ℕ) (hash : List ℕ) → time < 2 ^ 63 → IsImprint hash → at.element.body ≡ texts (published_elements time hash) → (inner_verdict published_table at ≡ Ok tt) × (published_in at ≡ (time, hash))
unfolding published_in
published_again again numerals at time hash lt is body =
    let w = write_whole again published_table at.place at.inside (published_elements time hash) (published_may_be_written numerals time hash lt is) in
    let held : whole (elements at.inside at.element.body) ≡ placed at.inside (published_elements time hash) = ap (λ (body : List ℕ). whole (elements at.inside body)) body ∙ w.1 in (
      ap (container_verdict published_table at.place at.inside) body ∙ w.0,
      rw (held, numerals.value time (omega (arith, lt))) refl,
    )

-- ---- records

pub data_stands : (at : PlacedTlv) → MayStand record_table at → at.element.kind ≡ 16 → inner_verdict published_table at ≡ Ok tt
data_stands at may is =
    let fits : MayStandAs record_table at (slot_of record_table.slots at.element.kind) = may.fits in
    rw is at fits

pub length-canonical : (e : Tlv) → length (canonical e) ≤ 4 + length e.body
length-canonical e = cond_both (ltb e.kind 32 && ltb (length e.body) 256) (short_form e) (long_form e) (λ (text : List ℕ). length text ≤ 4 + length e.body) (λ yes. omega arith) (λ no. omega arith)

pub length-published : Numerals → (time : ℕ) (hash : List ℕ) → IsImprint hash → length (texts (published_elements time hash)) ≤ 49
length-published numerals time hash is =
    rw (length-append (canonical (plain 2 (numeral time))) (canonical (plain 4 hash) ++ []), length-append (canonical (plain 4 hash)) [])
    (omega (arith, length-canonical (plain 2 (numeral time)), length-canonical (plain 4 hash), numerals.size time, is.size))

pub length-record : Numerals → (time : ℕ) (hash : List ℕ) → IsImprint hash → length (texts (record_elements time hash)) ≤ 53
length-record numerals time hash is =
    rw (length-append (canonical (plain 16 (texts (published_elements time hash)))) [])
    (omega (arith, length-canonical (plain 16 (texts (published_elements time hash))), length-published numerals time hash is))

pub record_may_be_written : AreReadAgain → Numerals → (time : ℕ) (hash : List ℕ) → time < 2 ^ 63 → IsImprint hash → MayBeWritten record_table (record_elements time hash)
record_may_be_written again numerals time hash lt is = record {
  each = (
    record {
      spelled = record { kind = omega arith; body = omega (arith, length-published numerals time hash is) };
      stands = λ place size. record { named = refl; fits = (published_again again numerals (placed_at place (plain 16 (texts (published_elements time hash))) size) time hash lt is refl).0 };
    },
    tt,
  );
  within = (omega arith, (tt, (tt, tt)));
  enough = (omega arith, (tt, (tt, tt)));
}

pub record_again : AreReadAgain → Numerals → (at : PlacedTlv) (time : ℕ) (hash : List ℕ) → time < 2 ^ 63 → IsImprint hash → at.element.body ≡ texts (record_elements time hash) → (inner_verdict record_table at ≡ Ok tt) × (recorded_in at ≡ (time, hash))
unfolding recorded_in
record_again again numerals at time hash lt is body =
    let w = write_whole again record_table at.place at.inside (record_elements time hash) (record_may_be_written again numerals time hash lt is) in
    let held : whole (elements at.inside at.element.body) ≡ placed at.inside (record_elements time hash) = ap (λ (body : List ℕ). whole (elements at.inside body)) body ∙ w.1 in (
      ap (container_verdict record_table at.place at.inside) body ∙ w.0,
      ap (λ (es : List PlacedTlv). published_or_zero (first_of 16 es)) held ∙ (published_again again numerals (placed_at at.inside (plain 16 (texts (published_elements time hash))) (length (canonical (plain 16 (texts (published_elements time hash)))))) time hash lt is refl).1,
    )

pub if_ok_short : (numerals : Numerals) {E : Type 0} (r : Result (List ℕ) E) (time : ℕ) (hash : List ℕ) → IsImprint hash → IfOk r (λ body. body ≡ texts (published_elements time hash)) → IfOk r (λ body. length body ≤ 49)
if_ok_short numerals (Ok body) time hash is e = rw e (length-published numerals time hash is)
if_ok_short numerals (Err refusal) time hash is e = tt
