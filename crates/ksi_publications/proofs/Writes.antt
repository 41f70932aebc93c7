-- A file as it is written.
use Rattle.std.proofs.Common.{◌≡◌, ℕ, ◌^◌, ◌+◌, ◌-◌, ◌<◌, ◌≤◌, true, false, ltb, List, [], ◌∷◌, ◌++◌, length, map, Result, Ok, Err, refl, sym, ap, ◌∙◌, arith}
use Rattle.std.specs.Prelude.{◌&&◌, IfOk}
use Rattle.std.specs.List.{AllByRecursion}
use Rattle.std.proofs.lemmas.Bool.{le-ltb, lt-ltb, cond_both}
use Rattle.std.proofs.lemmas.List.{length-append}
use Rattle.ksi_imprint.specs.Imprints.{IsImprint}
use Rattle.ksi_tlv.specs.Spelling.{Tlv, plain, canonical, short_form, long_form}
use Rattle.ksi_tlv.specs.Walking.{PlacedTlv, placed_at, elements}
use Rattle.ksi_tlv.specs.Numerals.{number_of, numeral}
use Rattle.ksi_tlv.specs.Writing.{texts, placed}
use Rattle.ksi_tlv.specs.Table.{Table, count, is_table}
use Rattle.ksi_tlv.specs.Containing.{container_verdict, inner_verdict}
use Rattle.ksi_tlv.specs.Valid.{IsContainer}
use Rattle.ksi_tlv.specs.Contents.{time_in}
use Rattle.ksi_tlv.specs.Inside.{whole}
use Rattle.ksi_tlv.specs.Written.{MayStandAnywhere, MayBeWritten}
use Rattle.ksi_tlv.specs.Published.{record_table, recorded_in, record_elements}
use Rattle.ksi_publications.specs.Tables.{header_table, file_table}
use Rattle.ksi_publications.specs.File.{pairs_of, IsPublications, header_element, record_element, publications_text}
use Rattle.ksi_publications.proofs.Finds.{all_both}

-- the laws of what is written
pub record Written : Type 0 where
  pub again : (t : Table) (place inside : ℕ) (es : List Tlv) → MayBeWritten t es → (container_verdict t place inside (texts es) ≡ Ok tt) × (whole (elements inside (texts es)) ≡ placed inside es)
  pub held : (t : Table) (place inside : ℕ) (body : List ℕ) → is_table t ≡ true → container_verdict t place inside body ≡ Ok tt → IsContainer t inside body (whole (elements inside body))
  pub read : (at : PlacedTlv) (time : ℕ) (hash : List ℕ) → time < 2 ^ 63 → IsImprint hash → at.element.body ≡ texts (record_elements time hash) → (inner_verdict record_table at ≡ Ok tt) × (recorded_in at ≡ (time, hash))
  pub short : (time : ℕ) (hash : List ℕ) → IsImprint hash → length (texts (record_elements time hash)) ≤ 53
  pub value : (n : ℕ) → n < 2 ^ 64 → number_of (numeral n) ≡ n
  pub size : (n : ℕ) → length (numeral n) ≤ 8

length-canonical : (e : Tlv) → length (canonical e) ≤ 4 + length e.body
length-canonical e = cond_both (ltb e.kind 32 && ltb (length e.body) 256) (short_form e) (long_form e) (λ (text : List ℕ). length text ≤ 4 + length e.body) (λ yes. omega arith) (λ no. omega arith)

pub length-both : (e f : Tlv) → length (texts (e ∷ f ∷ [])) ≤ 8 + length e.body + length f.body
length-both e f =
    rw (length-append (canonical e) (canonical f ++ []), length-append (canonical f) []) (omega (arith, length-canonical e, length-canonical f))

pub length-header : ((n : ℕ) → length (numeral n) ≤ 8) → (creation : ℕ) → length (texts (plain 1 (numeral 1) ∷ plain 2 (numeral creation) ∷ [])) ≤ 24
length-header size creation = omega (arith, length-both (plain 1 (numeral 1)) (plain 2 (numeral creation)), size 1, size creation)

-- ---- the header

time_again : Written → (place n time : ℕ) → time < 2 ^ 63 → time_in (placed_at place (plain 2 (numeral time)) n) ≡ Ok time
unfolding time_in
time_again laws place n time lt =
    let short : ltb 8 (length (numeral time)) ≡ false = le-ltb _ _ (laws.size time) in
    rw (short, laws.value time (omega (arith, lt)), lt-ltb time (2 ^ 63) lt) refl

header_may : Written → (creation : ℕ) → creation < 2 ^ 63 → MayBeWritten header_table (plain 1 (numeral 1) ∷ plain 2 (numeral creation) ∷ [])
header_may laws creation lt = record {
  each = (
    record {
      spelled = record { kind = omega arith; body = omega (arith, laws.size 1) };
      stands = λ place n. let short : ltb 8 (length (numeral 1)) ≡ false = le-ltb _ _ (laws.size 1) in record { named = refl; fits = rw short refl };
    },
    (record { spelled = record { kind = omega arith; body = omega (arith, laws.size creation) }; stands = λ place n. record { named = refl; fits = rw (time_again laws place n creation lt) refl } }, tt),
  );
  within = (omega arith, (omega arith, (omega arith, tt)));
  enough = (omega arith, (omega arith, (tt, tt)));
}

-- ---- the records

abbrev pub AreWritable : List (ℕ × List ℕ) → Type 0
AreWritable pairs = AllByRecursion (λ pair. (pair.0 < 2 ^ 63) × IsImprint pair.1) pairs

records_may : Written → (pairs : List (ℕ × List ℕ)) → AreWritable pairs → AllByRecursion (MayStandAnywhere file_table) (map record_element pairs)
records_may laws [] all = tt
records_may laws (pair ∷ pairs) all = (
  record {
    spelled = record { kind = omega arith; body = omega (arith, laws.short pair.0 pair.1 all.0.1) };
    stands = λ place n. record { named = refl; fits = (laws.read (placed_at place (record_element pair) n) pair.0 pair.1 all.0.0 all.0.1 refl).0 };
  },
  records_may laws pairs all.1,
)

no_headers : (place : ℕ) (pairs : List (ℕ × List ℕ)) → count (1793 ∷ []) (placed place (map record_element pairs)) ≡ 0
no_headers place [] = refl
no_headers place (pair ∷ pairs) = omega (arith, no_headers (place + length (canonical (record_element pair))) pairs)

pairs_again : Written → (place : ℕ) (pairs : List (ℕ × List ℕ)) → AreWritable pairs → pairs_of (placed place (map record_element pairs)) ≡ pairs
pairs_again laws place [] all = refl
pairs_again laws place (pair ∷ pairs) all =
    let here = (laws.read (placed_at place (record_element pair) (length (canonical (record_element pair)))) pair.0 pair.1 all.0.0 all.0.1 refl).1 in
    let rest = pairs_again laws (place + length (canonical (record_element pair))) pairs all.1 in
    ap (λ (here : ℕ × List ℕ). here ∷ pairs_of (placed (place + length (canonical (record_element pair))) (map record_element pairs))) here ∙ ap (λ (rest : List (ℕ × List ℕ)). pair ∷ rest) rest

file_may : Written → (creation : ℕ) (pairs : List (ℕ × List ℕ)) → creation < 2 ^ 63 → AreWritable pairs → MayBeWritten file_table (header_element creation ∷ map record_element pairs)
file_may laws creation pairs lt all = record {
  each = (
    record {
      spelled = record { kind = omega arith; body = omega (arith, length-header laws.size creation) };
      stands = λ place n. record { named = refl; fits = (laws.again header_table place (place + (n - length (header_element creation).body)) (plain 1 (numeral 1) ∷ plain 2 (numeral creation) ∷ []) (header_may laws creation lt)).0 };
    },
    records_may laws pairs all,
  );
  within = (omega (arith, no_headers (0 + length (canonical (header_element creation))) pairs), (tt, tt));
  enough = (omega arith, (tt, tt));
}

pub file_again : Written → (creation : ℕ) (pairs : List (ℕ × List ℕ)) → creation < 2 ^ 63 → AreWritable pairs → IsPublications (publications_text creation pairs) pairs
file_again laws creation pairs lt all =
    let w = laws.again file_table 0 8 (header_element creation ∷ map record_element pairs) (file_may laws creation pairs lt all) in
    record {
      rest = texts (header_element creation ∷ map record_element pairs);
      begins = refl;
      elements = whole (elements 8 (texts (header_element creation ∷ map record_element pairs)));
      content = laws.held file_table 0 8 (texts (header_element creation ∷ map record_element pairs)) refl w.0;
      records = sym (ap pairs_of w.1 ∙ pairs_again laws (8 + length (canonical (header_element creation))) pairs all);
    }

-- of what the writer answers
pub answer_again : {E : Type 0} (r : Result (List ℕ) E) (creation : ℕ) (pairs : List (ℕ × List ℕ)) → ((creation : ℕ) (pairs : List (ℕ × List ℕ)) → creation < 2 ^ 63 → AreWritable pairs → IsPublications (publications_text creation pairs) pairs)
    → creation < 2 ^ 63 → AllByRecursion (λ pair. pair.0 < 2 ^ 63) pairs → IfOk r (λ file. file ≡ publications_text creation pairs) → IfOk r (λ _. AllByRecursion (λ pair. IsImprint pair.1) pairs) → IfOk r (λ file. IsPublications file pairs)
answer_again (Ok file) creation pairs law lt times text imprints =
    rw text (law creation pairs lt (all_both (λ pair. pair.0 < 2 ^ 63) (λ pair. IsImprint pair.1) pairs times imprints))
answer_again (Err refusal) creation pairs law lt times text imprints = tt
