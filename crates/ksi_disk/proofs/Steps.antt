-- The reading of a file by what stands in front.
use Rattle.std.proofs.Common.{◌≡◌, ℕ, suc, ◌+◌, ◌≤◌, ◌<◌, Bool, true, false, if◌then◌else◌, List, [], ◌∷◌, length, take, drop, Result, Ok, Err, IfOk, IsTrue, refl, sym, subst, ◌∙◌, ap, inl, inr, arith, length-drop}
use Rattle.std.proofs.lemmas.Bool.{cases_eq}
use Rattle.std.proofs.lemmas.Bool.Decides.{nat_tests}
use Rattle.std.proofs.lemmas.List.{length-take-le, drop-drop}
use Rattle.ksi_disk.specs.declared.ending.Ending.TheVariants.{Closed, Broken}
use Rattle.ksi_disk.specs.declared.front.Front.{Front}
use Rattle.ksi_disk.specs.declared.front.Front.TheVariants as front
use Rattle.ksi_disk.specs.declared.refusal.ReadRefusal.{ReadRefusal}
use Rattle.ksi_disk.specs.declared.refusal.ReadRefusal.TheVariants.{Failed, NoMemory}
use Rattle.ksi_disk.specs.Gates.{front_at, stated, is_whole, Reading, ends, behind, reading_after, reading_within, reading_at}
use Rattle.ksi_disk.specs.Reads.{IfWanting}
use Rattle.ksi_disk.proofs.Readings.{closed_front, same_reading}

pub at_closed : (place : ℕ) (bytes : List ℕ) → front.Closed ≡ front_at bytes → reading_at place bytes ≡ ends (Closed place)
unfolding reading_at
at_closed place bytes is = ap (λ (f : Front). reading_after (reading_within (length bytes)) place bytes f) (sym is)

pub at_broken : (place : ℕ) (bytes : List ℕ) → front.Broken ≡ front_at bytes → reading_at place bytes ≡ ends (Broken place)
unfolding reading_at
at_broken place bytes is = ap (λ (f : Front). reading_after (reading_within (length bytes)) place bytes f) (sym is)

whole_step : (rest content : List ℕ) (b : Bool) → is_whole rest ≡ b → front.Whole content ≡ (if b then front.Whole (take (stated rest) (drop 4 rest)) else front.Broken) → 4 + length content ≤ length rest
whole_step rest content false whole is = absurd (cc is)
whole_step rest content true whole is =
    let within : 4 + stated rest ≤ length rest = grind (arith, nat_tests) in
    let same : content ≡ take (stated rest) (drop 4 rest) = cc is in
    let size : length (take (stated rest) (drop 4 rest)) ≡ stated rest = length-take-le (stated rest) (drop 4 rest) (omega (arith, length-drop 4 rest)) in
    omega (arith, ap length same, size)

-- a whole record and its gate are within the bytes
pub whole_size : (bytes content : List ℕ) → front.Whole content ≡ front_at bytes → 5 + length content ≤ length bytes
whole_size [] content is = absurd (cc is)
whole_size (gate ∷ rest) content is = elim (cases_eq gate 1) [
  | inr shut ↦ none (is ∙ closed_front gate rest shut)
  | inl is_open ↦ let within : 4 + length content ≤ length rest = whole_step rest content (is_whole rest) refl (is ∙ ap (λ (k : ℕ). front_at (k ∷ rest)) is_open) in omega arith
]
  where
    none : front.Whole content ≡ front.Closed → 5 + length content ≤ length (gate ∷ rest)
    none same = absurd (cc same)

pub at_whole : (place : ℕ) (bytes content : List ℕ) → front.Whole content ≡ front_at bytes → reading_at place bytes ≡ behind (content ∷ []) (reading_at (place + (5 + length content)) (drop (5 + length content) bytes))
unfolding reading_at
at_whole place bytes content is =
    let next = place + (5 + length content) in
    let rest = drop (5 + length content) bytes in
    let within = whole_size bytes content is in
    ap (λ (f : Front). reading_after (reading_within (length bytes)) place bytes f) (sym is)
    ∙ ap (λ (r : Reading). behind (content ∷ []) r) (same_reading (length bytes) (suc (length rest)) next rest (omega (arith, within, length-drop (5 + length content) bytes)) (omega arith))

-- the same in a file
pub at_whole_in : (place : ℕ) (file content : List ℕ) → front.Whole content ≡ front_at (drop place file) → reading_at place (drop place file) ≡ behind (content ∷ []) (reading_at (place + (5 + length content)) (drop (place + (5 + length content)) file))
at_whole_in place file content is = at_whole place (drop place file) content is ∙ ap (λ (l : List ℕ). behind (content ∷ []) (reading_at (place + (5 + length content)) l)) (drop-drop (5 + length content) place file)

-- behind an open gate, where as many bytes stand as are stated
pub open_whole : (file : List ℕ) (place count : ℕ) (result : Result Front ReadRefusal) → count ≡ stated (drop place file) → 4 + count ≤ length (drop place file) → IfOk result (λ found. found ≡ front.Whole (take count (drop (place + 4) file)))
    → IfOk result (λ found. found ≡ (if is_whole (drop place file) then front.Whole (take (stated (drop place file)) (drop 4 (drop place file))) else front.Broken))
open_whole file place count (Err refusal) states within is = tt
open_whole file place count (Ok found) states within is =
    let rest = drop place file in
    let whole : is_whole rest ≡ true = let enough : 4 + stated rest ≤ length rest = omega arith in grind (arith, nat_tests) in
    is
    ∙ (λ i. front.Whole (take (states i) (sym (drop-drop 4 place file) i)))
    ∙ sym (ap (λ (b : Bool). if b then front.Whole (take (stated rest) (drop 4 rest)) else front.Broken) whole)

-- ---- where memory may be wanting

pub wanting_by : {T : Type 0} (result : Result T ReadRefusal) (here there : Type 0) → (here → there) → IfWanting result here → IfWanting result there
wanting_by (Ok value) here there shows wanting = tt
wanting_by (Err Failed) here there shows wanting = tt
wanting_by (Err NoMemory) here there shows wanting = shows wanting

pub wanting_where : {T : Type 0} (result : Result T ReadRefusal) (holds : Type 0) → holds → IfWanting result holds
wanting_where (Ok value) holds shown = tt
wanting_where (Err Failed) holds shown = tt
wanting_where (Err NoMemory) holds shown = shown

-- a record is read
pub record_is_read : (content : List ℕ) (reading others : Reading) → reading ≡ behind (content ∷ []) others → 0 < length reading.records
record_is_read content reading others is = subst (λ (r : Reading). 0 < length r.records) (sym is) (omega arith)

pub whole_is_read : (place gate : ℕ) (rest : List ℕ) → gate ≡ 1 → IsTrue (is_whole rest) → 0 < length (reading_at place (gate ∷ rest)).records
whole_is_read place gate rest is_open whole =
    let content = take (stated rest) (drop 4 rest) in
    let is : front.Whole content ≡ front_at (gate ∷ rest) = grind (arith, nat_tests) in
    record_is_read content _ _ (at_whole place (gate ∷ rest) content is)
