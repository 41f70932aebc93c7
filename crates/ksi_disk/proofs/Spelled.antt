-- What is read of a file of spelled records.
use Rattle.std.specs.Int.{w32, from_be_bytes, to_be_bytes}
use Rattle.std.specs.List.{All}
use Rattle.std.proofs.Common.{◌≡◌, ◌≢◌, ℕ, ◌+◌, ◌<◌, ◌^◌, Bool, false, if◌then◌else◌, List, [], ◌∷◌, ◌++◌, length, take, drop, refl, sym, ◌∙◌, ap, arith, append_assoc, length-append}
use Rattle.std.proofs.lemmas.Nat.{from_be_bytes-to_be_bytes_4}
use Rattle.std.proofs.lemmas.List.{append-nil, drop_at}
use Rattle.std.proofs.lemmas.List.Elements.{All-head, All-tail}
use Rattle.ksi_disk.specs.declared.ending.Ending.TheVariants.{Closed, Broken}
use Rattle.ksi_disk.specs.declared.front.Front.TheVariants as front
use Rattle.ksi_disk.specs.Gates.{record_text, records_text, is_whole, stated, front_at, Reading, behind, ends, reading_at, reading_of}
use Rattle.ksi_disk.proofs.Readings.{closed_reading_at, read_record_at}
use Rattle.ksi_disk.proofs.Standing.{stands}
use Rattle.ksi_disk.proofs.Steps.{at_broken}
use Rattle.ksi_disk.proofs.Appended.{file_size}

abbrev IsShort : List ℕ → Type 0
IsShort content = length content < 2 ^ 32

-- spelled records are read, and then what stands behind them
texts_read : (records : List (List ℕ)) (place : ℕ) (tail : List ℕ) → All IsShort records → reading_at place (records_text records ++ tail) ≡ behind records (reading_at (place + length (records_text records)) tail)
texts_read [] place tail short = let same : place ≡ place + 0 = omega arith in ap (λ (p : ℕ). reading_at p tail) same
texts_read (content ∷ records) place tail short =
    let head = to_be_bytes w32 (length content) ++ content in
    let rest = records_text records ++ tail in
    let is_short : length content < 2 ^ 32 = All-head IsShort content records short in
    let states : from_be_bytes w32 (to_be_bytes w32 (length content)) ≡ length content = from_be_bytes-to_be_bytes_4 (length content) is_short in
    let next : place + (5 + length content) + length (records_text records) ≡ place + length (record_text content ++ records_text records) = omega (arith, length-append content (records_text records)) in
    ap (λ (l : List ℕ). reading_at place l) (append_assoc (1 ∷ head) (records_text records) tail)
    ∙ read_record_at head rest (length content) (omega arith) states place
    ∙ ap (λ (r : Reading). behind (content ∷ []) r) (texts_read records (place + (5 + length content)) tail (All-tail IsShort content records short))
    ∙ ap (λ (p : ℕ). behind (content ∷ records) (reading_at p tail)) next

in_file : (header records_and_tail : List ℕ) → reading_of (length header) (header ++ records_and_tail) ≡ reading_at (length header) records_and_tail
in_file header rest = ap (λ (l : List ℕ). reading_at (length header) l) (drop_at header rest (length header) refl)

pub file_closed : (header : List ℕ) (records : List (List ℕ)) (gate : ℕ) (rest : List ℕ) → All IsShort records → gate ≢ 1
    → reading_of (length header) (header ++ (records_text records ++ gate ∷ rest)) ≡ behind records (ends (Closed (length header + length (records_text records))))
file_closed header records gate rest short shut =
    in_file header (records_text records ++ gate ∷ rest)
    ∙ texts_read records (length header) (gate ∷ rest) short
    ∙ ap (λ (r : Reading). behind records r) (closed_reading_at (length header + length (records_text records)) gate rest shut)

pub file_ended : (header : List ℕ) (records : List (List ℕ)) → All IsShort records → reading_of (length header) (header ++ records_text records) ≡ behind records (ends (Broken (length header + length (records_text records))))
file_ended header records short =
    let place = length header + length (records_text records) in
    ap (λ (l : List ℕ). reading_of (length header) (header ++ l)) (sym (append-nil (records_text records)))
    ∙ in_file header (records_text records ++ [])
    ∙ texts_read records (length header) [] short
    ∙ ap (λ (r : Reading). behind records r) (at_broken place [] refl)

pub file_cut : (header : List ℕ) (records : List (List ℕ)) (rest : List ℕ) → All IsShort records → is_whole rest ≡ false
    → reading_of (length header) (header ++ (records_text records ++ 1 ∷ rest)) ≡ behind records (ends (Broken (length header + length (records_text records))))
file_cut header records rest short cut =
    let place = length header + length (records_text records) in
    let front_is : front.Broken ≡ front_at (1 ∷ rest) = sym (ap (λ (b : Bool). if b then front.Whole (take (stated rest) (drop 4 rest)) else front.Broken) cut) in
    in_file header (records_text records ++ 1 ∷ rest)
    ∙ texts_read records (length header) (1 ∷ rest) short
    ∙ ap (λ (r : Reading). behind records r) (at_broken place (1 ∷ rest) front_is)

pub closed_within : (from : ℕ) (file : List ℕ) (gate : ℕ) → (reading_of from file).ending ≡ Closed gate → gate < length file
closed_within from file gate ending = file_size from gate file (stands from file gate ending)
