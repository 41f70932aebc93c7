-- A file whose records end at a closed gate: what stands before the gate decides what is read up to it.
use Rattle.std.specs.Int.{w32, from_be_bytes}
use Rattle.std.proofs.Common.{◌≡◌, ◌≢◌, inl, inr, ℕ, zero, suc, ◌+◌, ◌≤◌, Bool, true, false, if◌then◌else◌, List, [], ◌∷◌, ◌++◌, length, take, drop, refl, sym, ◌∙◌, ap, subst, arith, append_assoc, length-append, length-drop, take-append-drop}
use Rattle.std.proofs.lemmas.Bool.{cases_eq}
use Rattle.std.proofs.lemmas.Bool.Decides.{nat_tests}
use Rattle.std.proofs.lemmas.List.{take-take, drop-take, take_at, drop_at, length-take-le}
use Rattle.ksi_disk.specs.declared.ending.Ending.TheVariants.{Closed}
use Rattle.ksi_disk.specs.declared.front.Front.{Front}
use Rattle.ksi_disk.specs.declared.front.Front.TheVariants as front
use Rattle.ksi_disk.specs.Gates.{front_at, stated, is_whole, Reading, behind, reading_after, reading_within, reading_at, reading_of}
use Rattle.ksi_disk.proofs.Readings.{closed_front, read_record_at}

-- bytes at a place: open records in front of a closed gate
pub record Split (place : ℕ) (bytes : List ℕ) (records : List (List ℕ)) (gate : ℕ) : Type 0 where
  pub front : List ℕ
  pub shut : ℕ
  pub rest : List ℕ
  pub is : bytes ≡ front ++ shut ∷ rest
  pub size : place + length front ≡ gate
  pub closed : shut ≢ 1
  pub goes : (tail : List ℕ) → reading_at place (front ++ tail) ≡ behind records (reading_at gate tail)

at_gate : (place gate shut : ℕ) (rest : List ℕ) → shut ≢ 1 → Closed place ≡ Closed gate → Split place (shut ∷ rest) [] gate
at_gate place gate shut rest closed is =
    let same : place ≡ gate = cc is in
    record { front = []; shut = shut; rest = rest; is = refl; size = omega arith; closed = closed; goes = λ tail. ap (λ (p : ℕ). reading_at p tail) same }

module _ (place : ℕ) (rest : List ℕ) (gate : ℕ) (within : 4 + stated rest ≤ length rest) where
  abbrev count : ℕ
  count = stated rest

  abbrev content : List ℕ
  content = take count (drop 4 rest)

  abbrev head : List ℕ
  head = take (4 + count) rest

  pub content_size : length content ≡ count
  content_size = length-take-le count (drop 4 rest) (omega (arith, length-drop 4 rest))

  head_size : length head ≡ 4 + count
  head_size = length-take-le (4 + count) rest within

  head_states : stated head ≡ count
  head_states = ap (λ (four : List ℕ). from_be_bytes w32 four) (take-take 4 (4 + count) rest (omega arith))

  head_content : drop 4 head ≡ content
  head_content = drop-take 4 count rest

  behind_it : drop (5 + length content) (1 ∷ rest) ≡ drop (4 + count) rest
  behind_it = let one_less : 5 + length content ≡ suc (4 + count) = omega (arith, content_size) in ap (λ (k : ℕ). drop k (1 ∷ rest)) one_less

  pub with_front : (others : List (List ℕ)) → Split (place + (5 + length content)) (drop (5 + length content) (1 ∷ rest)) others gate → Split place (1 ∷ rest) (content ∷ others) gate
  with_front others s =
      let shift : place + (5 + length content) ≡ place + (5 + count) = omega (arith, content_size) in
      record {
        front = 1 ∷ (head ++ s.front);
        shut = s.shut;
        rest = s.rest;
        is = ap (λ (l : List ℕ). 1 ∷ l) (sym (take-append-drop (4 + count) rest) ∙ ap (λ (l : List ℕ). head ++ l) (sym behind_it ∙ s.is) ∙ sym (append_assoc head s.front (s.shut ∷ s.rest)));
        size = omega (arith, s.size, length-append head s.front, head_size, shift);
        closed = s.closed;
        goes = λ tail.
            ap (λ (l : List ℕ). reading_at place (1 ∷ l)) (append_assoc head s.front tail)
            ∙ read_record_at head (s.front ++ tail) count head_size head_states place
            ∙ (λ i. behind (head_content i ∷ []) (reading_at (sym shift i) (s.front ++ tail)))
            ∙ ap (λ (r : Reading). behind (content ∷ []) r) (s.goes tail);
      }

whole_within : (rest : List ℕ) → is_whole rest ≡ true → 4 + stated rest ≤ length rest
whole_within rest is = grind (arith, nat_tests)

-- the step of the reading at an open gate, whole or not
open_step : (others : ℕ → List ℕ → Reading) (place gate : ℕ) (rest : List ℕ) → ((next : ℕ) (bytes : List ℕ) → (others next bytes).ending ≡ Closed gate → Split next bytes (others next bytes).records gate)
    → (b : Bool) → is_whole rest ≡ b → (reading_after others place (1 ∷ rest) (if b then front.Whole (take (stated rest) (drop 4 rest)) else front.Broken)).ending ≡ Closed gate
    → Split place (1 ∷ rest) (reading_after others place (1 ∷ rest) (if b then front.Whole (take (stated rest) (drop 4 rest)) else front.Broken)).records gate
open_step others place gate rest deeper false is closed = absurd (cc closed)
open_step others place gate rest deeper true is closed =
    let size = length (take (stated rest) (drop 4 rest)) in
    with_front place rest gate (whole_within rest is) (others (place + (5 + size)) (drop (5 + size) (1 ∷ rest))).records (deeper (place + (5 + size)) (drop (5 + size) (1 ∷ rest)) closed)

shut_step : (others : ℕ → List ℕ → Reading) (place gate shut : ℕ) (rest : List ℕ) → shut ≢ 1 → (f : Front) → f ≡ front.Closed → (reading_after others place (shut ∷ rest) f).ending ≡ Closed gate → Split place (shut ∷ rest) (reading_after others place (shut ∷ rest) f).records gate
shut_step others place gate shut rest closed front.Closed is ending = at_gate place gate shut rest closed ending
shut_step others place gate shut rest closed front.Broken is ending = absurd (cc is)
shut_step others place gate shut rest closed (front.Whole content) is ending = absurd (cc is)

step : (others : ℕ → List ℕ → Reading) (place gate g : ℕ) (rest : List ℕ) → ((next : ℕ) (bytes : List ℕ) → (others next bytes).ending ≡ Closed gate → Split next bytes (others next bytes).records gate)
    → (reading_after others place (g ∷ rest) (front_at (g ∷ rest))).ending ≡ Closed gate → Split place (g ∷ rest) (reading_after others place (g ∷ rest) (front_at (g ∷ rest))).records gate
step others place gate g rest deeper = elim (cases_eq g 1) [
  | inr shut ↦ shut_step others place gate g rest shut (front_at (g ∷ rest)) (closed_front g rest shut)
  | inl is_open ↦ subst (λ (k : ℕ). (reading_after others place (k ∷ rest) (front_at (k ∷ rest))).ending ≡ Closed gate → Split place (k ∷ rest) (reading_after others place (k ∷ rest) (front_at (k ∷ rest))).records gate) (sym is_open) (open_step others place gate rest deeper (is_whole rest) refl)
]

pub split : (n place : ℕ) (bytes : List ℕ) (gate : ℕ) → (reading_within n place bytes).ending ≡ Closed gate → Split place bytes (reading_within n place bytes).records gate
split zero place bytes gate is = absurd (cc is)
split (suc n) place [] gate is = absurd (cc is)
split (suc n) place (g ∷ rest) gate is = step (reading_within n) place gate g rest (λ next bytes closed. split n next bytes gate closed) is

pub split_reading : (place : ℕ) (bytes : List ℕ) (gate : ℕ) → (reading_at place bytes).ending ≡ Closed gate → Split place bytes (reading_at place bytes).records gate
unfolding reading_at
split_reading place bytes gate is = split (suc (length bytes)) place bytes gate is

-- a file: its header and open records in front of a closed gate
pub record Stands (from : ℕ) (file : List ℕ) (gate : ℕ) : Type 0 where
  pub front : List ℕ
  pub shut : ℕ
  pub rest : List ℕ
  pub is : file ≡ front ++ shut ∷ rest
  pub size : length front ≡ gate
  pub closed : shut ≢ 1
  pub goes : (tail : List ℕ) → reading_of from (front ++ tail) ≡ behind (reading_of from file).records (reading_at gate tail)
  pub header : (tail : List ℕ) → take from (front ++ tail) ≡ take from file

pub stands : (from : ℕ) (file : List ℕ) (gate : ℕ) → (reading_of from file).ending ≡ Closed gate → Stands from file gate
stands from file gate ending =
    let s = split_reading from (drop from file) gate ending in
    let header = take from file in
    let long : 1 ≤ length (drop from file) = omega (arith, ap length s.is, length-append s.front (s.shut ∷ s.rest)) in
    let header_size : length header ≡ from = length-take-le from file (omega (arith, length-drop from file)) in
    record {
      front = header ++ s.front;
      shut = s.shut;
      rest = s.rest;
      is = sym (take-append-drop from file) ∙ ap (λ (l : List ℕ). header ++ l) s.is ∙ sym (append_assoc header s.front (s.shut ∷ s.rest));
      size = omega (arith, length-append header s.front, header_size, s.size);
      closed = s.closed;
      goes = λ tail. ap (λ (l : List ℕ). reading_at from l) (ap (λ (l : List ℕ). drop from l) (append_assoc header s.front tail) ∙ drop_at header (s.front ++ tail) from header_size) ∙ s.goes tail;
      header = λ tail. ap (λ (l : List ℕ). take from l) (append_assoc header s.front tail) ∙ take_at header (s.front ++ tail) from header_size;
    }
