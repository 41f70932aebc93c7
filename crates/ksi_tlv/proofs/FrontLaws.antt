-- What is read at the front of bytes is spelled there, and what is spelled there is read, whatever follows.
use Rattle.std.proofs.Common.{◌≡◌, ℕ, zero, suc, ◌+◌, ◌*◌, ◌/◌, ◌%◌, ◌<◌, ◌≤◌, inl, inr, ◌⊎◌, Bool, true, false, cond, ltb, eqb, List, [], ◌∷◌, ◌++◌, length, get_or, take, drop, Result, Ok, Err, refl, sym, ap, subst, ◌∙◌, arith, length-append}
use Rattle.std.specs.Prelude.{◌↔◌, ◌&&◌, nat_lt}
use Rattle.std.proofs.lemmas.Bool.{cases_lt, ltb-false, ltb-true, le-ltb, lt-ltb}
use Rattle.std.proofs.lemmas.List.{take_at, length-take-le, get_or_past, take-append-drop}
use Rattle.ksi_tlv.specs.Spelling.{Tlv, flags, short_form, FitsShort, long_form, FitsLong, Spells, AreBytes, IsFront, canonical}
use Rattle.ksi_tlv.specs.Front.{short_size, long_size, size_at, Front, short_header, long_header, header_at, element_with, behind_header, element_at}

abbrev pub IsBytes : List ℕ → Type 0
IsBytes bytes = (i : ℕ) → get_or bytes i 0 < 256

bytes_by : (bytes : List ℕ) (i : ℕ) → AreBytes bytes → (i < length bytes) ⊎ (length bytes ≤ i) → get_or bytes i 0 < 256
bytes_by bytes i fits (inl lt) = fits i 0 lt
bytes_by bytes i fits (inr past) = rw (get_or_past bytes i 0 past) (omega arith)

pub bytes_of : (bytes : List ℕ) → AreBytes bytes → IsBytes bytes
bytes_of bytes fits i = bytes_by bytes i fits (cases_lt i (length bytes))

-- ---- the first byte

pub record IsFirst (first kind : ℕ) (non_critical forward : Bool) : Type 0 where
  pub low : first % 32 ≡ kind
  pub six : eqb (first / 64 % 2) 1 ≡ non_critical
  pub five : eqb (first / 32 % 2) 1 ≡ forward

one : (m : ℕ) → m ≡ 1 → eqb m 1 ≡ true
one m e = ap (λ (k : ℕ). eqb k 1) e

none : (m : ℕ) → m ≡ 0 → eqb m 1 ≡ false
none m e = ap (λ (k : ℕ). eqb k 1) e

is_first : (first high low : ℕ) (n f : Bool) → low < 32 → first ≡ 128 * high + (cond n 64 0 + cond f 32 0) + low → IsFirst first low n f
is_first first high low true true lt e = record { low = omega arith; six = one (first / 64 % 2) (omega arith); five = one (first / 32 % 2) (omega arith) }
is_first first high low true false lt e = record { low = omega arith; six = one (first / 64 % 2) (omega arith); five = none (first / 32 % 2) (omega arith) }
is_first first high low false true lt e = record { low = omega arith; six = none (first / 64 % 2) (omega arith); five = one (first / 32 % 2) (omega arith) }
is_first first high low false false lt e = record { low = omega arith; six = none (first / 64 % 2) (omega arith); five = none (first / 32 % 2) (omega arith) }

chosen_bit : (b k : ℕ) → b < 2 → cond (eqb b 1) k 0 ≡ b * k
chosen_bit zero k lt = omega arith
chosen_bit (suc zero) k lt = omega arith
chosen_bit (suc (suc b)) k lt = absurd (omega arith)

-- the low seven bits, from the parts
seven_bits : (first : ℕ) → cond (eqb (first / 64 % 2) 1) 64 0 + cond (eqb (first / 32 % 2) 1) 32 0 + first % 32 ≡ first % 128
seven_bits first = rw (chosen_bit (first / 64 % 2) 64 (omega arith), chosen_bit (first / 32 % 2) 32 (omega arith)) (omega arith)

-- ---- what is spelled is read

below_128 : (n f : Bool) (low : ℕ) → low < 32 → cond n 64 0 + cond f 32 0 + low < 128
below_128 true true low lt = omega arith
below_128 true false low lt = omega arith
below_128 false true low lt = omega arith
below_128 false false low lt = omega arith

record_is : (h : Front) (bytes : List ℕ) (e : Tlv) → h.kind ≡ e.kind → eqb (h.first / 64 % 2) 1 ≡ e.non_critical → eqb (h.first / 32 % 2) 1 ≡ e.forward → take h.count (drop h.size bytes) ≡ e.body → element_with h bytes ≡ e
record_is h bytes e k n f b = rw (k, n, f, b) refl

-- an element that ends before the bytes do
behind : (h : Front) (bytes : List ℕ) (e : Tlv) → h.size + h.count ≤ length bytes → element_with h bytes ≡ e → behind_header bytes (Ok h) ≡ Ok (e, h.size + h.count)
behind h bytes e le is = rw (le-ltb _ _ le, is) refl

pub element_at-short : (e : Tlv) (rest : List ℕ) → FitsShort e → element_at (short_form e ++ rest) ≡ Ok (e, length (short_form e))
unfolding element_at header_at
element_at-short e rest fits =
    let first = flags e + e.kind in
    let parts : IsFirst first e.kind e.non_critical e.forward = is_first first 0 e.kind e.non_critical e.forward fits.kind (omega arith) in
    let small : ltb (flags e + e.kind) 128 ≡ true = lt-ltb _ _ (below_128 e.non_critical e.forward e.kind fits.kind) in
    let h : Front = record { first = first; kind = first % 32; size = 2; count = length e.body } in
    let bytes = short_form e ++ rest in
    let body : take (length e.body) (drop 2 bytes) ≡ e.body = take_at e.body rest (length e.body) refl in
    let long_enough : 2 + length e.body ≤ length bytes = omega (arith, length-append e.body rest) in
    let read : behind_header bytes (Ok h) ≡ Ok (e, 2 + length e.body) = behind h bytes e long_enough (record_is h bytes e parts.low parts.six parts.five body) in
    let count : 2 + length e.body ≡ length (short_form e) = omega arith in
    rw small (read ∙ ap (λ (n : ℕ). Ok (e, n)) count)

pub element_at-long : (e : Tlv) (rest : List ℕ) → FitsLong e → element_at (long_form e ++ rest) ≡ Ok (e, length (long_form e))
unfolding element_at header_at
element_at-long e rest fits =
    let first = 128 + flags e + e.kind / 256 in
    let parts : IsFirst first (e.kind / 256) e.non_critical e.forward = is_first first 1 (e.kind / 256) e.non_critical e.forward (omega (arith, fits.kind)) (omega arith) in
    let large : ltb (128 + flags e + e.kind / 256) 128 ≡ false = le-ltb _ _ (omega arith) in
    let h : Front = record { first = first; kind = 256 * (first % 32) + e.kind % 256; size = 4; count = 256 * (length e.body / 256) + length e.body % 256 } in
    let bytes = long_form e ++ rest in
    let count : 256 * (length e.body / 256) + length e.body % 256 ≡ length e.body = omega arith in
    let body : take (256 * (length e.body / 256) + length e.body % 256) (drop 4 bytes) ≡ e.body = take_at e.body rest _ (sym count) in
    let kind : 256 * (first % 32) + e.kind % 256 ≡ e.kind = omega (arith, parts.low) in
    let long_enough : 4 + (256 * (length e.body / 256) + length e.body % 256) ≤ length bytes = omega (arith, length-append e.body rest) in
    let read : behind_header bytes (Ok h) ≡ Ok (e, 4 + (256 * (length e.body / 256) + length e.body % 256)) = behind h bytes e long_enough (record_is h bytes e kind parts.six parts.five body) in
    let total : 4 + (256 * (length e.body / 256) + length e.body % 256) ≡ length (long_form e) = omega arith in
    rw large (read ∙ ap (λ (n : ℕ). Ok (e, n)) total)

-- What is spelled is read, whatever follows.
pub element_at-spelled : (e : Tlv) (text rest : List ℕ) → Spells e text → element_at (text ++ rest) ≡ Ok (e, length text)
element_at-spelled e text rest (inl by) = rw by.1 (element_at-short e rest by.0)
element_at-spelled e text rest (inr by) = rw by.1 (element_at-long e rest by.0)

-- ---- what is read is spelled

abbrev ok : Tlv × ℕ → Result (Tlv × ℕ) ℕ
ok x = Ok x

ok_is : (x y : Tlv × ℕ) → ok x ≡ ok y → x ≡ y
ok_is x y e = cc

guard_ok : {A : Type 0} (b : Bool) (d : ℕ) (x y : A) → cond b (Err d) (Ok x) ≡ Ok y → (b ≡ false) × (x ≡ y)
guard_ok true d x y e = absurd cc
guard_ok false d x y e = (refl, cc)

short_found : (first count : ℕ) (rest : List ℕ) → first < 128 → count < 256 → count ≤ length rest → IsFront (first ∷ count ∷ rest) (element_with (record { first = first; kind = first % 32; size = 2; count = count }) (first ∷ count ∷ rest)) (2 + count)
short_found first count rest lt lt2 le =
    let len : length (take count rest) ≡ count = length-take-le count rest le in
    let head : cond (eqb (first / 64 % 2) 1) 64 0 + cond (eqb (first / 32 % 2) 1) 32 0 + first % 32 ≡ first = omega (arith, seven_bits first) in
    let two : 2 + count ≡ suc (suc count) = omega arith in
    record { within = omega arith; spelled = rw two (inl (record { kind = omega arith; body = omega arith }, rw (head, len) refl)) }

long_found : (first low high_count low_count : ℕ) (rest : List ℕ) → 128 ≤ first → first < 256 → low < 256 → high_count < 256 → low_count < 256 → 256 * high_count + low_count ≤ length rest
    → IsFront (first ∷ low ∷ high_count ∷ low_count ∷ rest) (element_with (record { first = first; kind = 256 * (first % 32) + low; size = 4; count = 256 * high_count + low_count }) (first ∷ low ∷ high_count ∷ low_count ∷ rest)) (4 + (256 * high_count + low_count))
long_found first low high_count low_count rest ge lt lt1 lt2 lt3 le =
    let count = 256 * high_count + low_count in
    let len : length (take (256 * high_count + low_count) rest) ≡ 256 * high_count + low_count = length-take-le _ rest le in
    let head : 128 + (cond (eqb (first / 64 % 2) 1) 64 0 + cond (eqb (first / 32 % 2) 1) 32 0) + (256 * (first % 32) + low) / 256 ≡ first = omega (arith, seven_bits first) in
    let kind : (256 * (first % 32) + low) % 256 ≡ low = omega arith in
    let high : (256 * high_count + low_count) / 256 ≡ high_count = omega arith in
    let less : (256 * high_count + low_count) % 256 ≡ low_count = omega arith in
    let four : 4 + (256 * high_count + low_count) ≡ suc (suc (suc (suc (256 * high_count + low_count)))) = omega arith in
    record { within = omega arith; spelled = rw four (inr (record { kind = omega arith; body = omega arith }, rw (head, kind, len, high, less) refl)) }

from_pair : (bytes : List ℕ) (x y : Tlv × ℕ) → x ≡ y → IsFront bytes x.0 x.1 → IsFront bytes y.0 y.1
from_pair bytes x y e found = subst (λ (p : Tlv × ℕ). IsFront bytes p.0 p.1) e found

short_case : (first : ℕ) (rest : List ℕ) (e : Tlv) (n : ℕ) → first < 128 → IsBytes (first ∷ rest) → behind_header (first ∷ rest) (short_header first rest) ≡ Ok (e, n) → IsFront (first ∷ rest) e n
short_case first [] e n lt fits is = absurd cc
short_case first (count ∷ rest) e n lt fits is =
    let bytes = first ∷ count ∷ rest in
    let h : Front = record { first = first; kind = first % 32; size = 2; count = count } in
    let g = guard_ok (ltb (length bytes) (2 + count)) (2 + count) (element_with h bytes, 2 + count) (e, n) is in
    let le : 2 + count ≤ length bytes = ltb-false _ _ g.0 in
    from_pair bytes (element_with h bytes, 2 + count) (e, n) g.1 (short_found first count rest lt (fits 1) (omega arith))

long_case : (first : ℕ) (rest : List ℕ) (e : Tlv) (n : ℕ) → 128 ≤ first → IsBytes (first ∷ rest) → behind_header (first ∷ rest) (long_header first rest) ≡ Ok (e, n) → IsFront (first ∷ rest) e n
long_case first [] e n ge fits is = absurd cc
long_case first (low ∷ []) e n ge fits is = absurd cc
long_case first (low ∷ high_count ∷ []) e n ge fits is = absurd cc
long_case first (low ∷ high_count ∷ low_count ∷ rest) e n ge fits is =
    let bytes = first ∷ low ∷ high_count ∷ low_count ∷ rest in
    let h : Front = record { first = first; kind = 256 * (first % 32) + low; size = 4; count = 256 * high_count + low_count } in
    let g = guard_ok (ltb (length bytes) (h.size + h.count)) (h.size + h.count) (element_with h bytes, h.size + h.count) (e, n) is in
    let le : 4 + (256 * high_count + low_count) ≤ length bytes = ltb-false _ _ g.0 in
    from_pair bytes (element_with h bytes, h.size + h.count) (e, n) g.1 (long_found first low high_count low_count rest ge (fits 0) (fits 1) (fits 2) (fits 3) (omega arith))

-- What is read is spelled at the front.
pub element_at-found : (bytes : List ℕ) (e : Tlv) (n : ℕ) → IsBytes bytes → element_at bytes ≡ Ok (e, n) → IsFront bytes e n
unfolding element_at header_at
element_at-found [] e n fits is = absurd cc
element_at-found (first ∷ rest) e n fits is =
    elim (cases_lt first 128) [
      | inl lt ↦ short_case first rest e n lt fits (sym (ap (λ (b : Bool). behind_header (first ∷ rest) (cond b (short_header first rest) (long_header first rest))) (lt-ltb _ _ lt)) ∙ is)
      | inr ge ↦ long_case first rest e n ge fits (sym (ap (λ (b : Bool). behind_header (first ∷ rest) (cond b (short_header first rest) (long_header first rest))) (le-ltb _ _ ge)) ∙ is)
    ]

-- ---- laws

-- No spelling begins another.
pub one_spelling : (a b : Tlv) (x y p q : List ℕ) → Spells a x → Spells b y → x ++ p ≡ y ++ q → (a ≡ b) × (x ≡ y)
one_spelling a b x y p q sx sy e =
    let same : ok (a, length x) ≡ ok (b, length y) = sym (element_at-spelled a x p sx) ∙ ap element_at e ∙ element_at-spelled b y q sy in
    let both : (a, length x) ≡ (b, length y) = ok_is (a, length x) (b, length y) same in
    let len : length x ≡ length y = ap (λ (p : Tlv × ℕ). p.1) both in
    (ap (λ (p : Tlv × ℕ). p.0) both, sym (take_at x p (length x) refl) ∙ ap (take (length x)) e ∙ take_at y q (length x) (sym len))

-- The spelling that is written is one.
pub Spells-canonical : (e : Tlv) → FitsLong e → Spells e (canonical e)
Spells-canonical e fits = elim (cases_lt e.kind 32) [
  | inl k ↦ elim (cases_lt (length e.body) 256) [
    | inl b ↦ rw (lt-ltb _ _ k, lt-ltb _ _ b) (inl (record { kind = k; body = b }, refl))
    | inr b ↦ rw (lt-ltb _ _ k, le-ltb _ _ b) (inr (fits, refl))
  ]
  | inr k ↦ rw (le-ltb _ _ k) (inr (fits, refl))
]

-- ---- how many bytes

-- By whether as many bytes stand as the element takes.
nothing : Tlv
nothing = record { kind = 0; non_critical = false; forward = false; body = [] }

sized : (bytes : List ℕ) → (e : Tlv) × (element_at bytes ≡ cond (ltb (length bytes) (size_at bytes)) (Err (size_at bytes)) (Ok (e, size_at bytes)))
unfolding element_at header_at size_at
sized [] = (nothing, refl)
sized (first ∷ rest) = at_form (ltb first 128) first rest
  where
    at_short : (first : ℕ) (rest : List ℕ) → (e : Tlv) × (behind_header (first ∷ rest) (short_header first rest) ≡ cond (ltb (length (first ∷ rest)) (short_size rest)) (Err (short_size rest)) (Ok (e, short_size rest)))
    at_short first [] = (nothing, refl)
    at_short first (count ∷ rest) = (element_with (record { first = first; kind = first % 32; size = 2; count = count }) (first ∷ count ∷ rest), refl)

    at_long : (first : ℕ) (rest : List ℕ) → (e : Tlv) × (behind_header (first ∷ rest) (long_header first rest) ≡ cond (ltb (length (first ∷ rest)) (long_size rest)) (Err (long_size rest)) (Ok (e, long_size rest)))
    at_long first [] = (nothing, refl)
    at_long first (low ∷ []) = (nothing, refl)
    at_long first (low ∷ high_count ∷ []) = (nothing, refl)
    at_long first (low ∷ high_count ∷ low_count ∷ rest) = (element_with (record { first = first; kind = 256 * (first % 32) + low; size = 4; count = 256 * high_count + low_count }) (first ∷ low ∷ high_count ∷ low_count ∷ rest), refl)

    at_form : (b : Bool) (first : ℕ) (rest : List ℕ) → (e : Tlv) × (behind_header (first ∷ rest) (cond b (short_header first rest) (long_header first rest)) ≡ cond (ltb (length (first ∷ rest)) (cond b (short_size rest) (long_size rest))) (Err (cond b (short_size rest) (long_size rest))) (Ok (e, cond b (short_size rest) (long_size rest))))
    at_form true first rest = at_short first rest
    at_form false first rest = at_long first rest

ok_sized : (b : Bool) (d : ℕ) (x : Tlv) (e : Tlv) (n : ℕ) → cond b (Err d) (Ok (x, d)) ≡ ok (e, n) → (b ≡ false) × (d ≡ n)
ok_sized true d x e n is = absurd cc
ok_sized false d x e n is = (refl, ap (λ (p : Tlv × ℕ). p.1) (ok_is (x, d) (e, n) is))

err_sized : (b : Bool) (d : ℕ) (x : Tlv) (need : ℕ) → cond b (Err d) (ok (x, d)) ≡ Err need → (b ≡ true) × (d ≡ need)
err_sized true d x need is = (refl, cc)
err_sized false d x need is = absurd cc

-- An element that is read takes what the bytes tell, and these stand.
pub element_at-ok : (bytes : List ℕ) (e : Tlv) (n : ℕ) → element_at bytes ≡ Ok (e, n) → (n ≡ size_at bytes) × (size_at bytes ≤ length bytes)
element_at-ok bytes e n read =
    let s = sized bytes in
    let both = ok_sized (ltb (length bytes) (size_at bytes)) (size_at bytes) s.0 e n (sym s.1 ∙ read) in
    (sym both.1, ltb-false _ _ both.0)

-- An element that is not read is cut off.
pub element_at-err : (bytes : List ℕ) (need : ℕ) → element_at bytes ≡ Err need → (need ≡ size_at bytes) × (length bytes < size_at bytes)
element_at-err bytes need read =
    let s = sized bytes in
    let both = err_sized (ltb (length bytes) (size_at bytes)) (size_at bytes) s.0 need (sym s.1 ∙ read) in
    (sym both.1, ltb-true _ _ both.0)

front_read : (bytes : List ℕ) (e : Tlv) (n : ℕ) → IsFront bytes e n → element_at bytes ≡ Ok (e, n)
front_read bytes e n front =
    let read : element_at (take n bytes ++ drop n bytes) ≡ Ok (e, length (take n bytes)) = element_at-spelled e (take n bytes) (drop n bytes) front.spelled in
    ap element_at (sym (take-append-drop n bytes)) ∙ read ∙ ap (λ (k : ℕ). Ok (e, k)) (length-take-le n bytes front.within)

pub element_at-front : (bytes : List ℕ) (e : Tlv) (n : ℕ) → AreBytes bytes → (element_at bytes ≡ Ok (e, n)) ↔ IsFront bytes e n
element_at-front bytes e n fits = (element_at-found bytes e n (bytes_of bytes fits), front_read bytes e n)

cut_read : (bytes : List ℕ) (need : ℕ) → need ≡ size_at bytes → length bytes < need → element_at bytes ≡ Err need
cut_read bytes need is lt =
    let s = sized bytes in
    let short : ltb (length bytes) (size_at bytes) ≡ true = lt-ltb _ _ (omega arith) in
    s.1 ∙ ap (λ (b : Bool). cond b (Err (size_at bytes)) (Ok (s.0, size_at bytes))) short ∙ ap (λ (k : ℕ). Err k) (sym is)

pub element_at-cut : (bytes : List ℕ) (need : ℕ) → (element_at bytes ≡ Err need) ↔ ((need ≡ size_at bytes) × (length bytes < need))
element_at-cut bytes need = (λ read. let both = element_at-err bytes need read in (both.0, let lt : length bytes < size_at bytes = both.1 in omega (arith, both.0)), λ both. cut_read bytes need both.0 both.1)

-- ---- the written form

-- The spelling that is written is no longer than another.
pub canonical-shortest : (e : Tlv) (text : List ℕ) → Spells e text → length (canonical e) ≤ length text
canonical-shortest e text (inl by) = rw (by.1, lt-ltb _ _ by.0.kind, lt-ltb _ _ by.0.body) (omega arith)
canonical-shortest e text (inr by) = rw by.1 (at_most (nat_lt e.kind 32 && nat_lt (length e.body) 256))
  where
    at_most : (b : Bool) → length (cond b (short_form e) (long_form e)) ≤ length (long_form e)
    at_most true = omega arith
    at_most false = omega arith
