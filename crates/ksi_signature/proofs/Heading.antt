-- One walk over a container finds what is said there: where a kind stands once at most, the last is the first.
use Rattle.std.proofs.Common.{◌≡◌, ℕ, zero, suc, ◌+◌, ◌-◌, ◌<◌, ◌≤◌, Bool, true, false, cond, eqb, List, [], ◌∷◌, length, map, drop, slice_index, Option, Some, None, Result, Ok, Err, refl, ap, ◌∙◌, arith}
use Rattle.std.specs.Prelude.{◌||◌, option_map}
use Rattle.std.proofs.lemmas.List.{length-map}
use Rattle.ksi_tlv.specs.Spelling.{Tlv}
use Rattle.ksi_tlv.specs.Front.{element_at}
use Rattle.ksi_tlv.specs.Walking.{PlacedTlv, items_after, items_within, elements}
use Rattle.ksi_tlv.specs.Numerals.{number_of}
use Rattle.ksi_tlv.specs.Table.{count}
use Rattle.ksi_tlv.specs.Containing.{inner_verdict}
use Rattle.ksi_tlv.specs.Inside.{whole, inner_elements, first_of}
use Rattle.ksi_tlv.specs.Published.{number_or_zero, imprint_or_zero}
use Rattle.ksi_signature.specs.Tables.{chain_table, calendar_table}
use Rattle.ksi_signature.specs.Contents.{bodies_of, number_or, chain_in, calendar_in}
use Rattle.ksi_signature.specs.Heads.{last_part, Head, head_of, head_with, head_behind, CalendarHead, calendar_with, calendar_behind, time_or, SaysCalendar}
use Rattle.ksi_signature.proofs.Limits.{IsHeld, some_index}

-- ---- there are no more elements than bytes

fewer_after : (r : Result (Tlv × ℕ) ℕ) (most place : ℕ) (bytes : List ℕ) → ((p : ℕ) (bs : List ℕ) → length (whole (items_within most p bs)) ≤ most)
    → length (whole (items_after (items_within most) place bytes r)) ≤ suc most
fewer_after (Err need) most place bytes rest = omega arith
fewer_after (Ok found) most place bytes rest = let r = rest (place + found.1) (drop found.1 bytes) in omega (arith, r)

fewer : (most place : ℕ) (bytes : List ℕ) → length (whole (items_within most place bytes)) ≤ most
unfolding items_within
fewer zero place bytes = omega arith
fewer (suc most) place [] = omega arith
fewer (suc most) place (b ∷ bytes) = fewer_after (element_at (b ∷ bytes)) most place (b ∷ bytes) (fewer most)

pub few_elements : (place : ℕ) (bytes : List ℕ) → length (whole (elements place bytes)) ≤ length bytes
unfolding elements
few_elements place bytes = fewer (length bytes) place bytes

-- ---- the last of a kind

-- what the last element of a kind says, or another where there is none
abbrev pub last_or : {A : Type 0} → (PlacedTlv → A) → ℕ → A → List PlacedTlv → A
last_or f kind x [] = x
last_or f kind x (at ∷ es) = last_or f kind (cond (eqb at.element.kind kind) (f at) x) es

abbrev pub says_or : {A : Type 0} → (PlacedTlv → A) → A → Option PlacedTlv → A
says_or f x None = x
says_or f x (Some at) = f at

last_none_at : {A : Type 0} (b : Bool) (f : PlacedTlv → A) (kind : ℕ) (x : A) (at : PlacedTlv) (es : List PlacedTlv) → cond (b || false) 1 0 + count (kind ∷ []) es ≡ 0
    → (count (kind ∷ []) es ≡ 0 → last_or f kind x es ≡ x) → last_or f kind (cond b (f at) x) es ≡ x
last_none_at true f kind x at es none rest = absurd (omega (arith, none))
last_none_at false f kind x at es none rest = rest (omega (arith, none))

last_none : {A : Type 0} (f : PlacedTlv → A) (kind : ℕ) (x : A) (es : List PlacedTlv) → count (kind ∷ []) es ≡ 0 → last_or f kind x es ≡ x
last_none f kind x [] none = refl
last_none f kind x (at ∷ es) none = last_none_at (eqb at.element.kind kind) f kind x at es none (last_none f kind x es)

one_at : {A : Type 0} (b : Bool) (f : PlacedTlv → A) (kind : ℕ) (x : A) (at : PlacedTlv) (es : List PlacedTlv) → cond (b || false) 1 0 + count (kind ∷ []) es ≤ 1
    → (count (kind ∷ []) es ≤ 1 → last_or f kind x es ≡ says_or f x (first_of kind es)) → last_or f kind (cond b (f at) x) es ≡ says_or f x (cond b (Some at) (first_of kind es))
one_at true f kind x at es few rest = last_none f kind (f at) es (omega (arith, few))
one_at false f kind x at es few rest = rest (omega (arith, few))

pub one_last : {A : Type 0} (f : PlacedTlv → A) (kind : ℕ) (x : A) (es : List PlacedTlv) → count (kind ∷ []) es ≤ 1 → last_or f kind x es ≡ says_or f x (first_of kind es)
one_last f kind x [] few = refl
one_last f kind x (at ∷ es) few = one_at (eqb at.element.kind kind) f kind x at es few (one_last f kind x es)

-- one stands where one must
some_at : (b : Bool) (kind : ℕ) (at : PlacedTlv) (es : List PlacedTlv) → 0 < cond (b || false) 1 0 + count (kind ∷ []) es
    → (0 < count (kind ∷ []) es → (found : PlacedTlv) × (first_of kind es ≡ Some found)) → (found : PlacedTlv) × (cond b (Some at) (first_of kind es) ≡ Some found)
some_at true kind at es some rest = (at, refl)
some_at false kind at es some rest = rest (omega (arith, some))

pub some_of : (kind : ℕ) (es : List PlacedTlv) → 0 < count (kind ∷ []) es → (found : PlacedTlv) × (first_of kind es ≡ Some found)
some_of kind [] some = absurd (omega (arith, some))
some_of kind (at ∷ es) some = some_at (eqb at.element.kind kind) kind at es some (some_of kind es)

-- ---- what elements say

abbrev pub number : PlacedTlv → ℕ
number at = number_of at.element.body

abbrev pub body : PlacedTlv → List ℕ
body at = at.element.body

abbrev pub some_number : PlacedTlv → Option ℕ
some_number at = Some (number_of at.element.body)

abbrev pub some_body : PlacedTlv → Option (List ℕ)
some_body at = Some at.element.body

pub number_is : (found : Option PlacedTlv) → says_or number 0 found ≡ number_or_zero found
number_is None = refl
number_is (Some at) = refl

body_is : (found : Option PlacedTlv) → says_or some_body None found ≡ option_map body found
body_is None = refl
body_is (Some at) = refl

pub input_is : (es : List PlacedTlv) → 0 < count (5 ∷ []) es → says_or body [] (first_of 5 es) ≡ imprint_or_zero (first_of 5 es)
input_is es some = let found = some_of 5 es some in rw found.1 refl

-- ---- aggregation chains

abbrev parts_after : ℕ → List PlacedTlv → ℕ
parts_after n [] = n
parts_after n (at ∷ es) = parts_after (cond (eqb at.element.kind 3) (n + 1) n) es

walked : (head : Head) (es : List PlacedTlv) → head_behind head es ≡ record {
  time = last_or number 2 head.time es;
  parts = parts_after head.parts es;
  last = last_or number 3 head.last es;
  input_body = last_or some_body 4 head.input_body es;
  input = last_or body 5 head.input es;
}
walked head [] = refl
walked head (at ∷ es) = walked (head_with head at) es

parts_at : (b : Bool) (n : ℕ) (bytes : List ℕ) (es : List PlacedTlv) → ((m : ℕ) → parts_after m es ≡ m + length (bodies_of 3 es))
    → parts_after (cond b (n + 1) n) es ≡ n + length (cond b (bytes ∷ bodies_of 3 es) (bodies_of 3 es))
parts_at true n bytes es rest = let r = rest (n + 1) in omega (arith, r)
parts_at false n bytes es rest = rest n

parts_are : (es : List PlacedTlv) (n : ℕ) → parts_after n es ≡ n + length (bodies_of 3 es)
parts_are [] n = omega arith
parts_are (at ∷ es) n = parts_at (eqb at.element.kind 3) n at.element.body es (parts_are es)

-- the last of numbers that follow one
abbrev last_from : ℕ → List ℕ → ℕ
last_from n [] = n
last_from n (m ∷ ms) = last_from m ms

last_at : (b : Bool) (n : ℕ) (bytes : List ℕ) (es : List PlacedTlv) → ((m : ℕ) → last_or number 3 m es ≡ last_from m (map number_of (bodies_of 3 es)))
    → last_or number 3 (cond b (number_of bytes) n) es ≡ last_from n (map number_of (cond b (bytes ∷ bodies_of 3 es) (bodies_of 3 es)))
last_at true n bytes es rest = rest (number_of bytes)
last_at false n bytes es rest = rest n

lasts : (es : List PlacedTlv) (n : ℕ) → last_or number 3 n es ≡ last_from n (map number_of (bodies_of 3 es))
lasts [] n = refl
lasts (at ∷ es) n = last_at (eqb at.element.kind 3) n at.element.body es (lasts es)

from_is : (n : ℕ) (ms : List ℕ) → last_from n ms ≡ slice_index (n ∷ ms) (length ms)
from_is n [] = refl
from_is n (m ∷ ms) = from_is m ms

last_part_is : (index : List ℕ) → 0 < length index → last_from 0 index ≡ last_part index
last_part_is [] some = absurd (omega (arith, some))
last_part_is (n ∷ ms) some =
    let one : length ms ≡ length (n ∷ ms) - 1 = omega arith in
    from_is n ms ∙ ap (slice_index (n ∷ ms)) one

pub head_is : IsHeld → (at : PlacedTlv) → inner_verdict chain_table at ≡ Ok tt
    → head_behind (record { time = 0; parts = 0; last = 0; input_body = None; input = [] }) (inner_elements at) ≡ head_of (chain_in at)
unfolding chain_in
head_is held at ok =
    let es = inner_elements at in
    let c = held chain_table at.place at.inside at.element.body refl ok in
    let time : last_or number 2 0 es ≡ number_or_zero (first_of 2 es) = one_last number 2 0 es c.within.0 ∙ number_is (first_of 2 es) in
    let parts : parts_after 0 es ≡ length (map number_of (bodies_of 3 es)) = let n = parts_are es 0 in omega (arith, n, length-map (bodies_of 3 es) number_of) in
    let last : last_or number 3 0 es ≡ last_part (map number_of (bodies_of 3 es)) = lasts es 0 ∙ last_part_is (map number_of (bodies_of 3 es)) (some_index held at ok) in
    let told : last_or some_body 4 None es ≡ option_map body (first_of 4 es) = one_last some_body 4 None es c.within.1.1.0 ∙ body_is (first_of 4 es) in
    let input : last_or body 5 [] es ≡ imprint_or_zero (first_of 5 es) = one_last body 5 [] es c.within.1.1.1.0 ∙ input_is es c.enough.1.1.1.0 in
    walked (record { time = 0; parts = 0; last = 0; input_body = None; input = [] }) es ∙ rw (time, parts, last, told, input) refl

-- ---- calendar chains

calendar_walked : (head : CalendarHead) (es : List PlacedTlv) → calendar_behind head es ≡ record {
  publication = last_or number 1 head.publication es;
  time = last_or some_number 2 head.time es;
  input = last_or body 5 head.input es;
}
calendar_walked head [] = refl
calendar_walked head (at ∷ es) = calendar_walked (calendar_with head at) es

time_is : (publication : ℕ) (found : Option PlacedTlv) → time_or publication (says_or some_number None found) ≡ number_or publication found
time_is publication None = refl
time_is publication (Some at) = refl

pub calendar_head_is : IsHeld → (at : PlacedTlv) → inner_verdict calendar_table at ≡ Ok tt
    → SaysCalendar (calendar_behind (record { publication = 0; time = None; input = [] }) (inner_elements at)) (calendar_in at)
unfolding calendar_in
calendar_head_is held at ok =
    let es = inner_elements at in
    let c = held calendar_table at.place at.inside at.element.body refl ok in
    let publication : last_or number 1 0 es ≡ number_or_zero (first_of 1 es) = one_last number 1 0 es c.within.0 ∙ number_is (first_of 1 es) in
    let time : last_or some_number 2 None es ≡ says_or some_number None (first_of 2 es) = one_last some_number 2 None es c.within.1.0 in
    let input : last_or body 5 [] es ≡ imprint_or_zero (first_of 5 es) = one_last body 5 [] es c.within.1.1.0 ∙ input_is es c.enough.1.1.0 in
    let walked = calendar_walked (record { publication = 0; time = None; input = [] }) es in
    rw (walked, publication, time, input) (refl, time_is (number_or_zero (first_of 1 es)) (first_of 2 es), refl)
