-- A printed text is read as its publication, and a text that is read is printed.
use Rattle.std.specs.List.{AllByRecursion}
use Rattle.std.specs.Str.{bytes_eq}
use Rattle.std.proofs.Common.{◌≡◌, ◌∙◌, ℕ, zero, suc, ◌+◌, ◌-◌, ◌*◌, ◌/◌, ◌%◌, ◌^◌, ◌<◌, ◌≤◌, ◌⊎◌, ◌||◌, ◌==◌, nat_eq, Bool, true, false, if◌then◌else◌, List, [], ◌∷◌, ◌++◌, length, take, drop, slice_index, Option, Some, Result, Ok, Err, refl, sym, ap, subst, inl, inr, arith, append_assoc, append-nil, length-append, eq-eqb, codes}
use Rattle.std.proofs.lemmas.Bool.{cond_above, cond_below, cases_order}
use Rattle.std.proofs.lemmas.Bool.Decides.{nat_tests, eqb_tells}
use Rattle.std.proofs.lemmas.List.{take_at, drop_at}
use Rattle.std.proofs.lemmas.Slice.Eq.{bytes_eq-Decides}
use Rattle.httpdate.specs.declared.parts.Parts.{Parts}
use Rattle.ksi_imprint.specs.Imprints.{IsImprint}
use Rattle.ksi_dates.specs.Dates.{basic_of, basic_text, date_of, end_of_dates}
use Rattle.ksi_printed.specs.declared.fault.PrintFault.{PrintFault}
use Rattle.ksi_printed.specs.declared.fault.PrintFault.TheVariants.{Characters, Date, Sum}
use Rattle.ksi_printed.specs.Groups.{character, check_of, group_text, number_in}
use Rattle.ksi_printed.specs.Printed.{decimals, groups_text, mark_before, numbers_of, printed, weighed, with_sum, words}
use Rattle.ksi_printed.specs.Reading.{bare, bare_of, bytes_of, compared, is_blank, number_then, numbers_from, of_decimals, reading, reading_of, root_of, second_of, upper}
use Rattle.ksi_printed.proofs.Checks.{character_is_high, character_is_low, group_is_read}
use Rattle.ksi_printed.proofs.Sums.{sum_bound}

-- ---- up to case, spaces and line breaks

bare_append : (text more : List ℕ) → bare (text ++ more) ≡ bare text ++ bare more
bare_append [] more = refl
bare_append (c ∷ text) more = ap (λ (t : List ℕ). bare_of c ++ t) (bare_append text more) ∙ sym (append_assoc (bare_of c) (bare text) (bare more))

kept : (c : ℕ) → 48 ≤ c → c ≤ 88 → bare_of c ≡ c ∷ []
kept c low high = grind (arith, nat_tests)

one_kept : (c : ℕ) → 48 ≤ c → bare_of c ≡ upper c ∷ []
one_kept c low = grind (arith, nat_tests)

character_kept : (v : ℕ) → bare_of (character v) ≡ character v ∷ []
character_kept v = kept (character v) (character_is_high v) (character_is_low v)

bare_group : (n : ℕ) → bare (group_text n) ≡ group_text n
unfolding group_text
bare_group n =
    let a = n / 4096 in
    let b = n / 256 % 16 in
    let c = n / 16 % 16 in
    let d = n % 16 in
    λ i. character_kept a i ++ (character_kept b i ++ (character_kept c i ++ (character_kept d i ++ (character_kept (check_of a b c d) i ++ []))))

mark_is_blank : (b : Bool) → bare_of (if b then 10 else 32) ≡ []
mark_is_blank true = refl
mark_is_blank false = refl

-- groups with nothing between them
abbrev plain : List ℕ → List ℕ
plain [] = []
plain (n ∷ ns) = group_text n ++ plain ns

bare_groups : (k : ℕ) (ns : List ℕ) → bare (groups_text k ns ++ 10 ∷ []) ≡ plain ns
bare_groups k [] = refl
bare_groups k (n ∷ ns) =
    let rest = groups_text (suc k) ns in
    (λ i. mark_is_blank (k == 0 || k == 3 || k == 11 || k == 19) i ++ bare ((group_text n ++ rest) ++ 10 ∷ []))
    ∙ ap bare (append_assoc (group_text n) rest (10 ∷ []))
    ∙ bare_append (group_text n) (rest ++ 10 ∷ [])
    ∙ (λ i. bare_group n i ++ bare_groups (suc k) ns i)

plain_length : (ns : List ℕ) → length (plain ns) ≡ 5 * length ns
unfolding group_text
plain_length [] = refl
plain_length (n ∷ ns) = omega (arith, plain_length ns)

-- ---- the date

below_or_above : (a b : ℕ) → (a < b) ⊎ (b ≤ a)
below_or_above a b = elim (cases_order a b) [
  | inl e ↦ inr (omega (arith, e))
  | inr (inl lt) ↦ inl lt
  | inr (inr gt) ↦ inr (omega (arith, gt))
]

digit_kept : (x : ℕ) → bare_of (48 + x) ≡ upper (48 + x) ∷ []
digit_kept x = one_kept (48 + x) (omega arith)

date_length : (p : Parts) → length (bare (basic_of p)) ≡ 16
date_length p =
    let y = p.year / 100 in
    let z = p.year % 100 in
    ap length (λ i. digit_kept (y / 10) i ++ (digit_kept (y % 10) i ++ (digit_kept (z / 10) i ++ (digit_kept (z % 10) i ++ (digit_kept (p.mon / 10) i ++ (digit_kept (p.mon % 10) i
    ++ (digit_kept (p.day / 10) i ++ (digit_kept (p.day % 10) i ++ (84 ∷ (digit_kept (p.hour / 10) i ++ (digit_kept (p.hour % 10) i ++ (digit_kept (p.min / 10) i
    ++ (digit_kept (p.min % 10) i ++ (digit_kept (p.sec / 10) i ++ (digit_kept (p.sec % 10) i ++ (90 ∷ []))))))))))))))))

basic_length : (second : ℕ) → length (bare (basic_text second)) ≡ 16
unfolding basic_text
basic_length second = elim (below_or_above second end_of_dates) [
  | inl lt ↦ (let is : basic_of (date_of second) ≡ basic_text second = cond_below second end_of_dates _ _ lt in ap (λ (t : List ℕ). length (bare t)) (sym is) ∙ date_length (date_of second))
  | inr le ↦ (let is : codes "AFTERTHEYEAR9999" ≡ basic_text second = cond_above second end_of_dates _ _ _ le refl in ap (λ (t : List ℕ). length (bare t)) (sym is))
]

-- ---- the numbers

numbers_again : (so_far : List ℕ) (k : ℕ) (ns : List ℕ) → AllByRecursion (λ n. n < 65536) ns → numbers_from so_far k (length ns) (plain ns) ≡ Ok (so_far ++ ns)
unfolding group_text numbers_from
numbers_again so_far k [] each = ap Ok (sym (append-nil so_far))
numbers_again so_far k (n ∷ ns) each =
    ap (λ (r : Option ℕ). number_then k r (λ m. numbers_from (so_far ++ m ∷ []) (k + 1) (length ns) (drop 5 (group_text n ++ plain ns)))) (group_is_read n (plain ns) each.0)
    ∙ numbers_again (so_far ++ n ∷ []) (k + 1) ns each.1
    ∙ ap Ok (append_assoc so_far (n ∷ []) ns)

words_length : (k : ℕ) (bytes : List ℕ) → length bytes ≡ 2 * k → length (words bytes) ≡ k
words_length zero [] size = refl
words_length (suc k) [] size = absurd (omega (arith, size))
words_length k (high ∷ []) size = absurd (omega (arith, size))
words_length zero (high ∷ low ∷ bytes) size = absurd (omega (arith, size))
words_length (suc k) (high ∷ low ∷ bytes) size = ap suc (words_length k bytes (omega (arith, size)))

pub numbers_length : (second : ℕ) (root : List ℕ) → length root ≡ 33 → length (numbers_of second root) ≡ 19
numbers_length second [] size = absurd (omega (arith, size))
numbers_length second (algorithm ∷ digest) size = let some = words_length 16 digest (omega (arith, size)) in omega (arith, some)

words_again : (k : ℕ) (bytes : List ℕ) → length bytes ≡ 2 * k → AllByRecursion (λ byte. byte < 256) bytes → bytes_of (words bytes) ≡ bytes
words_again k [] size each = refl
words_again k (high ∷ []) size each = absurd (omega (arith, size))
words_again zero (high ∷ low ∷ bytes) size each = absurd (omega (arith, size))
words_again (suc k) (high ∷ low ∷ bytes) size each =
    let first : (256 * high + low) / 256 ≡ high = omega (arith, each.1.0) in
    let second : (256 * high + low) % 256 ≡ low = omega (arith, each.1.0) in
    λ i. first i ∷ second i ∷ words_again k bytes (omega (arith, size)) each.1.1 i

words_are_low : (bytes : List ℕ) → AllByRecursion (λ byte. byte < 256) bytes → AllByRecursion (λ n. n < 65536) (words bytes)
words_are_low [] each = tt
words_are_low (high ∷ []) each = tt
words_are_low (high ∷ low ∷ bytes) each = (omega (arith, each.0, each.1.0), words_are_low bytes each.1.1)

low_append : (ns ms : List ℕ) → AllByRecursion (λ n. n < 65536) ns → AllByRecursion (λ n. n < 65536) ms → AllByRecursion (λ n. n < 65536) (ns ++ ms)
low_append [] ms ours theirs = theirs
low_append (n ∷ ns) ms ours theirs = (ours.0, low_append ns ms ours.1 theirs)

decimals_low : (n : ℕ) → decimals n < 65536
decimals_low n = omega arith

decimals_again : (n : ℕ) → of_decimals (decimals n) ≡ n % 10000
decimals_again n = omega arith

module _ (second : ℕ) (algorithm : ℕ) (digest : List ℕ) (early : second < 10 ^ 12) (one : algorithm ≡ 1) (size : length digest ≡ 32) (each : AllByRecursion (λ byte. byte < 256) digest) where
  abbrev numbers : List ℕ
  numbers = numbers_of second (algorithm ∷ digest)

  count : length numbers ≡ 19
  count = let some = words_length 16 digest size in omega (arith, some)

  numbers_low : AllByRecursion (λ n. n < 65536) numbers
  numbers_low = (decimals_low (second / 100000000), (decimals_low (second / 10000), (decimals_low second, words_are_low digest each)))

  abbrev sums : List ℕ
  sums = weighed numbers / 65536 ∷ weighed numbers % 65536 ∷ []

  sums_low : AllByRecursion (λ n. n < 65536) sums
  sums_low =
      let bound = sum_bound numbers (omega (arith, count)) numbers_low in
      (omega (arith, bound, count), (omega arith, tt))

  all_count : length (numbers ++ sums) ≡ 21
  all_count = omega (arith, length-append numbers sums, count)

  read_again : numbers_from [] 0 21 (plain (numbers ++ sums)) ≡ Ok (numbers ++ sums)
  read_again = ap (λ (n : ℕ). numbers_from [] 0 n (plain (numbers ++ sums))) (sym all_count) ∙ numbers_again [] 0 (numbers ++ sums) (low_append numbers sums numbers_low sums_low)

  second_again : second_of (numbers ++ sums) ≡ second
  second_again =
      let early_too : second < 1000000000000 = early in
      let one = decimals_again (second / 100000000) in
      let two = decimals_again (second / 10000) in
      let three = decimals_again second in
      (λ i. 100000000 * one i + 10000 * two i + three i) ∙ omega (arith, early_too)

  root_again : root_of (numbers ++ sums) ≡ algorithm ∷ digest
  root_again =
      let digest_again : bytes_of (take 16 (words digest ++ sums)) ≡ digest = ap bytes_of (take_at (words digest) sums 16 (words_length 16 digest size)) ∙ words_again 16 digest size each in
      λ i. sym one i ∷ digest_again i

  abbrev text : List ℕ
  text = bare (printed second (algorithm ∷ digest))

  abbrev date : List ℕ
  date = bare (basic_text second)

  text_is : text ≡ codes "KSIPUBLICATION" ++ (date ++ plain (numbers ++ sums))
  unfolding printed
  text_is =
      ap (λ (t : List ℕ). codes "KSIPUBLICATION" ++ t)
      (ap bare (append_assoc (basic_text second) (groups_text 0 (with_sum numbers)) (10 ∷ []))
      ∙ bare_append (basic_text second) (groups_text 0 (with_sum numbers) ++ 10 ∷ []) ∙ ap (λ (t : List ℕ). date ++ t) (bare_groups 0 (with_sum numbers)))

  text_length : length text ≡ 135
  text_length =
      ap length text_is ∙ omega (arith, length-append date (plain (numbers ++ sums)), basic_length second, plain_length (numbers ++ sums), all_count)

  groups_are : drop 30 text ≡ plain (numbers ++ sums)
  groups_are = ap (λ (t : List ℕ). drop 30 t) text_is ∙ drop_at date (plain (numbers ++ sums)) 16 (basic_length second)

  compared_same : (t again : List ℕ) (publication : ℕ × List ℕ) → t ≡ again → compared t again publication ≡ Ok publication
  compared_same t again publication same =
      ap (λ (b : Bool). if b then Ok publication else (if bytes_eq (drop 125 t) (drop 125 again) then Err Date else Err Sum)) ((bytes_eq-Decides t again).1 same)

  printed_again : reading text ≡ Ok (second, algorithm ∷ digest)
  unfolding reading
  printed_again =
      ap (λ (b : Bool). if b then reading_of text (numbers_from [] 0 21 (drop 30 text)) else Err (Characters (length text))) (eq-eqb (length text) 135 text_length)
      ∙ ap (λ (t : List ℕ). reading_of text (numbers_from [] 0 21 t)) groups_are
      ∙ ap (reading_of text) read_again
      ∙ compared_same text (bare (printed (second_of (numbers ++ sums)) (root_of (numbers ++ sums)))) (second_of (numbers ++ sums), root_of (numbers ++ sums))
      (λ i. bare (printed (sym second_again i) (sym root_again i)))
      ∙ (λ i. Ok (second_again i, root_again i))

all_bytes : (bytes : List ℕ) → ((k : ℕ) → slice_index bytes k < 256) → AllByRecursion (λ byte. byte < 256) bytes
all_bytes [] each = tt
all_bytes (byte ∷ bytes) each = (each zero, all_bytes bytes (λ k. each (suc k)))

pub printed_is_read : (second : ℕ) (root : List ℕ) → second < 10 ^ 12 → IsImprint root → ((k : ℕ) → slice_index root k < 256) → reading (bare (printed second root)) ≡ Ok (second, root)
printed_is_read second [] early is each = absurd (omega (arith, is.size))
printed_is_read second (algorithm ∷ digest) early is each = printed_again second algorithm digest early is.algorithm (omega (arith, is.size)) (all_bytes digest (λ k. each (suc k)))

-- ---- a text that is read

compared_is : (t again : List ℕ) (p q : ℕ × List ℕ) (b : Bool) → bytes_eq t again ≡ b → (if b then Ok p else (if bytes_eq (drop 125 t) (drop 125 again) then Err Date else Err Sum)) ≡ Ok q → (t ≡ again) × (p ≡ q)
compared_is t again p q true same is = ((bytes_eq-Decides t again).0 same, cc)
compared_is t again p q false same is = absurd (not_date (bytes_eq (drop 125 t) (drop 125 again)) q is)
  where
    not_date : (b : Bool) (q : ℕ × List ℕ) → (if b then Err Date else Err Sum) ≡ Ok q → ⊥
    not_date true q is = cc
    not_date false q is = cc

of_numbers : (t : List ℕ) (r : Result (List ℕ) PrintFault) (q : ℕ × List ℕ) → reading_of t r ≡ Ok q → t ≡ bare (printed q.0 q.1)
of_numbers t (Err fault) q is = absurd cc
of_numbers t (Ok ns) q is =
    let both = compared_is t (bare (printed (second_of ns) (root_of ns))) (second_of ns, root_of ns) q (bytes_eq t (bare (printed (second_of ns) (root_of ns)))) refl is in
    both.0 ∙ ap (λ (p : ℕ × List ℕ). bare (printed p.0 p.1)) both.1

of_length : (t : List ℕ) (b : Bool) (q : ℕ × List ℕ) → (if b then reading_of t (numbers_from [] 0 21 (drop 30 t)) else Err (Characters (length t))) ≡ Ok q → t ≡ bare (printed q.0 q.1)
of_length t true q is = of_numbers t (numbers_from [] 0 21 (drop 30 t)) q is
of_length t false q is = absurd cc

pub read_is_printed : (t : List ℕ) (second : ℕ) (root : List ℕ) → reading t ≡ Ok (second, root) → t ≡ bare (printed second root)
unfolding reading
read_is_printed t second root is = of_length t (nat_eq (length t) 135) (second, root) is

-- ---- a reading by its steps

pub read_from : (t ns : List ℕ) → length t ≡ 135 → numbers_from [] 0 21 (drop 30 t) ≡ Ok ns → reading t ≡ compared t (bare (printed (second_of ns) (root_of ns))) (second_of ns, root_of ns)
unfolding reading
read_from t ns size is =
    ap (λ (b : Bool). if b then reading_of t (numbers_from [] 0 21 (drop 30 t)) else Err (Characters (length t))) (eq-eqb (length t) 135 size) ∙ ap (reading_of t) is

pub not_read_from : (t : List ℕ) (fault : PrintFault) → length t ≡ 135 → numbers_from [] 0 21 (drop 30 t) ≡ Err fault → reading t ≡ Err fault
unfolding reading
not_read_from t fault size is =
    ap (λ (b : Bool). if b then reading_of t (numbers_from [] 0 21 (drop 30 t)) else Err (Characters (length t))) (eq-eqb (length t) 135 size) ∙ ap (reading_of t) is
