-- Printed words and lines are read again.
use Rattle.std.proofs.Common.{◌≡◌, ◌≢◌, ℕ, ◌^◌, ◌<◌, ◌≤◌, Bool, true, false, eqb, ltb, ◌&&◌, List, [], ◌∷◌, ◌++◌, length, Some, refl, ap, ◌∙◌, arith, append-nil, lit<}
use Rattle.std.specs.Fmt.{decimal}
use Rattle.std.specs.List.{list_all}
use Rattle.std.specs.Char.{is_ascii_digit, digit_value}
use Rattle.std.specs.Str.Parse.{digits_value, AllDigits}
use Rattle.std.proofs.lemmas.Fmt.{decimal_is_IsNumeral, length-decimal-le}
use Rattle.std.proofs.lemmas.Bool.{lt-ltb, le-leb, ltb-true, ne_eqb}
use Rattle.ksi_schedule.specs.Pieces.{Text, lines, words}
use Rattle.ksi_schedule.specs.Decimal.{number_of}
use Rattle.ksi_schedule.specs.Printed.{spaced, line_of, text_of_lines}
use Rattle.ksi_schedule.proofs.Cuts.{Lacks, words-whole, words-cut, lines-cut}

abbrev pub IsCleanWord : Text → Type 0
IsCleanWord word = Lacks 32 word × Lacks 10 word

-- no word has a space or a line feed
abbrev pub IsClean : List Text → Type 0
IsClean [] = Unit {0}
IsClean (word ∷ words) = Lacks 32 word × Lacks 10 word × IsClean words

words-spaced : (word : Text) (ws : List Text) → Lacks 32 word → IsClean ws → words (word ++ spaced ws) ≡ word ∷ ws
words-spaced word [] free clean = ap words (append-nil word) ∙ words-whole word free
words-spaced word (w ∷ ws) free clean = words-cut word (w ++ spaced ws) free ∙ ap (λ (r : List Text). word ∷ r) (words-spaced w ws clean.0 clean.2)

-- the words of a line are those that it was made of
pub words-line_of : (word : Text) (ws : List Text) → IsClean (word ∷ ws) → words (line_of (word ∷ ws)) ≡ word ∷ ws
words-line_of word ws clean = words-spaced word ws clean.0 clean.2

lacks-append : (mark : ℕ) (a b : Text) → Lacks mark a → Lacks mark b → Lacks mark (a ++ b)
lacks-append mark [] b fa fb = fb
lacks-append mark (x ∷ a) b fa fb = (fa.0, lacks-append mark a b fa.1 fb)

spaced-lacks : (ws : List Text) → IsClean ws → Lacks 10 (spaced ws)
spaced-lacks [] clean = tt
spaced-lacks (w ∷ ws) clean = (refl, lacks-append 10 w (spaced ws) clean.1 (spaced-lacks ws clean.2))

line_of-lacks : (ws : List Text) → IsClean ws → Lacks 10 (line_of ws)
line_of-lacks [] clean = tt
line_of-lacks (w ∷ ws) clean = lacks-append 10 w (spaced ws) clean.1 (spaced-lacks ws clean.2)

-- the lines of a text are those that it was made of
pub lines-text : (ws : List Text) (others : List (List Text)) → IsClean ws → lines (text_of_lines (ws ∷ others)) ≡ line_of ws ∷ lines (text_of_lines others)
lines-text ws others clean = lines-cut (line_of ws) (text_of_lines others) (line_of-lacks ws clean)

-- ---- numbers

digit_range : (d : ℕ) → digit_value d < 10 → (48 ≤ d) × (d ≤ 57)
digit_range d lt = (grind arith, grind arith)

digit_tests : (d : ℕ) → digit_value d < 10 → is_ascii_digit d ≡ true
digit_tests d lt = let r = digit_range d lt in grind (arith, r)

digit-lacks : (mark : ℕ) (ds : Text) → mark < 48 → AllDigits 10 ds → Lacks mark ds
digit-lacks mark [] low all = tt
digit-lacks mark (d ∷ ds) low all = let r = digit_range d all.0 in let ne : d ≢ mark = omega (arith, r.0) in (ne_eqb _ _ ne, digit-lacks mark ds low all.1)

digits-all : (ds : Text) → AllDigits 10 ds → list_all is_ascii_digit ds ≡ true
digits-all [] all = refl
digits-all (d ∷ ds) all = rw (digit_tests d all.0) (digits-all ds all.1)

pub number_again : (n : ℕ) → n < 2 ^ 64 → number_of (decimal n) ≡ Some n
unfolding number_of
number_again n lt =
    let is = decimal_is_IsNumeral n lt in
    let short : length (decimal n) ≤ 20 = length-decimal-le 20 n (lit< tt) (omega arith) lt in
    let small : digits_value 10 (decimal n) < 2 ^ 64 = omega (arith, is.1) in
    rw (lt-ltb _ _ is.0.0, le-leb _ _ short, digits-all (decimal n) is.0.1, lt-ltb _ _ small) (ap Some is.1)

pub number-clean : (n : ℕ) → n < 2 ^ 64 → IsCleanWord (decimal n)
number-clean n lt = (digit-lacks 32 (decimal n) (lit< tt) (decimal_is_IsNumeral n lt).0.1, digit-lacks 10 (decimal n) (lit< tt) (decimal_is_IsNumeral n lt).0.1)

-- ---- other words

above : (mark b : ℕ) → mark < 33 → ltb 32 b ≡ true → eqb b mark ≡ false
above mark b low high = let h : 32 < b = ltb-true _ _ high in let ne : b ≢ mark = omega arith in ne_eqb _ _ ne

both : (b c : Bool) → (b && c) ≡ true → (b ≡ true) × (c ≡ true)
both true c e = (refl, e)
both false c e = absurd cc

plain-lacks : (mark : ℕ) (word : Text) → mark < 33 → list_all (λ b. ltb 32 b) word ≡ true → Lacks mark word
plain-lacks mark [] low all = tt
plain-lacks mark (b ∷ word) low all = let o = both (ltb 32 b) (list_all (λ b. ltb 32 b) word) all in (above mark b low o.0, plain-lacks mark word low o.1)

-- a word of visible characters
pub plain : (word : Text) → list_all (λ b. ltb 32 b) word ≡ true → IsCleanWord word
plain word all = (plain-lacks 32 word (omega arith) all, plain-lacks 10 word (omega arith) all)

pub lettered : (letter : ℕ) (word : Text) → ltb 32 letter ≡ true → IsCleanWord word → IsCleanWord (letter ∷ word)
lettered letter word high c = ((above 32 letter (omega arith) high, c.0), (above 10 letter (omega arith) high, c.1))

pub more : (x : Text) (xs : List Text) → IsCleanWord x → IsClean xs → IsClean (x ∷ xs)
more x xs cx cxs = (cx.0, cx.1, cxs)

pub two : (x y : Text) → IsCleanWord x → IsCleanWord y → IsClean (x ∷ y ∷ [])
two x y cx cy = (cx.0, cx.1, (cy.0, cy.1, tt))

pub three : (x y z : Text) → IsCleanWord x → IsCleanWord y → IsCleanWord z → IsClean (x ∷ y ∷ z ∷ [])
three x y z cx cy cz = (cx.0, cx.1, two y z cy cz)

pub four : (x y z w : Text) → IsCleanWord x → IsCleanWord y → IsCleanWord z → IsCleanWord w → IsClean (x ∷ y ∷ z ∷ w ∷ [])
four x y z w cx cy cz cw = (cx.0, cx.1, three y z w cy cz cw)
