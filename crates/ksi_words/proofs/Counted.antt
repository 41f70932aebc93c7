-- Words as many as they are.
use Rattle.std.proofs.Common.{◌≡◌, ◌≤◌, ◌<◌, ◌⊎◌, ℕ, false, nat_eq, List, [], ◌∷◌, length, get_or, map, Err, refl, ap, sym, subst, arith, Bor}
use Rattle.std.proofs.lemmas.List.{length-map}
use Rattle.clap.specs.Walk.{Text}
use Rattle.ksi_words.specs.Words.{command_named, table}
use Rattle.ksi_words.specs.declared.asked.WordsRefusal.TheVariants.{Words}
use Rattle.ksi_words.proofs.Unnamed.{IsUnnamed, unnamed_refused}

abbrev pub now : List (Bor Text) → List Text
now = map (λ word. word.now)

none_of : (words : List (Bor Text)) → length words < 1 → [] ≡ now words
none_of [] below = refl
none_of (word ∷ words) below = absurd (omega arith)

pub one_of : (words : List (Bor Text)) (d : Bor Text) → 1 ≤ length words → length words < 2 → (get_or words 0 d).now ∷ [] ≡ now words
one_of [] d least below = absurd (omega arith)
one_of (word ∷ words) d least below = ap (λ (more : List Text). word.now ∷ more) (none_of words (omega arith))

pub two_of : (words : List (Bor Text)) (d : Bor Text) → 2 ≤ length words → length words < 3 → (get_or words 0 d).now ∷ (get_or words 1 d).now ∷ [] ≡ now words
two_of [] d least below = absurd (omega arith)
two_of (word ∷ words) d least below = ap (λ (more : List Text). word.now ∷ more) (one_of words d (omega arith) (omega arith))

pub three_of : (words : List (Bor Text)) (d : Bor Text) → 3 ≤ length words → length words < 4 → (get_or words 0 d).now ∷ (get_or words 1 d).now ∷ (get_or words 2 d).now ∷ [] ≡ now words
three_of [] d least below = absurd (omega arith)
three_of (word ∷ words) d least below = ap (λ (more : List Text). word.now ∷ more) (two_of words d (omega arith) (omega arith))

pub four_of : (words : List (Bor Text)) (d : Bor Text) → 4 ≤ length words → length words < 5 → (get_or words 0 d).now ∷ (get_or words 1 d).now ∷ (get_or words 2 d).now ∷ (get_or words 3 d).now ∷ [] ≡ now words
four_of [] d least below = absurd (omega arith)
four_of (word ∷ words) d least below = ap (λ (more : List Text). word.now ∷ more) (three_of words d (omega arith) (omega arith))

-- no row has none, or more than four
not_counted : (n : ℕ) (name : Text) → (n < 1) ⊎ (4 < n) → IsUnnamed table name n
not_counted n name other =
    let not_one : nat_eq n 1 ≡ false = grind arith in
    let not_two : nat_eq n 2 ≡ false = grind arith in
    let not_three : nat_eq n 3 ≡ false = grind arith in
    let not_four : nat_eq n 4 ≡ false = grind arith in
    rw (not_one, not_two, not_three, not_four) tt

pub miscounted_refused : (name : Text) (words : List (Bor Text)) → (length words < 1) ⊎ (4 < length words) → command_named table name (now words) ≡ Err Words
miscounted_refused name words other =
    unnamed_refused table name (now words) (subst (λ (n : ℕ). IsUnnamed table name n) (sym (length-map words (λ word. word.now))) (not_counted (length words) name other))
