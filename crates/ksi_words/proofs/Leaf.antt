-- What `clap` makes of the words after a command's name, where none of them begins with a dash.
use Rattle.std.proofs.Common.{◌≡◌, ℕ, ◌<◌, Bool, true, false, List, [], ◌∷◌, ◌++◌, length, codes, Some, None, refl, sym, ap, ◌∙◌, arith, nat_eq, nat_lt, append-nil, append_assoc, subst, inl, inr}
use Rattle.std.proofs.lemmas.Bool.{cases_lt}
use Rattle.std.specs.Prelude.{fold}
use Rattle.std.specs.List.{list_any}
use Rattle.std.specs.Str.{bytes_eq}
use Rattle.clap.specs.Lexer.{usize_max, long_of, short_of}
use Rattle.clap.specs.Walk.{settled, finished, Row, Rule, Text, Walk, positional, nothing_held, rows_after, walk, walk_from, walked}
use Rattle.clap.specs.Simple.{Shape, new_shape, filled, with_index}
use Rattle.clap.specs.Faults.{settle_fault, check_fault, level_fault, walk_fault, defaults_fault}
use Rattle.clap.specs.Kinds.{Kinds, or_else, values_kinds}
use Rattle.clap.specs.declared.builder.action.ArgAction.TheVariants.{Set}
use Rattle.clap.specs.declared.builder.value_parser.ValueParser.TheVariants as vp
use Rattle.clap.specs.declared.error.kind.ErrorKind.{ErrorKind}
use Rattle.clap.specs.declared.error.kind.ErrorKind.TheVariants as kind
use Rattle.clap.specs.declared.parser.matches.ValueSource.TheVariants.{CommandLine}
use Rattle.clap.specs.declared.builder.value_parser.Reading.TheVariants.{AsWritten}
use Rattle.ksi_words.specs.Words.{begins_with_dash}
use Rattle.ksi_words.specs.Grammar.{words_rule}

-- ---- a word that does not begin with a dash

pub no_dashes : (w : Text) → begins_with_dash w ≡ false → bytes_eq w (45 ∷ 45 ∷ []) ≡ false
no_dashes [] plain = refl
no_dashes (b ∷ bs) plain = rw plain refl

pub not_long : (w : Text) → begins_with_dash w ≡ false → long_of w ≡ None
not_long [] plain = refl
not_long (b ∷ bs) plain = rw plain refl

pub not_short : (w : Text) → begins_with_dash w ≡ false → short_of w ≡ None
not_short [] plain = refl
not_short (b ∷ bs) plain = rw plain refl

-- ---- the rule of a command's words, as built

abbrev pub built_rule : ℕ → Rule
built_rule n = record (words_rule n) { index = Some 1; action = Some Set; parser = Some vp.String }

pub rule_built : (n : ℕ) → 0 < n → n < usize_max → with_index 1 (filled (words_rule n)) ≡ built_rule n
rule_built n some few =
    let not_none : nat_eq n 0 ≡ false = grind arith in
    let not_most : nat_eq n usize_max ≡ false = grind arith in
    rw (not_none, not_most) refl

-- the name, and how many words follow it
abbrev pub leaf : Text → ℕ → Shape
leaf name n = record (new_shape name) { rules = built_rule n ∷ []; no_binary_name = true; disable_help_flag = true; disable_help_subcommand = true; is_built = true }

abbrev pub words_row : List Text → Row
words_row words = record { id = codes "words"; values = words; count = None; source = Some CommandLine; reading = AsWritten }

-- ---- where words go on

abbrev pub AllPlain : List Text → Type 0
AllPlain words = list_any begins_with_dash words ≡ false

pub first_plain : (w : Text) (ws : List Text) → AllPlain (w ∷ ws) → (begins_with_dash w ≡ false) × AllPlain ws
first_plain w ws h = (grind arith, grind arith)

-- the walk between two of several words
abbrev between : List Text → Walk
between words = record { held = record { rows = []; pending = Some (codes "words", words); skip = 0 }; waiting = positional; position = 1; is_trailing = false; stopped = None }

one_more : (n : ℕ) (words : List Text) (w : Text) → 1 < n → begins_with_dash w ≡ false → walked (built_rule n ∷ []) [] (between words) w ≡ between (words ++ w ∷ [])
unfolding walked
one_more n words w several plain =
    let some : nat_lt 1 n ≡ true = grind arith in
    let same : nat_eq n n ≡ true = grind arith in
    rw (no_dashes w plain, not_long w plain, not_short w plain) (rw (same, some) refl)

first_word : (n : ℕ) (w : Text) → 1 < n → begins_with_dash w ≡ false → walked (built_rule n ∷ []) [] (walk_from nothing_held) w ≡ between (w ∷ [])
unfolding walked
first_word n w several plain =
    let some : nat_lt 1 n ≡ true = grind arith in
    let same : nat_eq n n ≡ true = grind arith in
    rw (no_dashes w plain, not_long w plain, not_short w plain) (rw (same, some) refl)

all_words : (n : ℕ) (words rest : List Text) → 1 < n → AllPlain rest → fold (walked (built_rule n ∷ []) []) (between words) rest ≡ between (words ++ rest)
all_words n words [] several plain = ap between (sym (append-nil words))
all_words n words (w ∷ rest) several plain =
    let first = first_plain w rest plain in
    rw (one_more n words w several first.0) (all_words n (words ++ w ∷ []) rest several first.1 ∙ ap between (append_assoc words (w ∷ []) rest))

no_word_fault : (name : Text) (n : ℕ) (words rest : List Text) → 1 < n → AllPlain rest → walk_fault (leaf name n) [] (between words) rest ≡ []
unfolding walk_fault
no_word_fault name n words [] several plain = refl
no_word_fault name n words (w ∷ rest) several plain =
    let first = first_plain w rest plain in
    let some : nat_lt 1 n ≡ true = grind arith in
    let same : nat_eq n n ≡ true = grind arith in
    rw (one_more n words w several first.0) (rw (no_dashes w first.0, not_long w first.0, not_short w first.0) (rw (same, some) (no_word_fault name n (words ++ w ∷ []) rest several first.1)))

-- ---- the parse of a command's words

any_text_passes : (ignore_case : Bool) (words : List Text) → values_kinds ignore_case vp.String words ≡ []
any_text_passes ignore_case [] = refl
any_text_passes ignore_case (w ∷ ws) = any_text_passes ignore_case ws

-- the faults after the walk
abbrev end_fault : Text → ℕ → List Text → Kinds
end_fault name n words =
    let rules = (leaf name n).rules in
    let end = (between words).held in
    or_else (settle_fault rules false end) (or_else (defaults_fault (settled rules end).rows rules) (check_fault (leaf name n) (finished rules end) false))

walk_of_several : (n : ℕ) (w : Text) (ws : List Text) → 1 < n → AllPlain (w ∷ ws) → walk (built_rule n ∷ []) [] nothing_held (w ∷ ws) ≡ between (w ∷ ws)
walk_of_several n w ws several plain =
    let first = first_plain w ws plain in
    rw (first_word n w several first.0) (all_words n (w ∷ []) ws several first.1)

fault_of_several : (name : Text) (n : ℕ) (w : Text) (ws : List Text) → 1 < n → AllPlain (w ∷ ws) → walk_fault (leaf name n) [] (walk_from nothing_held) (w ∷ ws) ≡ []
unfolding walk_fault
fault_of_several name n w ws several plain =
    let first = first_plain w ws plain in
    let some : nat_lt 1 n ≡ true = grind arith in
    let same : nat_eq n n ≡ true = grind arith in
    rw (first_word n w several first.0) (rw (no_dashes w first.0, not_long w first.0, not_short w first.0) (no_word_fault name n (w ∷ []) ws several first.1))

level_of_several : (name : Text) (n : ℕ) (w : Text) (ws : List Text) → 1 < n → AllPlain (w ∷ ws) → level_fault (leaf name n) [] nothing_held (w ∷ ws) false [] ≡ end_fault name n (w ∷ ws)
level_of_several name n w ws several plain = rw (fault_of_several name n w ws several plain, walk_of_several n w ws several plain) refl

end_right : (name : Text) (n : ℕ) (w : Text) (ws : List Text) → 1 < n → length (w ∷ ws) ≡ n → end_fault name n (w ∷ ws) ≡ []
unfolding defaults_fault
end_right name n w ws several is =
    let some : nat_lt 0 n ≡ true = grind arith in
    let same : nat_eq n n ≡ true = grind arith in
    let full : nat_eq (length (w ∷ ws)) 0 ≡ false = grind arith in
    let right : nat_eq n (length (w ∷ ws)) ≡ true = grind arith in
    rw (some, same, right, full) (rw (any_text_passes false ws) refl)

end_wrong : (name : Text) (n : ℕ) (w : Text) (ws : List Text) → 1 < n → (length (w ∷ ws) ≡ n → ⊥) → end_fault name n (w ∷ ws) ≡ kind.WrongNumberOfValues ∷ []
end_wrong name n w ws several other =
    let some : nat_lt 0 n ≡ true = grind arith in
    let same : nat_eq n n ≡ true = grind arith in
    let full : nat_eq (length (w ∷ ws)) 0 ≡ false = grind arith in
    let wrong : nat_eq n (length (w ∷ ws)) ≡ false = grind arith in
    rw (some, same, wrong, full) refl

rows_of_several : (n : ℕ) (w : Text) (ws : List Text) → 1 < n → AllPlain (w ∷ ws) → rows_after (built_rule n ∷ []) [] (w ∷ ws) ≡ words_row (w ∷ ws) ∷ []
rows_of_several n w ws several plain = rw (walk_of_several n w ws several plain) refl

-- ---- one word

level_of_one : (name : Text) (w : Text) → begins_with_dash w ≡ false → level_fault (leaf name 1) [] nothing_held (w ∷ []) false [] ≡ []
unfolding walked walk_fault defaults_fault
level_of_one name w plain = rw (no_dashes w plain, not_long w plain, not_short w plain) refl

rows_of_one : (w : Text) → begins_with_dash w ≡ false → rows_after (built_rule 1 ∷ []) [] (w ∷ []) ≡ words_row (w ∷ []) ∷ []
unfolding walked
rows_of_one w plain = rw (no_dashes w plain, not_long w plain, not_short w plain) refl

level_of_more : (name : Text) (w second : Text) (ws : List Text) → begins_with_dash w ≡ false → begins_with_dash second ≡ false → level_fault (leaf name 1) [] nothing_held (w ∷ second ∷ ws) false [] ≡ kind.UnknownArgument ∷ []
unfolding walked walk_fault defaults_fault
level_of_more name w second ws plain also = rw (no_dashes w plain, not_long w plain, not_short w plain, no_dashes second also, not_long second also, not_short second also) refl

level_of_none : (name : Text) (n : ℕ) → level_fault (leaf name n) [] nothing_held [] false [] ≡ kind.MissingRequiredArgument ∷ []
unfolding walked walk_fault defaults_fault
level_of_none name n = refl

-- ---- as many words as are wanted, and no others

pub right_level : (name : Text) (n : ℕ) (words : List Text) → 0 < n → AllPlain words → length words ≡ n → level_fault (leaf name n) [] nothing_held words false [] ≡ []
right_level name n [] some plain is = absurd (omega arith)
right_level name n (w ∷ []) some plain is = subst (λ k. level_fault (leaf name k) [] nothing_held (w ∷ []) false [] ≡ []) is (level_of_one name w (first_plain w [] plain).0)
right_level name n (w ∷ v ∷ ws) some plain is = level_of_several name n w (v ∷ ws) (omega arith) plain ∙ end_right name n w (v ∷ ws) (omega arith) is

pub right_rows : (n : ℕ) (words : List Text) → 0 < n → AllPlain words → length words ≡ n → rows_after (built_rule n ∷ []) [] words ≡ words_row words ∷ []
right_rows n [] some plain is = absurd (omega arith)
right_rows n (w ∷ []) some plain is = subst (λ k. rows_after (built_rule k ∷ []) [] (w ∷ []) ≡ words_row (w ∷ []) ∷ []) is (rows_of_one w (first_plain w [] plain).0)
right_rows n (w ∷ v ∷ ws) some plain is = rows_of_several n w (v ∷ ws) (omega arith) plain

some_kind : (kinds : Kinds) (k : ErrorKind) → kinds ≡ k ∷ [] → kinds ≡ [] → ⊥
some_kind kinds k is none = absurd (cc (is, none))

wrong_of_one : (name : Text) (w : Text) (ws : List Text) → AllPlain (w ∷ ws) → (length (w ∷ ws) ≡ 1 → ⊥) → level_fault (leaf name 1) [] nothing_held (w ∷ ws) false [] ≡ [] → ⊥
wrong_of_one name w [] plain other none = other refl
wrong_of_one name w (v ∷ ws) plain other none =
    let first = first_plain w (v ∷ ws) plain in
    some_kind _ _ (level_of_more name w v ws first.0 (first_plain v ws first.1).0) none

pub wrong_level : (name : Text) (n : ℕ) (words : List Text) → 0 < n → AllPlain words → (length words ≡ n → ⊥) → level_fault (leaf name n) [] nothing_held words false [] ≡ [] → ⊥
wrong_level name n [] some plain other none = some_kind _ _ (level_of_none name n) none
wrong_level name n (w ∷ ws) some plain other none = elim (cases_lt 1 n) [
  | inl several ↦ some_kind _ _ (level_of_several name n w ws several plain ∙ end_wrong name n w ws several other) none
  | inr few ↦
      let one : 1 ≡ n = omega arith in
      wrong_of_one name w ws plain (λ e. other (e ∙ one)) (subst (λ k. level_fault (leaf name k) [] nothing_held (w ∷ ws) false [] ≡ []) (sym one) none)
]
