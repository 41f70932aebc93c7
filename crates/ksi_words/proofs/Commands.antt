-- What `clap` makes of words of which none begins with a dash, by the names and counts of the commands.
use Rattle.std.proofs.Common.{◌≡◌, ℕ, ◌<◌, ◌==◌, ◌&&◌, Bool, true, false, List, [], ◌∷◌, ◌++◌, length, map, codes, Option, Some, None, option_map, arith, nat_lt, refl, sym, ap, ap₂, ◌∙◌, nat_eq, append_assoc, subst, append-nil}
use Rattle.std.specs.Prelude.{find, fold, is_some, ⊤, if◌then◌else◌}
use Rattle.std.specs.List.{list_all}
use Rattle.std.specs.Option.{option_map_or}
use Rattle.std.specs.Str.{bytes_eq}
use Rattle.std.proofs.lemmas.Bool.{eqb-true, eqb-false}
use Rattle.std.proofs.lemmas.Slice.Eq.{bytes_eq-Decides}
use Rattle.clap.specs.Lexer.{usize_max}
use Rattle.clap.specs.Walk.{settled, finished, idle, Names, Row, Rule, Text, Walk, is_multiple, answers_to, nothing_held, walk, walk_from, walked, rows_after, stop_after}
use Rattle.clap.specs.Simple.{App, Shape, built, built_leaf, entered, inherited, is_simple, is_buildable, is_ready, is_ready_leaf, is_simple_leaf, label_of, names_of, subcommand_of}
use Rattle.clap.specs.Faults.{settle_fault, entered_fault, defaults_fault, check_fault, built_fault, fault_of, has_free_rules, is_free_app, is_simple_and_free, level_fault, walk_fault}
use Rattle.clap.specs.Kinds.{Kinds, or_else}
use Rattle.clap.specs.declared.error.kind.ErrorKind.{ErrorKind}
use Rattle.clap.specs.declared.error.kind.ErrorKind.TheVariants as kind
use Rattle.ksi_words.specs.Words.{begins_with_dash}
use Rattle.ksi_words.specs.Grammar.{bare, row_app}
use Rattle.ksi_words.proofs.Leaf.{built_rule, rule_built, leaf, words_row, AllPlain, first_plain, no_dashes, not_long, not_short, right_level, right_rows, wrong_level}

abbrev pub Form : Type 0
Form = Text × ℕ

-- a command has words, and not more than can be counted
abbrev pub IsGood : Form → Type 0
IsGood form = (0 < form.1) × (form.1 < usize_max)

abbrev pub AllGood : List Form → Type 0
AllGood [] = ⊤
AllGood (form ∷ forms) = IsGood form × AllGood forms

abbrev pub is_good : Form → Bool
is_good form = nat_lt 0 form.1 && nat_lt form.1 usize_max

pub all_good : (forms : List Form) → list_all is_good forms ≡ true → AllGood forms
all_good [] good = tt
all_good (form ∷ forms) good = ((grind arith, grind arith), all_good forms (grind arith))

-- ---- building

abbrev pub app_with : List Form → App
app_with forms = record { top = record bare.top { is_leaf = false }; subs = map (λ form. (row_app form).top) forms }

abbrev built_top : Shape
built_top = record bare.top { is_leaf = false; is_built = true }

abbrev leaf_of : Form → Shape
leaf_of form = leaf form.0 form.1

abbrev built_app : List Form → App
built_app forms = record { top = built_top; subs = map leaf_of forms }

leaf_built : (form : Form) → IsGood form → built_leaf (inherited built_top (row_app form).top) ≡ leaf_of form
leaf_built form good = ap (λ (r : Rule). record (leaf_of form) { rules = r ∷ [] }) (rule_built form.1 good.0 good.1)

leaves_built : (forms : List Form) → AllGood forms → map built_leaf (map (inherited built_top) (app_with forms).subs) ≡ map leaf_of forms
leaves_built [] good = refl
leaves_built (form ∷ forms) good = ap₂ (λ (s : Shape) (ss : List Shape). s ∷ ss) (leaf_built form good.0) (leaves_built forms good.1)

app_built : (forms : List Form) → AllGood forms → built (app_with forms) ≡ built_app forms
app_built forms good = ap (λ (subs : List Shape). record (built_app forms) { subs = subs }) (leaves_built forms good)

-- ---- the command is one of which the matches are known

and_false : (b : Bool) → (b && false) ≡ false
and_false true = refl
and_false false = refl

simple_rows : (forms : List Form) → list_all is_simple_leaf (app_with forms).subs ≡ true
simple_rows [] = refl
simple_rows (form ∷ forms) = simple_rows forms

ready_leaves : (forms : List Form) → list_all is_ready_leaf (map leaf_of forms) ≡ true
ready_leaves [] = refl
ready_leaves (form ∷ forms) = rw (and_false (is_multiple (built_rule form.1))) (ready_leaves forms)

free_leaves : (forms : List Form) → list_all has_free_rules (map leaf_of forms) ≡ true
free_leaves [] = refl
free_leaves (form ∷ forms) = free_leaves forms

pub app_simple : (forms : List Form) → AllGood forms → is_simple (app_with forms) ≡ true
app_simple forms good =
    let built_is = ap (λ (b : App). is_buildable (app_with forms) && (is_ready b.top && list_all is_ready_leaf b.subs)) (app_built forms good) in
    built_is ∙ rw (simple_rows forms) (ready_leaves forms)

pub app_free : (forms : List Form) → AllGood forms → is_simple_and_free (app_with forms) ≡ true
app_free forms good = ap₂ (λ s f. s && f) (app_simple forms good) (ap is_free_app (app_built forms good) ∙ free_leaves forms)

-- ---- the command of a name

eq_texts : (xs ys : Text) → bytes_eq xs ys ≡ true → xs ≡ ys
eq_texts xs ys e = (bytes_eq-Decides xs ys).0 e

abbrev pub named : List Form → Text → Option Form
named forms word = find (λ form. bytes_eq form.0 word) forms

met_next : (b : Bool) (form : Form) (forms : List Form) (word : Text) → bytes_eq form.0 word ≡ b → find (answers_to word) (map label_of (map leaf_of forms)) ≡ option_map (λ form. label_of (leaf_of form)) (named forms word) → find (answers_to word) (map label_of (map leaf_of (form ∷ forms))) ≡ option_map (λ form. label_of (leaf_of form)) (named (form ∷ forms) word)
met_next true form forms word is rest = rw is refl
met_next false form forms word is rest = rw is rest

name_met : (forms : List Form) (word : Text) → find (answers_to word) (map label_of (map leaf_of forms)) ≡ option_map (λ form. label_of (leaf_of form)) (named forms word)
name_met [] word = refl
name_met (form ∷ forms) word = met_next (bytes_eq form.0 word) form forms word refl (name_met forms word)

entered_next : (b : Bool) (form : Form) (forms : List Form) (word : Text) → bytes_eq form.0 word ≡ b → find (λ s. answers_to word (label_of s)) (map leaf_of forms) ≡ option_map leaf_of (named forms word) → find (λ s. answers_to word (label_of s)) (map leaf_of (form ∷ forms)) ≡ option_map leaf_of (named (form ∷ forms) word)
entered_next true form forms word is rest = rw is refl
entered_next false form forms word is rest = rw is rest

leaf_entered : (forms : List Form) (word : Text) → find (λ s. answers_to word (label_of s)) (map leaf_of forms) ≡ option_map leaf_of (named forms word)
leaf_entered [] word = refl
leaf_entered (form ∷ forms) word = entered_next (bytes_eq form.0 word) form forms word refl (leaf_entered forms word)

abbrev IsNamed : List Form → Text → Form → Type 0
IsNamed forms word form = (form.0 ≡ word) × IsGood form

same_form : (a b : Form) → Some a ≡ Some b → a ≡ b
same_form a b e = cc (e)

named_next : (b : Bool) (first : Form) (forms : List Form) (word : Text) (form : Form) → bytes_eq first.0 word ≡ b → IsGood first → (named forms word ≡ Some form → IsNamed forms word form) → named (first ∷ forms) word ≡ Some form → IsNamed (first ∷ forms) word form
named_next true first forms word form is good rest e =
    let same = same_form first form (subst (λ b. (if b then Some first else named forms word) ≡ Some form) is e) in
    subst (λ f. IsNamed (first ∷ forms) word f) same (eq_texts first.0 word is, good)
named_next false first forms word form is good rest e = rest (subst (λ b. (if b then Some first else named forms word) ≡ Some form) is e)

pub named_is : (forms : List Form) (word : Text) (form : Form) → AllGood forms → named forms word ≡ Some form → IsNamed forms word form
named_is [] word form good e = absurd (cc (e))
named_is (first ∷ forms) word form good e = named_next (bytes_eq first.0 word) first forms word form refl good.0 (named_is forms word form good.1) e

-- ---- the walk over a command's name and words

abbrev stopped : Text → List Text → Walk
stopped name words = record { held = nothing_held; waiting = idle; position = 1; is_trailing = false; stopped = Some (name, words) }

names : List Form → Names
names forms = map label_of (map leaf_of forms)

meets : (forms : List Form) (word : Text) (form : Form) → named forms word ≡ Some form → walked [] (names forms) (walk_from nothing_held) word ≡ stopped form.0 []
unfolding walked names
meets forms word form e = rw (name_met forms word) (rw e refl)

goes_on : (forms : List Form) (name : Text) (words rest : List Text) → fold (walked [] (names forms)) (stopped name words) rest ≡ stopped name (words ++ rest)
unfolding walked
goes_on forms name words [] = ap (stopped name) (sym (append-nil words))
goes_on forms name words (w ∷ rest) = goes_on forms name (words ++ w ∷ []) rest ∙ ap (stopped name) (append_assoc words (w ∷ []) rest)

walk_is : (forms : List Form) (word : Text) (words : List Text) (form : Form) → named forms word ≡ Some form → walk [] (names forms) nothing_held (word ∷ words) ≡ stopped form.0 words
walk_is forms word words form e = ap (λ (w : Walk). fold (walked [] (names forms)) w words) (meets forms word form e) ∙ goes_on forms form.0 [] words

no_fault_after : (forms : List Form) (name : Text) (words rest : List Text) → walk_fault built_top (names forms) (stopped name words) rest ≡ []
unfolding walk_fault walked
no_fault_after forms name words [] = refl
no_fault_after forms name words (w ∷ rest) = no_fault_after forms name (words ++ w ∷ []) rest

no_walk_fault : (forms : List Form) (word : Text) (words : List Text) (form : Form) → named forms word ≡ Some form → walk_fault built_top (names forms) (walk_from nothing_held) (word ∷ words) ≡ []
unfolding walk_fault names
no_walk_fault forms word words form e =
    rw (meets forms word form e) (rw (name_met forms word) (rw e (rw (and_false (bytes_eq form.0 (codes "help"))) (no_fault_after forms form.0 [] words))))

-- ---- the parse

-- the faults after the walk
abbrev rest_fault : List Form → Walk → Kinds
rest_fault forms w =
    or_else (entered_fault (built_app forms) w.stopped)
    (or_else (settle_fault [] false w.held)
    (or_else (defaults_fault (settled [] w.held).rows [])
    (check_fault built_top (finished [] w.held) (is_some (entered (built_app forms) w.stopped)))))

in_parts : (forms : List Form) (words : List Text) → AllGood forms → fault_of (app_with forms) words ≡ or_else (walk_fault built_top (names forms) (walk_from nothing_held) words) (rest_fault forms (walk [] (names forms) nothing_held words))
unfolding names
in_parts forms words good = ap (λ (b : App). built_fault b nothing_held words) (app_built forms good)

named_again : (forms : List Form) (word : Text) (form : Form) → AllGood forms → named forms word ≡ Some form → named forms form.0 ≡ Some form
named_again forms word form good e = subst (λ name. named forms name ≡ Some form) (sym (named_is forms word form good e).0) e

rest_of_command : (forms : List Form) (words : List Text) (form : Form) → named forms form.0 ≡ Some form → rest_fault forms (stopped form.0 words) ≡ or_else (level_fault (leaf_of form) [] nothing_held words false []) []
unfolding defaults_fault
rest_of_command forms words form e = rw (leaf_entered forms form.0) (rw e refl)

known_fault : (forms : List Form) (word : Text) (words : List Text) (form : Form) → AllGood forms → named forms word ≡ Some form → fault_of (app_with forms) (word ∷ words) ≡ or_else (level_fault (leaf_of form) [] nothing_held words false []) []
known_fault forms word words form good e =
    in_parts forms (word ∷ words) good ∙ ap₂ or_else (no_walk_fault forms word words form e) (ap (rest_fault forms) (walk_is forms word words form e) ∙ rest_of_command forms words form (named_again forms word form good e))

unknown_fault : (forms : List Form) (word : Text) (words : List Text) → AllGood forms → begins_with_dash word ≡ false → named forms word ≡ None → fault_of (app_with forms) (word ∷ words) ≡ kind.UnknownArgument ∷ kind.InvalidSubcommand ∷ []
unfolding walk_fault names
unknown_fault forms word words good plain e =
    in_parts forms (word ∷ words) good ∙ rw (name_met forms word) (rw e (rw (no_dashes word plain, not_long word plain, not_short word plain) refl))

no_words_fault : (forms : List Form) → AllGood forms → fault_of (app_with forms) [] ≡ kind.MissingSubcommand ∷ []
unfolding walk_fault defaults_fault
no_words_fault forms good = in_parts forms [] good

-- the subcommand that a walk enters
abbrev entered_by : List Form → Walk → Option (Text × List Row)
entered_by forms w = entered (built_app forms) w.stopped

known_subcommand : (forms : List Form) (word : Text) (words : List Text) (form : Form) → AllGood forms → named forms word ≡ Some form → subcommand_of (app_with forms) (word ∷ words) ≡ Some (form.0, rows_after (built_rule form.1 ∷ []) [] words)
unfolding names
known_subcommand forms word words form good e =
    let built_is : subcommand_of (app_with forms) (word ∷ words) ≡ entered_by forms (walk [] (names forms) nothing_held (word ∷ words)) = ap (λ (b : App). entered b (stop_after b.top.rules (names_of b) (word ∷ words))) (app_built forms good) in
    built_is ∙ ap (entered_by forms) (walk_is forms word words form e) ∙ rw (leaf_entered forms form.0) (rw (named_again forms word form good e) refl)

-- ---- which words are taken

-- the words are a command's name and as many words as it has
abbrev pub fits : List Form → List Text → Bool
fits forms [] = false
fits forms (word ∷ words) = option_map_or (λ form. length words == form.1) (named forms word) false

or_else_none : (kinds : Kinds) → or_else kinds [] ≡ kinds
or_else_none [] = refl
or_else_none (k ∷ ks) = refl

some_kind : (kinds : Kinds) (k : ErrorKind) (ks : Kinds) → kinds ≡ k ∷ ks → kinds ≡ [] → ⊥
some_kind kinds k ks is none = absurd (cc (is, none))

fits_named : (forms : List Form) (word : Text) (words : List Text) (form : Form) → named forms word ≡ Some form → fits forms (word ∷ words) ≡ nat_eq (length words) form.1
fits_named forms word words form e = rw e refl

fits_unnamed : (forms : List Form) (word : Text) (words : List Text) → named forms word ≡ None → fits forms (word ∷ words) ≡ false
fits_unnamed forms word words e = rw e refl

module _ (forms : List Form) (good : AllGood forms) (word : Text) (words : List Text) (plain : AllPlain (word ∷ words)) where
  fault_by_name : (found : Option Form) → named forms word ≡ found → fits forms (word ∷ words) ≡ true → fault_of (app_with forms) (word ∷ words) ≡ []
  fault_by_name None e fit = absurd (cc (fit, fits_unnamed forms word words e))
  fault_by_name (Some form) e fit =
      let is : length words ≡ form.1 = eqb-true (length words) form.1 (sym (fits_named forms word words form e) ∙ fit) in
      let level = right_level form.0 form.1 words (named_is forms word form good e).1.0 (first_plain word words plain).1 is in
      known_fault forms word words form good e ∙ ap (λ kinds. or_else kinds []) level

  misfit_by_name : (found : Option Form) → named forms word ≡ found → fits forms (word ∷ words) ≡ false → fault_of (app_with forms) (word ∷ words) ≡ [] → ⊥
  misfit_by_name None e misfit none = some_kind _ _ _ (unknown_fault forms word words good (first_plain word words plain).0 e) none
  misfit_by_name (Some form) e misfit none =
      let level : level_fault (leaf_of form) [] nothing_held words false [] ≡ [] = sym (or_else_none _) ∙ sym (known_fault forms word words form good e) ∙ none in
      let other : length words ≡ form.1 → ⊥ = eqb-false (length words) form.1 (sym (fits_named forms word words form e) ∙ misfit) in
      wrong_level form.0 form.1 words (named_is forms word form good e).1.0 (first_plain word words plain).1 other level

  subcommand_by_name : (found : Option Form) → named forms word ≡ found → fits forms (word ∷ words) ≡ true → subcommand_of (app_with forms) (word ∷ words) ≡ Some (word, words_row words ∷ [])
  subcommand_by_name None e fit = absurd (cc (fit, fits_unnamed forms word words e))
  subcommand_by_name (Some form) e fit =
      let is : length words ≡ form.1 = eqb-true (length words) form.1 (sym (fits_named forms word words form e) ∙ fit) in
      let name = named_is forms word form good e in
      let rows = right_rows form.1 words name.1.0 (first_plain word words plain).1 is in
      known_subcommand forms word words form good e ∙ ap₂ (λ (n : Text) (r : List Row). Some (n, r)) name.0 rows

pub fits_no_fault : (forms : List Form) (words : List Text) → AllGood forms → AllPlain words → fits forms words ≡ true → fault_of (app_with forms) words ≡ []
fits_no_fault forms [] good plain fit = absurd (cc (fit))
fits_no_fault forms (word ∷ words) good plain fit = fault_by_name forms good word words plain (named forms word) refl fit

pub misfit_fault : (forms : List Form) (words : List Text) → AllGood forms → AllPlain words → fits forms words ≡ false → fault_of (app_with forms) words ≡ [] → ⊥
misfit_fault forms [] good plain misfit none = some_kind _ _ _ (no_words_fault forms good) none
misfit_fault forms (word ∷ words) good plain misfit none = misfit_by_name forms good word words plain (named forms word) refl misfit none

pub fits_subcommand : (forms : List Form) (word : Text) (words : List Text) → AllGood forms → AllPlain (word ∷ words) → fits forms (word ∷ words) ≡ true → subcommand_of (app_with forms) (word ∷ words) ≡ Some (word, words_row words ∷ [])
fits_subcommand forms word words good plain fit = subcommand_by_name forms good word words plain (named forms word) refl fit
