-- What the calls that build the command line for `clap` give.
use Rattle.std.proofs.Common.{◌≡◌, ℕ, ◌+◌, ◌<◌, List, [], ◌∷◌, ◌++◌, length, get_or, map, take, true, codes, Option, Some, None, ap, ap₂, ◌∙◌}
use Rattle.std.specs.Prelude.{IsSomeAnd}
use Rattle.std.proofs.lemmas.List.{take_more, map_push}
use Rattle.std.proofs.lemmas.List.Sums.{fold_push}
use Rattle.clap.specs.Words.{Rule, new_rule, rule_of, with_subcommand}
use Rattle.clap.specs.declared.builder.arg.Arg.{Arg}
use Rattle.clap.specs.declared.builder.range.ValueRange.{ValueRange}
use Rattle.ksi_words.specs.Grammar.{words_rule, bare, app_over, row_app, form_of}
use Rattle.ksi_words.specs.declared.table.CommandForm.{CommandForm}

abbrev exactly : ℕ → ValueRange
exactly n = record { start_inclusive = n; end_inclusive = n }

some_range : (range : Option ValueRange) (n : ℕ) → IsSomeAnd range (λ r. r ≡ exactly n) → range ≡ Some (exactly n)
some_range None n h = elim h [ ]
some_range (Some r) n h = ap (λ r. Some r) h

pub rule_is : (a b c : Arg) (n : ℕ) → rule_of a ≡ new_rule (codes "words") → b ≡ record a { required = true } → c ≡ record b { num_vals = c.num_vals } → IsSomeAnd c.num_vals (λ r. r ≡ exactly n) → rule_of c ≡ words_rule n
rule_is a b c n new needed ranged range =
    let first : rule_of b ≡ record (rule_of a) { required = true } = ap rule_of needed in
    let second : rule_of c ≡ record (rule_of b) { range = c.num_vals } = ap rule_of ranged in
    second ∙ ap₂ (λ (r : Rule) (v : Option ValueRange). record r { range = v }) (first ∙ ap (λ (r : Rule). record r { required = true }) new) (some_range c.num_vals n range)

-- one more row is one more subcommand
pub app_over_more : (rows : List CommandForm) (i : ℕ) (d : CommandForm) → i < length rows → app_over (map form_of (take (i + 1) rows)) ≡ with_subcommand (app_over (map form_of (take i rows))) (row_app (form_of (get_or rows i d))).top
app_over_more rows i d lt =
    let more : map form_of (take (i + 1) rows) ≡ map form_of (take i rows) ++ form_of (get_or rows i d) ∷ [] = ap (map form_of) (take_more rows i d lt) ∙ map_push form_of (take i rows) (get_or rows i d) in
    ap app_over more ∙ fold_push _ bare (map form_of (take i rows)) (form_of (get_or rows i d))
