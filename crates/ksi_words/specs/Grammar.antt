-- The grammar that `clap` parses by, in its own words. The meaning of a command line is defined without it, in Words.
use Rattle.std.specs.Prelude.{ℕ, List, codes, Some, true, fold}
use Rattle.clap.specs.Words.{App, Rule, Shape, Text, new_app, new_rule, with_rule, with_subcommand}
use Rattle.clap.specs.Simple.{on_top}
use Rattle.clap.specs.declared.error.kind.ErrorKind.{ErrorKind}
use Rattle.clap.specs.declared.error.kind.ErrorKind.TheVariants.{OutOfMemory}
use Rattle.ksi_imprint.specs.declared.refused.Refused.{Refused}
use Rattle.ksi_imprint.specs.declared.refused.Refused.TheVariants.{Fault, NoMemory}
use Rattle.ksi_words.specs.declared.asked.WordsRefusal.{WordsRefusal}
use Rattle.ksi_words.specs.declared.asked.WordsRefusal.TheVariants.{Words}
use Rattle.ksi_words.specs.declared.table.CommandForm.{CommandForm}

-- a command's name, and how many words follow it
abbrev pub form_of : CommandForm → Text × ℕ
form_of row = (row.name.now, row.words)

-- the words after a name: n of them, all wanted
abbrev pub words_rule : ℕ → Rule
words_rule n = record (new_rule (codes "words")) { required = true; range = Some (record { start_inclusive = n; end_inclusive = n }) }

abbrev pub row_app : Text × ℕ → App
row_app form = with_rule (new_app form.0) (words_rule form.1)

-- with no words of `clap`'s own: no program's name, no help
abbrev pub bare_shape : Shape → Shape
bare_shape s = record s { no_binary_name = true; disable_help_flag = true; disable_help_subcommand = true; subcommand_required = true }

abbrev pub bare : App
bare = on_top bare_shape (new_app (codes "ksi"))

-- a subcommand for each row
abbrev pub app_over : List (Text × ℕ) → App
app_over forms = fold (λ app form. with_subcommand app (row_app form).top) bare forms

-- why a parse fails, of words of which none begins with a dash
abbrev pub refusal_of : ErrorKind → Refused WordsRefusal
refusal_of OutOfMemory = NoMemory
refusal_of _ = Fault Words
