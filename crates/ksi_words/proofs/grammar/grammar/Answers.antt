use Rattle.std.proofs.Common.{◌≡◌, ◌∙◌, map, take, sym, ap, arith}
use Rattle.clap.specs.Words.{App, Shape, app_of, with_subcommand}
use Rattle.ksi_words.specs.Grammar.{app_over, form_of}
use Rattle.ksi_words.proofs.Building.{app_over_more}
use Rattle.ksi_words.proofs.grammar.grammar.Goals as goal

onto : (a b : App) (s : Shape) {after : App} → after ≡ with_subcommand a s → a ≡ b → after ≡ with_subcommand b s
onto a b s is same = is ∙ ap (λ (app : App). with_subcommand app s) same

pub rows-preserved : goal.rows-preserved
rows-preserved c =
    onto (app_of c.rows.grammar) (app_over (map form_of (take c.rows.row-index c.args.rows.now))) _ c.in_ok-grammar.ensures c.rows.invariant
    ∙ sym (app_over_more c.args.rows.now c.rows.row-index _ (omega arith))
