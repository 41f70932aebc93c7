use Rattle.std.proofs.Common.{◌∙◌, ap}
use Rattle.std.proofs.lemmas.Result.{IfOk-weaker}
use Rattle.clap.specs.Words.{App, app_of, with_subcommand}
use Rattle.ksi_words.proofs.grammar.with_row.Goals as goal

pub returns : goal.returns
returns c =
    let form_is = ap (λ (app : App). app.top) c.in_ok-form.ensures.0 in
    IfOk-weaker c.subcommand.result _ _ (λ more h. h.shape c.in_ok-form.ensures.1 ∙ ap (with_subcommand (app_of c.args.grammar)) form_is) c.subcommand.ensures
