use Rattle.std.proofs.Common.{rules, ◌≡◌, ◌∙◌, ap₂}
use Rattle.std.proofs.lemmas.Result.{IfOk-weaker}
use Rattle.clap.specs.Words.{rule_of, with_rule}
use Rattle.ksi_words.specs.Grammar.{words_rule}
use Rattle.ksi_words.proofs.Building.{rule_is}
use Rattle.ksi_words.proofs.grammar.form.Goals as goal

pub returns : goal.returns
returns c =
    let words_is : rule_of c.num_args-words.result ≡ words_rule c.args.row.now.words = rule_is c.new.result c.required.result c.num_args-words.result c.args.row.now.words c.new.ensures.rule c.required.ensures c.num_args-words.ensures.0 c.num_args-words.ensures.1 in
    IfOk-weaker c.arg.result _ _ (λ form h. (h.shape (search rules) ∙ ap₂ with_rule c.new-2.ensures.app words_is, search rules)) c.arg.ensures
