use Rattle.std.proofs.Common.{sym, subst}
use Rattle.ksi_schedule.specs.Reading.{words_left}
use Rattle.ksi_wire.specs.declared.event.AggregatorLine.{AggregatorLine}
use Rattle.ksi_wire.specs.Asked.{Answers, Got, if_spelled}
use Rattle.ksi_wire.specs.RoundLines.{asked_words}
use Rattle.ksi_wire.proofs.AboveSaid.{response_read}
use Rattle.ksi_wire.proofs.round_lines.response.Goals as goal

pub returns-clause-exact : goal.returns-clause-exact
returns-clause-exact c =
    let rest = words_left c.next_word.new.self.left in
    let read = response_read c.args.plan.now (words_left c.args.words.left) (words_left c.second.new.words.left) rest c.in-Ok.second c.in-Ok-next_word.word.now c.in-Ok.ensures.read c.in-Ok-next_word.ensures in
    subst (λ (got : Got AggregatorLine). Answers (if_spelled asked_words c.args.line.now got) c.spelled.result) (sym read) (c.spelled.ensures.exact rest)
