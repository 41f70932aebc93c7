use Rattle.std.proofs.Common.{rules}
use Rattle.ksi_top.proofs.locate.where_told.Goals as goal

pub returns-clause-means : goal.returns-clause-means
returns-clause-means c =
    let is = c.in_ok-answer.ensures in
    record { answer = c.in_ok-answer.answer; answer_is = is.answer; reported = search rules; shown = is.shown; inside = is.inside }
