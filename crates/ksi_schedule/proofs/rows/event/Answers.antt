use Rattle.std.proofs.Common.{◌≡◌, rules}
use Rattle.ksi_schedule.specs.Words.{form_at}
use Rattle.ksi_schedule.specs.Forms.{deliver_line}
use Rattle.ksi_schedule.specs.Reading.{words_left}
use Rattle.ksi_schedule.proofs.rows.event.Goals as goal

pub returns-then-is-5-clause-value : goal.returns-then-is-5-clause-value
returns-then-is-5-clause-value c =
    let told : c.deliver.result ≡ form_at c.args.plan.now deliver_line.forms (words_left c.args.words) = c.deliver.ensures.value c.args.plan.now in
    search rules

pub returns-then-is-5-clause-there : goal.returns-then-is-5-clause-there
returns-then-is-5-clause-there c = c.deliver.ensures.there c.args.plan.now
