use Rattle.std.proofs.Common.{ap, sym, ◌∙◌, refl}
use Rattle.ksi_schedule.specs.Reading.{words_left}
use Rattle.ksi_schedule.proofs.Rising.{no_members, no_cores, members_read, said_hold}
use Rattle.ksi_schedule.proofs.members.members.Goals as goal

pub returns-in_default-clause-value : goal.returns-in_default-clause-value
returns-in_default-clause-value c = no_members c.args.plan.now (words_left c.args.words) (ap words_left c.in_default.is)

pub returns-then-not-name_cores-clause-value : goal.returns-then-not-name_cores-clause-value
returns-then-not-name_cores-clause-value c = no_cores c.args.plan.now c.cut.result.0.now (words_left c.cut.result.1) (words_left c.args.words) (ap words_left c.in-Some.is ∙ c.cut.ensures.words refl) (sym c.name_cores.ensures ∙ c.if-not-name_cores.true)

pub returns-clause-value : goal.returns-clause-value
returns-clause-value c = c.second_and_cores.ensures ∙ members_read c.args.plan.now c.cut.result.0.now (words_left c.cut.result.1) (words_left c.args.words) (ap words_left c.in-Some.is ∙ c.cut.ensures.words refl) (sym c.name_cores.ensures ∙ c.if-not-name_cores.false)

pub returns-clause-there : goal.returns-clause-there
returns-clause-there c = said_hold c.args.plan.now (words_left c.args.words) c.second_and_cores.result
    (c.second_and_cores.ensures ∙ members_read c.args.plan.now c.cut.result.0.now (words_left c.cut.result.1) (words_left c.args.words) (ap words_left c.in-Some.is ∙ c.cut.ensures.words refl) (sym c.name_cores.ensures ∙ c.if-not-name_cores.false))
