use Rattle.std.proofs.Common.{rules, sym}
use Rattle.ksi_schedule.specs.Forms.{named_parents}
use Rattle.ksi_schedule.specs.Reading.{words_left}
use Rattle.ksi_schedule.proofs.Fitting.{none_fits}
use Rattle.ksi_schedule.proofs.Naming.{named_as_bare}
use Rattle.ksi_schedule.proofs.rows.named_parent.Goals as goal

pub returns-in_default-clause-value : goal.returns-in_default-clause-value
returns-in_default-clause-value c = sym (none_fits c.args.plan.now named_parents (words_left c.args.words) (c.in_default.ensures, (c.in_default.ensures, tt)))

pub returns-then-not-is-clause-value : goal.returns-then-not-is-clause-value
returns-then-not-is-clause-value c =
    let told = named_as_bare c.args.plan.now (words_left c.args.words) _ _ _ _ _ c.in-Some.ensures in
    search rules

pub returns-in_err-k-clause-value : goal.returns-in_err-k-clause-value
returns-in_err-k-clause-value c =
    let told = named_as_bare c.args.plan.now (words_left c.args.words) _ _ _ _ _ c.in-Some.ensures in
    search rules

pub returns-in_err-name-clause-value : goal.returns-in_err-name-clause-value
returns-in_err-name-clause-value c =
    let told = named_as_bare c.args.plan.now (words_left c.args.words) _ _ _ _ _ c.in-Some.ensures in
    search rules

pub returns-clause-value : goal.returns-clause-value
returns-clause-value c =
    let told = named_as_bare c.args.plan.now (words_left c.args.words) _ _ _ _ _ c.in-Some.ensures in
    search rules
