use Rattle.ksi_mirror.proofs.JournalOf.{skipping_goes_on}
use Rattle.ksi_mirror.proofs.whole_journal.lists_from.Goals as goal

pub skipping-preserved : goal.skipping-preserved
skipping-preserved c =
    skipping_goes_on c.args.second c.skipping.rest.now c.args.lists.now c.in-Some.others.now c.in-Some.one.now c.skipping.invariant c.in-Some.ensures.cases.0 c.if-second-one.false
