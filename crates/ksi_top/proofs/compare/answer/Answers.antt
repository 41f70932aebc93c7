use Rattle.ksi_imprint.specs.Imprints.{imprint_of}
use Rattle.ksi_top.proofs.compare.answer.Goals as goal

pub compare-requires-clause-old_covered : goal.compare-requires-clause-old_covered
compare-requires-clause-old_covered c =
    rw (c.calendar.ensures, c.p1-p1.ensures) ((c.calendar_is_covered.ensures.covered imprint_of c.args.old.now c.args.front.now.p1 c.start.ensures.journal).1 c.requires.old_covered)

pub compare-requires-clause-new_covered : goal.compare-requires-clause-new_covered
compare-requires-clause-new_covered c =
    rw (c.calendar-2.ensures, c.p2-p2.ensures.value) ((c.calendar_is_covered.ensures.covered imprint_of c.args.new.now c.args.front.now.p2 c.start-2.ensures.journal).1 c.requires.new_covered)
