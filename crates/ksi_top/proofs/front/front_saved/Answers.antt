use Rattle.ksi_imprint.specs.Imprints.{imprint_of}
use Rattle.ksi_top.proofs.front.front_saved.Goals as goal

pub prove-requires-clause-covered : goal.prove-requires-clause-covered
prove-requires-clause-covered c =
    rw c.calendar.ensures ((c.calendar_is_covered.ensures.covered imprint_of c.args.journal.now c.args.p2 c.start-start.ensures.journal).1 c.requires.covered)
