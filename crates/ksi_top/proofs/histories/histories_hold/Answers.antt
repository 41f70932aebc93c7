use Rattle.ksi_imprint.specs.Imprints.{imprint_of}
use Rattle.ksi_replay.specs.Journals.{journal_of}
use Rattle.ksi_top.proofs.histories.histories_hold.Goals as goal

pub returns-clause-holds : goal.returns-clause-holds
returns-clause-holds c = c.all_holds.ensures.spelled

pub returns-clause-again : goal.returns-clause-again
returns-clause-again c = λ h lawful. c.written_is_journal.ensures imprint_of (journal_of imprint_of h) lawful
