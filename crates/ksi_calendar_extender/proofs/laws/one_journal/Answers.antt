use Rattle.ksi_journal.specs.Journal.{root_at}
use Rattle.ksi_calendar_extender.specs.Kept.{journal_of}
use Rattle.ksi_calendar_extender.proofs.Rooted.{is_kept, leaf_is}
use Rattle.ksi_calendar_extender.proofs.laws.one_journal.Goals as goal

pub returns-clause-covered : goal.returns-clause-covered
returns-clause-covered c = is_kept

pub returns-clause-missing : goal.returns-clause-missing
returns-clause-missing c = λ seconds p covered. (c.one_first_missing.ensures.none (root_at (journal_of seconds)) seconds.start p).1 (is_kept seconds p covered).each

pub returns-clause-leaves : goal.returns-clause-leaves
returns-clause-leaves c = λ seconds p t covered to. leaf_is seconds p covered t to

pub returns-clause-root : goal.returns-clause-root
returns-clause-root c = λ image seconds p covered. c.one_covered.ensures.root image seconds (root_at (journal_of seconds)) seconds.start p (leaf_is seconds p covered)

pub returns-clause-path : goal.returns-clause-path
returns-clause-path c = λ image seconds t p covered. c.one_covered.ensures.path image seconds (root_at (journal_of seconds)) seconds.start t p (leaf_is seconds p covered)
