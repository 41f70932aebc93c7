use Rattle.std.proofs.Common.{arith}
use Rattle.ksi_journal.specs.Journal.{root_at}
use Rattle.ksi_journal.specs.Calendar.{calendar_of}
use Rattle.ksi_journal.proofs.Run.{before_end, end_before, covered_words, leaves_words, seconds_words, early_words}
use Rattle.ksi_journal.proofs.laws.calendar_is_covered.Goals as goal

pub returns-clause-covered : goal.returns-clause-covered
returns-clause-covered c image journal p is = covered_words image journal is p

pub returns-clause-within : goal.returns-clause-within
returns-clause-within c = λ image journal p is. (λ both. end_before image journal is p both.0 both.1, λ covered. (covered.from, before_end image journal is p covered))

pub returns-clause-seconds : goal.returns-clause-seconds
returns-clause-seconds c = λ image journal last is end. seconds_words image journal is c.one_covered.ensures.seconds last end

pub returns-clause-leaves : goal.returns-clause-leaves
returns-clause-leaves c image journal t is lt = leaves_words image journal is t lt

pub returns-clause-root : goal.returns-clause-root
returns-clause-root c = λ image journal p is covered.
    c.one_covered.ensures.root image (calendar_of journal) (root_at journal) journal.start p
    (λ t to. leaves_words image journal is t (omega (arith, to, before_end image journal is p covered)))

pub returns-clause-path : goal.returns-clause-path
returns-clause-path c = λ image journal t p is covered.
    c.one_covered.ensures.path image (calendar_of journal) (root_at journal) journal.start t p
    (λ u to. leaves_words image journal is u (omega (arith, to, before_end image journal is p covered)))

pub returns-clause-early : goal.returns-clause-early
returns-clause-early c image journal is = early_words image journal is
