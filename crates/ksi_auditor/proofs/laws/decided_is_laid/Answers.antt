use Rattle.ksi_journal.specs.Journal.{root_at}
use Rattle.ksi_auditor.proofs.Telling.{decided_laid, laid_tells}
use Rattle.ksi_auditor.proofs.laws.decided_is_laid.Goals as goal

pub returns-clause-laid : goal.returns-clause-laid
returns-clause-laid c = λ image journal signature hash publications t passes decided.
    decided_laid image journal (c.one_first_missing.ensures.none (root_at journal) journal.start) signature hash publications t passes decided

pub returns-clause-tells : goal.returns-clause-tells
returns-clause-tells c = laid_tells
