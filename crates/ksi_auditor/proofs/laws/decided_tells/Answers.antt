use Rattle.ksi_journal.specs.Journal.{root_at}
use Rattle.ksi_auditor.proofs.Telling.{decided_tells}
use Rattle.ksi_auditor.proofs.laws.decided_tells.Goals as goal

pub returns : goal.returns
returns c = λ image journal signature hash publications t is passes decided.
    decided_tells image journal (c.one_first_missing.ensures.none (root_at journal) journal.start) signature hash publications t passes decided
