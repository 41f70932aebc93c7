use Rattle.ksi_imprint.specs.Imprints.{imprint_of}
use Rattle.ksi_publications.specs.Lent.{lent_pairs}
use Rattle.ksi_signature.specs.Seen.{seen}
use Rattle.ksi_top.proofs.Answered.{answered}
use Rattle.ksi_top.proofs.audit.answer.Goals as goal

pub returns-clause-answered : goal.returns-clause-answered
returns-clause-answered c =
    let lent = seen c.args.signature.now in
    let pairs = lent_pairs c.args.publications.now in
    answered c.args.journal.now lent c.args.hash.now pairs c.in_ok-audit.audit c.audited.result
    c.audited.ensures c.in_ok-audit.ensures.answer c.in_ok-audit.ensures.shown
    (λ t accepted decided. c.decided_tells.ensures imprint_of c.args.journal.now lent c.args.hash.now pairs t c.start-start.ensures.journal accepted decided)
    c.in_ok-audit.ensures.missed
