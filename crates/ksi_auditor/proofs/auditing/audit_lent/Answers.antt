use Rattle.std.proofs.Common.{rules, subst}
use Rattle.ksi_imprint.specs.Imprints.{IsImprint}
use Rattle.ksi_signature.specs.Seen.{seen}
use Rattle.ksi_auditor.specs.Audit as audits
use Rattle.ksi_auditor.specs.Shown.{MissedIsClash}
use Rattle.ksi_auditor.proofs.Chaining.{ok_is}
use Rattle.ksi_auditor.proofs.auditing.audit_lent.Goals as goal

pub returns-clause-missed : goal.returns-clause-missed
returns-clause-missed g c =
    let image = g.C.Compress.image in
    let s = seen c.args.signature.now in
    ok_is (MissedIsClash image c.args.journal.now s c.args.hash.now (g.P.Published.pairs c.args.publications.now)) c.lent.result (audits.audit image c.args.journal.now s c.args.hash.now (g.P.Published.pairs c.args.publications.now)) c.lent.ensures.answer
    (c.missed_seconds.ensures image c.args.journal.now s c.args.hash.now (g.P.Published.pairs c.args.publications.now) (search rules) c.start-start.ensures.journal (subst IsImprint c.bytes-bytes.ensures.value c.bytes-bytes.ensures.imprint))
