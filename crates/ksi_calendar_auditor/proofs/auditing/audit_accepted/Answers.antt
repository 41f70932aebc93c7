use Rattle.ksi_signature.specs.Seen.{seen}
use Rattle.ksi_calendar_auditor.proofs.auditing.audit_accepted.Goals as goal

pub leaf-root-requires-clause-to : goal.leaf-root-requires-clause-to
leaf-root-requires-clause-to g c = c.audit_is_laid.ensures.to g.C.Compress.image c.args.calendar.now c.args.p (seen c.args.signature.now) c.args.hash.now c.args.second c.requires.passes
