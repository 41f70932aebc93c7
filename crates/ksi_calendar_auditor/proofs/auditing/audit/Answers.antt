use Rattle.std.proofs.Common.{◌∙◌, sym, arith}
use Rattle.std.proofs.lemmas.Bool.{ne_eqb}
use Rattle.ksi_signature.specs.Seen.{seen}
use Rattle.ksi_calendar_auditor.proofs.Told.{of_second, other_second, refused, told_same}
use Rattle.ksi_calendar_auditor.proofs.auditing.audit.Goals as goal

pub returns-then-time-second-clause-answer : goal.returns-then-time-second-clause-answer
returns-then-time-second-clause-answer g c =
    other_second g.C.Compress.image c.args.calendar.now c.args.p c.args.second c.args.items.now (seen c.args.signature.now) c.args.hash.now c.in-Accepted.time (sym c.in-Accepted.is ∙ c.verify_at.ensures)
    (ne_eqb c.in-Accepted.time c.args.second (λ same. omega (arith, same)))

pub returns-in-Refused-clause-answer : goal.returns-in-Refused-clause-answer
returns-in-Refused-clause-answer g c =
    refused g.C.Compress.image c.args.calendar.now c.args.p c.args.second c.args.items.now (seen c.args.signature.now) c.args.hash.now c.in-Refused.refusal (sym c.in-Refused.is ∙ c.verify_at.ensures)

pub returns-else-time-second-clause-answer : goal.returns-else-time-second-clause-answer
returns-else-time-second-clause-answer g c =
    told_same _ _ c.audit_accepted.result
    (of_second g.C.Compress.image c.args.calendar.now c.args.p c.args.second c.args.items.now (seen c.args.signature.now) c.args.hash.now c.in-Accepted.time (sym c.in-Accepted.is ∙ c.verify_at.ensures) (omega arith))
    c.audit_accepted.ensures.answer
