use Rattle.std.proofs.Common.{sym}
use Rattle.ksi_signature.specs.Seen.{bytes_seen}
use Rattle.ksi_extender.proofs.Told.{no_chains}
use Rattle.ksi_extender.proofs.extending.extended_bytes.Goals as goal

pub returns-in-Ok-clause-wanting : goal.returns-in-Ok-clause-wanting
returns-in-Ok-clause-wanting g c = λ e. (c.in-Ok.chains, sym c.in-Ok.ensures, c.over_journal.ensures.wanting e)

pub returns-in-Err-clause-answer : goal.returns-in-Err-clause-answer
returns-in-Err-clause-answer g c = sym (no_chains g.C.Compress.image c.args.journal.now (bytes_seen c.args.signature.now) c.args.p c.in-Err.refusal c.in-Err.ensures)
