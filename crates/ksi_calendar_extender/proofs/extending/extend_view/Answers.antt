use Rattle.std.proofs.Common.{sym}
use Rattle.ksi_signature.specs.Seen.{bytes_seen}
use Rattle.ksi_calendar_extender.specs.Kept.{journal_of}
use Rattle.ksi_calendar_extender.proofs.Told.{no_chains}
use Rattle.ksi_calendar_extender.proofs.extending.extend_view.Goals as goal

pub returns-in-Err : goal.returns-in-Err
returns-in-Err g c = sym (no_chains g.C.Compress.image (journal_of c.args.calendar.now) (bytes_seen c.args.signature.now) c.args.p c.in-Err.refusal c.in-Err.ensures)
