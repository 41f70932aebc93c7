use Rattle.std.proofs.Common.{◌<◌, sym, arith}
use Rattle.std.proofs.lemmas.List.Elements.{All-from_get_or}
use Rattle.ksi_calendar_extender.specs.Kept.{journal_of}
use Rattle.ksi_calendar_extender.proofs.Told.{no_signature}
use Rattle.ksi_calendar_extender.proofs.extending.extend.Goals as goal

pub returns-in-Err : goal.returns-in-Err
returns-in-Err g c =
    let fits = All-from_get_or (λ b. b < 256) c.args.bytes.now 0 (λ i lt. omega (arith, c.type_inv.bytes i)) in
    let is = (c.view.ensures.fault c.in-Err.fault).0 c.in-Err.is in
    sym (no_signature g.C.Compress.image (journal_of c.args.calendar.now) c.args.bytes.now c.args.p c.in-Err.fault ((c.signature_is_read.ensures.fault c.args.bytes.now c.in-Err.fault fits).1 is))
