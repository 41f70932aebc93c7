use Rattle.std.proofs.Common.{refl, sym}
use Rattle.ksi_signature.specs.Seen.{bytes_seen}
use Rattle.ksi_calendar_extender.proofs.Steps.{text_is, no_bytes}
use Rattle.ksi_calendar_extender.proofs.extending.renewed_with.Goals as goal

pub returns-in-Ok : goal.returns-in-Ok
returns-in-Ok c =
    sym (text_is (bytes_seen c.args.signature.now) c.args.chain.now c.args.published.now c.in-Ok.text c.in-Ok.ensures.text (λ n long. (let e = (c.in-Ok.ensures.too_long n).1 long in absurd cc)))

pub returns-in-Err-Fault : goal.returns-in-Err-Fault
returns-in-Err-Fault c =
    let told = rw c.in-Err-Fault.field-0-is at c.in-Err-Fault.ensures in
    rw c.too_large.ensures (no_bytes (bytes_seen c.args.signature.now) c.args.chain.now c.args.published.now c.in-Err-Fault.refusal _ refl told.too_long)
