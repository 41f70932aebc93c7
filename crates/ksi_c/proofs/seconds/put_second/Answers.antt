use Rattle.std.proofs.lemmas.List.Elements.{All-from_get_or}
use Rattle.std.proofs.Common.{◌≡◌, ◌<◌, Result, Err, sym, ap, arith}
use Rattle.ksi_signature.specs.declared.fault.SignatureFault.{SignatureFault}
use Rattle.ksi_signature.specs.declared.signature.Signature.{Signature}
use Rattle.ksi_signature.specs.Reading.{signature_at}
use Rattle.ksi_c.specs.Seconds.{second_or, second_status}
use Rattle.ksi_c.proofs.seconds.put_second.Goals as goal

pub returns-in-Err-clause-status : goal.returns-in-Err-clause-status
returns-in-Err-clause-status c =
    let bytes = All-from_get_or (λ b. b < 256) c.args.signature.now 0 (λ i lt. omega (arith, c.type_inv.signature i)) in
    let read : signature_at c.args.signature.now ≡ Err c.in-Err.field-0 =
    (c.signature_is_read.ensures.fault c.args.signature.now c.in-Err.field-0 bytes).1 ((c.view.ensures.fault c.in-Err.field-0).0 c.in-Err.is) in
    ap second_status (sym read)

pub returns-in-Err-clause-value : goal.returns-in-Err-clause-value
returns-in-Err-clause-value c =
    let bytes = All-from_get_or (λ b. b < 256) c.args.signature.now 0 (λ i lt. omega (arith, c.type_inv.signature i)) in
    let read : signature_at c.args.signature.now ≡ Err c.in-Err.field-0 =
    (c.signature_is_read.ensures.fault c.args.signature.now c.in-Err.field-0 bytes).1 ((c.view.ensures.fault c.in-Err.field-0).0 c.in-Err.is) in
    ap (second_or c.args.second.now) (sym read)
