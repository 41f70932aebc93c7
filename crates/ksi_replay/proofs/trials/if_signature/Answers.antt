use Rattle.std.proofs.Common.{◌<◌, ap, sym, arith}
use Rattle.std.proofs.lemmas.List.Elements.{All-from_get_or}
use Rattle.ksi_replay.specs.Trials.{if_signature}
use Rattle.ksi_replay.proofs.trials.if_signature.Goals as goal

-- a fault is what is read
pub returns-in-Err : goal.returns-in-Err
returns-in-Err c =
    let fits = All-from_get_or (λ b. b < 256) c.args.bytes.now 0 (λ i lt. omega (arith, c.type_inv.bytes i)) in
    sym (ap if_signature ((c.signature_is_read.ensures.fault c.args.bytes.now c.in-Err.field-0 fits).1 ((c.view.ensures.fault c.in-Err.field-0).0 c.in-Err.is)))
