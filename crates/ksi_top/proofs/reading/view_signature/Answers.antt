use Rattle.std.proofs.Common.{◌<◌, arith}
use Rattle.std.proofs.lemmas.List.Elements.{All-from_get_or}
use Rattle.ksi_top.specs.Loading.{signature_file}
use Rattle.ksi_top.proofs.Read.{malformed}
use Rattle.ksi_top.proofs.reading.view_signature.Goals as goal

pub returns-in-Err-clause-told : goal.returns-in-Err-clause-told
returns-in-Err-clause-told c =
    let fits = All-from_get_or (λ b. b < 256) c.args.bytes.now 0 (λ i lt. omega (arith, c.type_inv.bytes i)) in
    malformed signature_file c.args.n c.args.bytes.now c.in-Err.fault _ c.malformed.result ((c.signature_is_read.ensures.fault c.args.bytes.now c.in-Err.fault fits).1 ((c.view.ensures.fault c.in-Err.fault).0 c.in-Err.is)) c.signature_fault_line.ensures c.malformed.ensures
