use Rattle.std.proofs.lemmas.List.Elements.{All-from_get_or}
use Rattle.std.proofs.Common.{◌<◌, arith, sym, ap}
use Rattle.ksi_verifier.specs.Bytes.{of_bytes}
use Rattle.ksi_verifier.proofs.bytes_checking.bytes_verdict.Goals as goal

pub returns-in-Err : goal.returns-in-Err
returns-in-Err g c =
    ap (λ (r : _). of_bytes g.C.Compress.image r c.args.hash.now c.args.publications.now)
    (sym ((c.signature_is_read.ensures.fault c.args.bytes.now c.in-Err.fault (All-from_get_or (λ b. b < 256) c.args.bytes.now 0 (λ i lt. omega (arith, c.type_inv.bytes i)))).1 ((c.view.ensures.fault c.in-Err.fault).0 c.in-Err.is)))
