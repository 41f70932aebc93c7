use Rattle.std.proofs.lemmas.List.Elements.{All-from_get_or}
use Rattle.std.proofs.Common.{◌<◌, arith}
use Rattle.ksi_imprint.specs.Imprints.{imprint_of}
use Rattle.ksi_signature.specs.Reading.{signature_at}
use Rattle.ksi_c.proofs.Stating.{states}
use Rattle.ksi_c.proofs.ksi_second.Goals as goal

pub returns-clause-accepted : goal.returns-clause-accepted
returns-clause-accepted c = λ hash publications proved is.
    let bytes = All-from_get_or (λ b. b < 256) c.args.signature.now 0 (λ i lt. omega (arith, c.type_inv.signature i)) in
    rw (c.put_second.ensures.status, c.put_second.ensures.value)
    (states imprint_of c.args.signature.now hash publications proved c.args.second.now (signature_at c.args.signature.now)
    (λ s. (c.signature_is_read.ensures.signature c.args.signature.now s bytes).1) is)
