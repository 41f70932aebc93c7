use Rattle.std.proofs.Common.{◌<◌, arith}
use Rattle.std.proofs.lemmas.List.Elements.{All-from_get_or}
use Rattle.ksi_signature.proofs.Whole.{ok_answer, err_answer}
use Rattle.ksi_signature.proofs.checker.check.Goals as goal

pub returns-clause-ok : goal.returns-clause-ok
returns-clause-ok c =
    ok_answer c.args.bytes.now c.verdict.result c.verdict.ensures (c.signature_or_fault.ensures.whole c.args.bytes.now (All-from_get_or (λ b. b < 256) c.args.bytes.now 0 (λ i lt. omega (arith, c.type_inv.bytes i))))

pub returns-clause-fault : goal.returns-clause-fault
returns-clause-fault c = λ fault.
    err_answer c.args.bytes.now c.verdict.result fault c.verdict.ensures (c.signature_or_fault.ensures.fault c.args.bytes.now fault (All-from_get_or (λ b. b < 256) c.args.bytes.now 0 (λ i lt. omega (arith, c.type_inv.bytes i))))
