use Rattle.std.proofs.Common.{◌<◌, Err, refl, ap, arith}
use Rattle.std.proofs.lemmas.List.Elements.{All-from_get_or}
use Rattle.std.proofs.lemmas.Result.{err_from_is_err_and}
use Rattle.ksi_imprint.specs.declared.refused.Refused.TheVariants.{Fault}
use Rattle.ksi_signature.specs.declared.fault.SignatureFault.{SignatureFault}
use Rattle.ksi_signature.specs.Seen.{seen}
use Rattle.ksi_signature.proofs.reader.read.Goals as goal

pub returns-in_err-view-clause-fault : goal.returns-in_err-view-clause-fault
returns-in_err-view-clause-fault c =
    let fits = All-from_get_or (λ b. b < 256) c.args.bytes.now 0 (λ i lt. omega (arith, c.type_inv.bytes i)) in
    let p = err_from_is_err_and c.from_residual.result c.from_residual.ensures.1 in
    λ fault is. rw (p.1, p.2) (ap (λ (fault : SignatureFault). Err (Fault fault)) (c.signature_or_fault.ensures.one_fault c.args.bytes.now _ fault fits ((c.in_err-view.ensures.fault _).0 refl) is))

pub returns-in_err-signature-clause-fault : goal.returns-in_err-signature-clause-fault
returns-in_err-signature-clause-fault c =
    let fits = All-from_get_or (λ b. b < 256) c.args.bytes.now 0 (λ i lt. omega (arith, c.type_inv.bytes i)) in
    λ fault is. absurd (c.signature_or_fault.ensures.not_both c.args.bytes.now (seen c.in_ok-view.view) fault fits c.in_ok-view.ensures.signature is)

pub returns-clause-fault : goal.returns-clause-fault
returns-clause-fault c =
    let fits = All-from_get_or (λ b. b < 256) c.args.bytes.now 0 (λ i lt. omega (arith, c.type_inv.bytes i)) in
    λ fault is. absurd (c.signature_or_fault.ensures.not_both c.args.bytes.now (seen c.in_ok-view.view) fault fits c.in_ok-view.ensures.signature is)
