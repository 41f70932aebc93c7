use Rattle.std.proofs.Common.{map, length, Err, ◌∙◌, ◌++◌, ap}
use Rattle.std.proofs.lemmas.Result.{err_from_is_err_and}
use Rattle.ksi_imprint.specs.declared.refused.Refused.{Refused}
use Rattle.ksi_tlv.specs.Writing.{texts}
use Rattle.ksi_signature.specs.declared.refusal.WriteRefusal.{WriteRefusal}
use Rattle.ksi_signature.specs.Written.{publishing_elements}
use Rattle.ksi_signature.proofs.Sizes.{tells_before, tells_last}
use Rattle.ksi_signature.proofs.writer.put_published.Goals as goal

pub returns-in_err-body-clause-long : goal.returns-in_err-body-clause-long
returns-in_err-body-clause-long c =
    let p = err_from_is_err_and c.from_residual.result c.from_residual.ensures.1 in
    tells_before (map length c.args.published.now.references ++ map length c.args.published.now.repositories) _ c.in_err-body.field-0.0 c.from_residual.result (p.1 ∙ ap (λ (refused : Refused WriteRefusal). Err refused) p.2) c.in_err-body.ensures.long

pub returns-clause-long : goal.returns-clause-long
returns-clause-long c =
    tells_last (map length c.args.published.now.references ++ map length c.args.published.now.repositories) (length c.bytes.result.now) (length (texts (publishing_elements c.args.published.now))) c.put_body.result c.in_ok-body.ensures.long (ap length (c.bytes.ensures ∙ c.in_ok-body.ensures.text)) c.put_body.ensures.long
