use Rattle.std.proofs.Common.{rules, ℕ, List, Option, None, Err, ◌≡◌, ◌∙◌, length, ap, subst}
use Rattle.std.proofs.lemmas.Result.{err_from_is_err_and}
use Rattle.ksi_imprint.specs.declared.refused.Refused.{Refused}
use Rattle.ksi_tlv.specs.Writing.{texts}
use Rattle.ksi_signature.specs.declared.refusal.WriteRefusal.{WriteRefusal}
use Rattle.ksi_signature.specs.Written.{TellsLong, body_sizes, chain_elements, first_long}
use Rattle.ksi_signature.proofs.Sizes.{tells_before, tells_last}
use Rattle.ksi_signature.proofs.writer.put_chain.Goals as goal

pub returns-in_err-body-clause-long : goal.returns-in_err-body-clause-long
returns-in_err-body-clause-long c =
    let p = err_from_is_err_and c.from_residual.result c.from_residual.ensures.1 in
    let long = subst (λ (body : Option (List ℕ)). TellsLong {A = Unit {0}} (body_sizes body) (Err c.in_err-body.field-0.0)) c.input_body_of-input_body.ensures c.in_err-body.ensures.long in
    tells_before (body_sizes c.args.chain.now.input_body) _ c.in_err-body.field-0.0 c.from_residual.result (p.1 ∙ ap (λ (refused : Refused WriteRefusal). Err refused) p.2) long

pub returns-clause-long : goal.returns-clause-long
returns-clause-long c =
    let none = subst (λ (body : Option (List ℕ)). first_long (body_sizes body) ≡ None) c.input_body_of-input_body.ensures c.in_ok-body.ensures.long in
    let text : c.bytes.result.now ≡ texts (chain_elements c.args.chain.now) = search rules in
    tells_last (body_sizes c.args.chain.now.input_body) (length c.bytes.result.now) (length (texts (chain_elements c.args.chain.now))) c.put_body.result none (ap length text) c.put_body.ensures.long
