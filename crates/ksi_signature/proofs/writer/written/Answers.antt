use Rattle.std.proofs.Common.{ℕ, [], ◌∷◌, length, Ok, Err, ◌∙◌, ◌++◌, ap, subst}
use Rattle.std.specs.Prelude.{flat_map}
use Rattle.std.proofs.lemmas.Result.{err_from_is_err_and}
use Rattle.ksi_imprint.specs.declared.refused.Refused.{Refused}
use Rattle.ksi_tlv.specs.Writing.{texts}
use Rattle.ksi_signature.specs.declared.refusal.WriteRefusal.{WriteRefusal}
use Rattle.ksi_signature.specs.Written.{TellsLong, chain_sizes, optional_sizes, signature_elements}
use Rattle.ksi_signature.proofs.Sizes.{tells_before, tells_behind, tells_last}
use Rattle.ksi_signature.proofs.writer.written.Goals as goal

pub returns-in_err-body-clause-long : goal.returns-in_err-body-clause-long
returns-in_err-body-clause-long c =
    let p = err_from_is_err_and c.from_residual.result c.from_residual.ensures.1 in
    tells_before (flat_map chain_sizes c.args.signature.now.chains ++ optional_sizes c.args.signature.now.publication) _ c.in_err-body.field-0.0 c.from_residual.result (p.1 ∙ ap (λ (refused : Refused WriteRefusal). Err refused) p.2) c.in_err-body.ensures.long

pub returns-in_err-put_body-clause-long : goal.returns-in_err-put_body-clause-long
returns-in_err-put_body-clause-long c =
    let p = err_from_is_err_and c.from_residual-in_err-put_body.result c.from_residual-in_err-put_body.ensures.1 in
    let size = ap length (c.bytes.ensures ∙ c.in_ok-body.ensures.text) in
    let long = subst (λ (n : ℕ). TellsLong {A = Unit {0}} (n ∷ []) (Err c.in_err-put_body.field-0.0)) size c.in_err-put_body.ensures.long in
    tells_behind (flat_map chain_sizes c.args.signature.now.chains ++ optional_sizes c.args.signature.now.publication) (length (texts (signature_elements c.args.signature.now)) ∷ []) c.in_err-put_body.field-0.0 c.from_residual-in_err-put_body.result (p.1 ∙ ap (λ (refused : Refused WriteRefusal). Err refused) p.2) c.in_ok-body.ensures.long long

pub returns-clause-long : goal.returns-clause-long
returns-clause-long c =
    let size = ap length (c.bytes.ensures ∙ c.in_ok-body.ensures.text) in
    tells_last {A = Unit {0}} (flat_map chain_sizes c.args.signature.now.chains ++ optional_sizes c.args.signature.now.publication) _ _ (Ok tt) c.in_ok-body.ensures.long size c.in_ok-put_body.ensures.long
