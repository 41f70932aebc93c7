use Rattle.std.proofs.Common.{map, length, Err, ◌∙◌, ◌++◌, ap, List, ℕ}
use Rattle.std.proofs.lemmas.Result.{err_from_is_err_and}
use Rattle.ksi_imprint.specs.declared.refused.Refused.{Refused}
use Rattle.ksi_tlv.specs.Spelling.{plain, canonical}
use Rattle.ksi_tlv.specs.Writing.{texts}
use Rattle.ksi_tlv.specs.Published.{published_elements}
use Rattle.ksi_signature.specs.declared.refusal.WriteRefusal.{WriteRefusal}
use Rattle.ksi_signature.proofs.Sizes.{tells_before, tells_behind, long_behind, text_behind, text_first}
use Rattle.ksi_signature.proofs.bodies.published_parts.Goals as goal

pub returns-in_err-put_bodies-clause-long : goal.returns-in_err-put_bodies-clause-long
returns-in_err-put_bodies-clause-long c =
    let p = err_from_is_err_and c.from_residual-in_err-put_bodies.result c.from_residual-in_err-put_bodies.ensures.1 in
    tells_before (map length c.args.references.now) (map length c.args.repositories.now) c.in_err-put_bodies.field-0.0 c.from_residual-in_err-put_bodies.result (p.1 ∙ ap (λ (refused : Refused WriteRefusal). Err refused) p.2) c.in_err-put_bodies.ensures.long

pub returns-in_err-put_bodies-2-clause-long : goal.returns-in_err-put_bodies-2-clause-long
returns-in_err-put_bodies-2-clause-long c =
    let p = err_from_is_err_and c.from_residual-in_err-put_bodies-2.result c.from_residual-in_err-put_bodies-2.ensures.1 in
    tells_behind (map length c.args.references.now) (map length c.args.repositories.now) c.in_err-put_bodies-2.field-0.0 c.from_residual-in_err-put_bodies-2.result (p.1 ∙ ap (λ (refused : Refused WriteRefusal). Err refused) p.2) c.in_ok-put_bodies.ensures.long c.in_err-put_bodies-2.ensures.long

pub returns-clause-text : goal.returns-clause-text
returns-clause-text c =
    let content = c.as_slice.ensures ∙ c.in_ok-published.ensures.text in
    text_first (plain 16 (texts (published_elements c.args.time c.args.hash.now))) (map (plain 9) c.args.references.now ++ map (plain 10) c.args.repositories.now) c.new-body.result c.put_short.new.writer c.put_bodies-2.new.writer c.new-body.ensures
    (c.in_ok-put_short.ensures.ok ∙ ap (λ (body : List ℕ). c.new-body.result ++ canonical (plain 16 body)) content)
    (text_behind (map (plain 9) c.args.references.now) (map (plain 10) c.args.repositories.now) c.put_short.new.writer c.put_bodies.new.writer c.put_bodies-2.new.writer c.in_ok-put_bodies.ensures.ok c.in_ok-put_bodies-2.ensures.ok)

pub returns-clause-long : goal.returns-clause-long
returns-clause-long c = long_behind (map length c.args.references.now) (map length c.args.repositories.now) c.in_ok-put_bodies.ensures.long ∙ c.in_ok-put_bodies-2.ensures.long
