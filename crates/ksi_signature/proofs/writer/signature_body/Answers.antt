use Rattle.std.proofs.Common.{List, map, Err, None, ◌≡◌, ◌∙◌, ◌++◌, ap, subst}
use Rattle.std.specs.Prelude.{flat_map}
use Rattle.std.proofs.lemmas.Result.{err_from_is_err_and}
use Rattle.ksi_imprint.specs.declared.refused.Refused.{Refused}
use Rattle.ksi_tlv.specs.Writing.{texts}
use Rattle.ksi_signature.specs.declared.refusal.WriteRefusal.{WriteRefusal}
use Rattle.ksi_signature.specs.Values.{Aggregation}
use Rattle.ksi_signature.specs.Written.{first_long, TellsLong, chain_element, calendar_element, publishing_element, optional_element, chain_sizes, optional_sizes}
use Rattle.ksi_signature.proofs.Sizes.{tells_before, tells_behind, long_behind, text_behind, text_of}
use Rattle.ksi_signature.proofs.writer.signature_body.Goals as goal

pub returns-in_err-put_chains-clause-long : goal.returns-in_err-put_chains-clause-long
returns-in_err-put_chains-clause-long c =
    let p = err_from_is_err_and c.from_residual.result c.from_residual.ensures.1 in
    let long = subst (λ (chains : List Aggregation). TellsLong {A = Unit {0}} (flat_map chain_sizes chains) (Err c.in_err-put_chains.field-0.0)) c.as_slice.ensures.chains c.in_err-put_chains.ensures.long in
    tells_before (flat_map chain_sizes c.args.signature.now.chains) (optional_sizes c.args.signature.now.publication) c.in_err-put_chains.field-0.0 c.from_residual.result (p.1 ∙ ap (λ (refused : Refused WriteRefusal). Err refused) p.2) long

pub returns-in_err-put_publication-clause-long : goal.returns-in_err-put_publication-clause-long
returns-in_err-put_publication-clause-long c =
    let p = err_from_is_err_and c.from_residual-in_err-put_publication.result c.from_residual-in_err-put_publication.ensures.1 in
    let none = subst (λ (chains : List Aggregation). first_long (flat_map chain_sizes chains) ≡ None) c.as_slice.ensures.chains c.in_ok-put_chains.ensures.long in
    tells_behind (flat_map chain_sizes c.args.signature.now.chains) (optional_sizes c.args.signature.now.publication) c.in_err-put_publication.field-0.0 c.from_residual-in_err-put_publication.result (p.1 ∙ ap (λ (refused : Refused WriteRefusal). Err refused) p.2) none c.in_err-put_publication.ensures.long

pub returns-clause-text : goal.returns-clause-text
returns-clause-text c =
    let chains = map chain_element c.args.signature.now.chains in
    let calendar = optional_element calendar_element c.args.signature.now.calendar in
    let publication = optional_element publishing_element c.args.signature.now.publication in
    let first = c.in_ok-put_chains.ensures.text ∙ ap (λ (chains : List Aggregation). c.new-body.result ++ texts (map chain_element chains)) c.as_slice.ensures.chains in
    text_of (chains ++ (calendar ++ publication)) c.new-body.result c.put_publication.new.writer c.new-body.ensures
    (text_behind chains (calendar ++ publication) c.new-body.result c.put_chains.new.writer c.put_publication.new.writer first
    (text_behind calendar publication c.put_chains.new.writer c.put_calendar.new.writer c.put_publication.new.writer c.in_ok-put_calendar.ensures.text c.in_ok-put_publication.ensures.text))

pub returns-clause-long : goal.returns-clause-long
returns-clause-long c =
    let none = subst (λ (chains : List Aggregation). first_long (flat_map chain_sizes chains) ≡ None) c.as_slice.ensures.chains c.in_ok-put_chains.ensures.long in
    long_behind (flat_map chain_sizes c.args.signature.now.chains) (optional_sizes c.args.signature.now.publication) none ∙ c.in_ok-put_publication.ensures.long
