use Rattle.std.proofs.Common.{◌≤◌, ℕ, List, length, refl, sym, ap, subst, ◌∙◌, arith}
use Rattle.std.specs.List.{AllByRecursion}
use Rattle.ksi_tlv.specs.Views.{view_placed}
use Rattle.ksi_tlv.specs.Spelling.{plain, canonical}
use Rattle.ksi_tlv.specs.Inside.{inner_elements}
use Rattle.ksi_signature.specs.Lengths.{capped}
use Rattle.ksi_signature.specs.File.{IsSignature}
use Rattle.ksi_signature.specs.Extended.{extended_content, extended_text, renewed, StandsIn}
use Rattle.ksi_signature.specs.Seen.{seen}
use Rattle.ksi_signature.proofs.Standing.{elements_stand}
use Rattle.ksi_signature.proofs.Refusing.{renewed_long, renewed_not, within, content_found}
use Rattle.ksi_signature.proofs.signature_view.SignatureView.with_calendar.Goals as goal

pub content_size-total-requires : goal.content_size-total-requires
content_size-total-requires c =
    let view = c.args.self.now in
    subst (AllByRecursion (StandsIn view.bytes.now)) view.elements_are
    (elements_stand (record { whole = c.whole_or_fault.ensures.whole; fault = c.whole_or_fault.ensures.fault; found = c.front_by_spelling.ensures.found; spelled = c.front_by_spelling.ensures.spelled })
    c.reading_is_elements.ensures view.bytes.now c.are_bytes.ensures (seen view, c.shown_is_of_bytes.ensures.signature))

pub returns-then-total-gt-LONGEST-clause-too_long : goal.returns-then-total-gt-LONGEST-clause-too_long
returns-then-total-gt-LONGEST-clause-too_long c =
    let view = c.args.self.now in
    let same = content_found view.bytes.now (inner_elements (view_placed view.at)) c.args.calendar.now c.args.publication.now view.elements_are in
    λ n. renewed_long _ c.content_size-total.result n _ (c.content_size-total.ensures ∙ sym (ap (λ (content : List ℕ). capped (length content)) same)) (omega arith) refl

pub text_with-requires-clause-stand : goal.text_with-requires-clause-stand
text_with-requires-clause-stand c =
    let view = c.args.self.now in
    subst (AllByRecursion (StandsIn view.bytes.now)) view.elements_are
    (elements_stand (record { whole = c.whole_or_fault.ensures.whole; fault = c.whole_or_fault.ensures.fault; found = c.front_by_spelling.ensures.found; spelled = c.front_by_spelling.ensures.spelled })
    c.reading_is_elements.ensures view.bytes.now c.are_bytes.ensures (seen view, c.shown_is_of_bytes.ensures.signature))

pub returns-in-Ok-clause-text : goal.returns-in-Ok-clause-text
unfolding extended_text
returns-in-Ok-clause-text c =
    let view = c.args.self.now in
    let same = content_found view.bytes.now (inner_elements (view_placed view.at)) c.args.calendar.now c.args.publication.now view.elements_are in
    c.in-Ok.ensures ∙ sym (ap (λ (content : List ℕ). canonical (plain 2048 content)) same)

pub returns-in-Ok-clause-too_long : goal.returns-in-Ok-clause-too_long
returns-in-Ok-clause-too_long c =
    let view = c.args.self.now in
    let same = content_found view.bytes.now (inner_elements (view_placed view.at)) c.args.calendar.now c.args.publication.now view.elements_are in
    λ n. renewed_not _ c.content_size-total.result n _ (c.content_size-total.ensures ∙ sym (ap (λ (content : List ℕ). capped (length content)) same)) (omega arith) (λ is. absurd cc)

pub returns-in-Ok-clause-again : goal.returns-in-Ok-clause-again
unfolding extended_text
returns-in-Ok-clause-again c =
    let view = c.args.self.now in
    let same = content_found view.bytes.now (inner_elements (view_placed view.at)) c.args.calendar.now c.args.publication.now view.elements_are in
    let content = extended_content view.bytes.now c.args.calendar.now c.args.publication.now in
    let short : length content ≤ 65535 = within (length content) c.content_size-total.result (c.content_size-total.ensures ∙ sym (ap (λ (content : List ℕ). capped (length content)) same)) (omega arith) in
    let text = c.in-Ok.ensures ∙ sym (ap (λ (content : List ℕ). canonical (plain 2048 content)) same) in
    subst (λ (text : List ℕ). IsSignature text (renewed (seen view) c.args.calendar.now c.args.publication.now)) (sym text)
    (c.extended_is_signature.ensures view.bytes.now (seen view) c.args.calendar.now c.args.publication.now c.are_bytes.ensures c.shown_is_of_bytes.ensures.signature c.calendar_is_kept.ensures c.record_is_kept.ensures short)

pub returns-in-Err-clause-too_long : goal.returns-in-Err-clause-too_long
returns-in-Err-clause-too_long c =
    let view = c.args.self.now in
    let same = content_found view.bytes.now (inner_elements (view_placed view.at)) c.args.calendar.now c.args.publication.now view.elements_are in
    λ n. renewed_not _ c.content_size-total.result n _ (c.content_size-total.ensures ∙ sym (ap (λ (content : List ℕ). capped (length content)) same)) (omega arith) (λ is. absurd cc)

pub returns-in-Err-clause-wanting : goal.returns-in-Err-clause-wanting
returns-in-Err-clause-wanting c =
    let view = c.args.self.now in
    let same = content_found view.bytes.now (inner_elements (view_placed view.at)) c.args.calendar.now c.args.publication.now view.elements_are in
    let content = extended_content view.bytes.now c.args.calendar.now c.args.publication.now in
    λ e. within (length content) c.content_size-total.result (c.content_size-total.ensures ∙ sym (ap (λ (content : List ℕ). capped (length content)) same)) (omega arith)
