use Rattle.std.proofs.Common.{◌++◌, ◌∙◌, List, ℕ, length, sym, ap, subst, arith}
use Rattle.ksi_tlv.specs.Spelling.{plain, canonical}
use Rattle.ksi_signature.specs.Written.{signature_text}
use Rattle.ksi_signature.specs.Issued.{issued}
use Rattle.ksi_signature.specs.File.{IsSignature}
use Rattle.ksi_signature.proofs.IssuedAgain.{issued_kept, issued_short}
use Rattle.ksi_signature.proofs.issuing.issue.Goals as goal

pub returns-clause-again : goal.returns-clause-again
unfolding signature_text
returns-clause-again c =
    let size = ap (λ (content : List ℕ). length content) c.in_ok-content.ensures.text in
    let small = c.in_ok-content.ensures.short in
    let kept = issued_kept c.args.second c.args.input.now c.args.links.now c.args.above.now c.requires.second c.imprint_is_kept.ensures c.requires.links c.links_are_kept.ensures c.above_is_kept.ensures in
    let short = issued_short c.numeral_is_read.ensures.fewest c.numeral_is_read.ensures.size c.args.second c.args.input.now c.args.links.now c.args.above.now c.imprint_is_kept.ensures c.requires.links c.links_are_kept.ensures c.above_is_kept.ensures (omega (arith, size, small)) in
    subst (λ (bytes : List ℕ). IsSignature bytes (issued c.args.second c.args.input.now c.args.links.now c.args.above.now)) (sym (c.from_vec.ensures ∙ c.into_vec.ensures ∙ c.in_ok-put_short.ensures.ok ∙ ap (λ (none : List ℕ). none ++ canonical (plain 2048 c.bytes.result.now)) c.new-writer.ensures ∙ ap (λ (content : List ℕ). canonical (plain 2048 content)) (c.bytes.ensures ∙ c.in_ok-content.ensures.text))) (c.written_is_signature.ensures (issued c.args.second c.args.input.now c.args.links.now c.args.above.now) kept short)
