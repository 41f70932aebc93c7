use Rattle.std.proofs.lemmas.List.Elements.{All-from_get_or}
use Rattle.std.proofs.Common.{◌<◌, arith, ◌≡◌, ℕ, List, Result, Ok, Err, sym, ap, ◌∙◌}
use Rattle.std.specs.Prelude.{◌↔◌}
use Rattle.ksi_signature.specs.declared.fault.SignatureFault.{SignatureFault}
use Rattle.ksi_signature.specs.declared.signature.Signature.{Signature}
use Rattle.ksi_signature.specs.Reading.{signature_at}
use Rattle.ksi_verifier.specs.declared.verdict.Verdict.{Verdict}
use Rattle.ksi_verifier.specs.declared.verdict.Verdict.TheVariants as verdicts
use Rattle.ksi_verifier.specs.declared.bytes_verdict.BytesVerdict.TheVariants.{Malformed}
use Rattle.ksi_verifier.specs.Bytes.{of_bytes, of_verdict}
use Rattle.ksi_verifier.specs.Verdict.{verdict}
use Rattle.ksi_verifier.proofs.bytes_checking.verify_bytes.Goals as goal

no_fault : (v : Verdict) (fault : SignatureFault) → of_verdict v ≡ Malformed fault → ⊥
no_fault (verdicts.Accepted second) fault e = absurd cc
no_fault (verdicts.Refused refusal) fault e = absurd cc

faulty : (image : List ℕ → List ℕ) (read : Result Signature SignatureFault) (hash : List ℕ) (publications : List (ℕ × List ℕ)) (fault : SignatureFault) → (of_bytes image read hash publications ≡ Malformed fault) ↔ (read ≡ Err fault)
faulty image (Ok signature) hash publications fault = (λ e. absurd (no_fault (verdict image signature hash publications) fault e), λ e. absurd cc)
faulty image (Err other) hash publications fault = (λ e. (let is : other ≡ fault = cc in ap (λ (x : SignatureFault). Err x) is), λ e. (let is : other ≡ fault = cc in ap (λ (x : SignatureFault). Malformed x) is))

pub returns-clause-malformed : goal.returns-clause-malformed
returns-clause-malformed g c = λ fault.
    let is = c.bytes_verdict.ensures in
    let both = faulty g.C.Compress.image (signature_at c.args.bytes.now) c.args.hash.now c.args.publications.now fault in
    let read = c.signature_is_read.ensures.fault c.args.bytes.now fault (All-from_get_or (λ b. b < 256) c.args.bytes.now 0 (λ i lt. omega (arith, c.type_inv.bytes i))) in
    (λ e. read.0 (both.0 (sym is ∙ e)), λ h. is ∙ both.1 (read.1 h))

pub returns-clause-verdict : goal.returns-clause-verdict
returns-clause-verdict g c = λ signature h.
    c.bytes_verdict.ensures ∙ ap (λ (r : Result Signature SignatureFault). of_bytes g.C.Compress.image r c.args.hash.now c.args.publications.now) ((c.signature_is_read.ensures.signature c.args.bytes.now signature (All-from_get_or (λ b. b < 256) c.args.bytes.now 0 (λ i lt. omega (arith, c.type_inv.bytes i)))).1 h)
