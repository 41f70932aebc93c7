-- The verdict on bytes.
use Rattle.std.specs.Prelude.{ℕ, List, Result, Ok, Err}
use Rattle.ksi_signature.specs.declared.fault.SignatureFault.{SignatureFault}
use Rattle.ksi_signature.specs.declared.signature.Signature.{Signature}
use Rattle.ksi_verifier.specs.declared.verdict.Verdict.{Verdict}
use Rattle.ksi_verifier.specs.declared.verdict.Verdict.TheVariants as verdicts
use Rattle.ksi_verifier.specs.declared.bytes_verdict.BytesVerdict.{BytesVerdict}
use Rattle.ksi_verifier.specs.declared.bytes_verdict.BytesVerdict.TheVariants.{Malformed, Accepted, Refused}
use Rattle.ksi_verifier.specs.Verdict.{verdict}

abbrev pub of_verdict : Verdict → BytesVerdict
of_verdict (verdicts.Accepted second) = Accepted second
of_verdict (verdicts.Refused refusal) = Refused refusal

-- of the signature that bytes are, or their first fault
abbrev pub of_bytes : (List ℕ → List ℕ) → Result Signature SignatureFault → List ℕ → List (ℕ × List ℕ) → BytesVerdict
of_bytes image (Ok signature) hash publications = of_verdict (verdict image signature hash publications)
of_bytes image (Err fault) hash publications = Malformed fault
