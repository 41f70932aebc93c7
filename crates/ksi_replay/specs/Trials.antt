-- What becomes of an issued signature that is put to the test.
use Rattle.std.specs.Prelude.{ℕ, Bool, true, false, List, [], map, slice_get, Option, Some, None, Result, Ok, Err}
use Rattle.ksi_extender.specs.declared.refusal.ExtendRefusal.{ExtendRefusal}
use Rattle.ksi_extender.specs.Extended.{extended}
use Rattle.ksi_signature.specs.declared.fault.SignatureFault.{SignatureFault}
use Rattle.ksi_signature.specs.declared.signature.Signature.{Signature}
use Rattle.ksi_signature.specs.Reading.{signature_at}
use Rattle.ksi_verifier.specs.declared.verdict.Verdict.{Verdict}
use Rattle.ksi_verifier.specs.declared.verdict.Verdict.TheVariants.{Accepted}
use Rattle.ksi_verifier.specs.Verdict.{verdict}
use Rattle.ksi_auditor.specs.declared.answer.Audit.{Audit}
use Rattle.ksi_auditor.specs.declared.answer.Audit.TheVariants.{Inside, Beneath}
use Rattle.ksi_auditor.specs.Audit.{audit}
use Rattle.ksi_journal.specs.Journal.{Contents}
use Rattle.ksi_world.specs.declared.outcome.Asked.{Asked}
use Rattle.ksi_replay.specs.declared.trial.Trial.{Trial}
use Rattle.ksi_replay.specs.Covered.{published}

-- ---- the extension

abbrev pub if_signature : Result Signature SignatureFault → Option Signature
if_signature (Ok signature) = Some signature
if_signature (Err fault) = None

-- of bytes, if there are any
abbrev pub if_text : Option (List ℕ) → Option Signature
if_text None = None
if_text (Some bytes) = if_signature (signature_at bytes)

abbrev pub if_extended : Result (List ℕ) ExtendRefusal → Option Signature
if_extended (Ok bytes) = if_signature (signature_at bytes)
if_extended (Err refusal) = None

-- the signature of the bytes extended to second p, as it is read; none where it is refused
abbrev pub extension : (List ℕ → List ℕ) → Contents → List ℕ → (p : ℕ) → Option Signature
extension image journal bytes p = if_extended (extended image journal bytes p)

-- ---- what is said of it

abbrev pub is_accepted : Verdict → Bool
is_accepted (Accepted second) = true
is_accepted _ = false

abbrev pub is_inside : Audit → Bool
is_inside (Inside second way) = true
is_inside _ = false

abbrev pub is_beneath : Audit → Bool
is_beneath (Beneath second item links) = true
is_beneath _ = false

-- nothing is said
abbrev pub silent : Trial
silent = record { accepted = false; inside = false; beneath = false }

-- the verdict and the audit of a signature for a hash, against the root of second p
abbrev pub judged : (List ℕ → List ℕ) → Contents → (p : ℕ) → (hash : List ℕ) → Option Signature → Trial
judged image journal p hash None = silent
judged image journal p hash (Some signature) = record {
  accepted = is_accepted (verdict image signature hash (published image journal p));
  inside = is_inside (audit image journal signature hash (published image journal p));
  beneath = is_beneath (audit image journal signature hash (published image journal p));
}

-- ---- the trials

-- of an extension to p, for the request's imprint
abbrev pub trial_for : (List ℕ → List ℕ) → Contents → (p : ℕ) → Option Asked → (extension : Option Signature) → Trial
trial_for image journal p None extension = silent
trial_for image journal p (Some asked) extension = judged image journal p asked.imprint extension

-- of an issued signature, which follows the number of its request
unfoldable pub trial : (List ℕ → List ℕ) → (requests : List Asked) → Contents → (p : ℕ) → (issued : ℕ × List ℕ) → Trial
trial image requests journal p issued = trial_for image journal p (slice_get requests issued.0) (extension image journal issued.1 p)

-- of all issued signatures, where some second p is covered; without such a second there are none
abbrev pub trials : (List ℕ → List ℕ) → (requests : List Asked) → Contents → Option ℕ → List Trial
trials image requests journal None = []
trials image requests journal (Some p) = map (trial image requests journal p) journal.issued
