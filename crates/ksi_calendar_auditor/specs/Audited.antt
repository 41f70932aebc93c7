-- The audit of a signature over the roots of a calendar, and over the items that a journal keeps for one second.
use Rattle.std.specs.Prelude.{ℕ, ◌==◌, List, [], ◌∷◌, Option, Some, None, Result, Ok, Err, if◌then◌else◌}
use Rattle.std.specs.Str.{bytes_eq}
use Rattle.ksi_calendar.specs.Calendar.{Seconds, calendar_leaf, calendar_root}
use Rattle.ksi_signature.specs.declared.signature.Signature.{Signature}
use Rattle.ksi_verifier.specs.Verdict.{verdict}
use Rattle.ksi_verifier.specs.declared.verdict.Verdict.{Verdict}
use Rattle.ksi_verifier.specs.declared.verdict.Verdict.TheVariants.{Accepted, Refused}
use Rattle.ksi_journal.specs.Journal.{Contents, root_at}
use Rattle.ksi_auditor.specs.Audit as audits
use Rattle.ksi_auditor.specs.declared.answer.Audit.{Audit}
use Rattle.ksi_calendar_auditor.specs.Kept.{journal_with}
use Rattle.ksi_calendar_auditor.specs.declared.refusal.AuditRefusal.{AuditRefusal}
use Rattle.ksi_calendar_auditor.specs.declared.refusal.AuditRefusal.TheVariants.{OtherSecond, NoItems, OtherItems}

-- the only published root: that of the calendar to p
abbrev pub published : (List ℕ → List ℕ) → Seconds → ℕ → List (ℕ × List ℕ)
published image seconds p = (p, calendar_root image seconds p) ∷ []

-- the root of the items is that of the calendar
abbrev pub same_root : ℕ → (root : List ℕ) → Option (List ℕ) → Result (Unit {0}) AuditRefusal
same_root second root None = Err (NoItems second)
same_root second root (Some given) = if bytes_eq root given then Ok tt else Err (OtherItems second root given)

-- an accepted signature is of the second that the items are of
abbrev pub admitted : ℕ → (root : List ℕ) → Option (List ℕ) → Verdict → Result (Unit {0}) AuditRefusal
admitted second root given (Refused refusal) = Ok tt
admitted second root given (Accepted t) = if t == second then same_root second root given else Err (OtherSecond t)

abbrev pub then_audit : Result (Unit {0}) AuditRefusal → Audit → Result Audit AuditRefusal
then_audit (Ok u) audit = Ok audit
then_audit (Err refusal) audit = Err refusal

-- the answer of an audit over the journal that keeps the calendar's roots and these items
abbrev pub audit_with : (List ℕ → List ℕ) → Seconds → (p : ℕ) → Contents → Signature → List ℕ → Audit
audit_with image seconds p items signature hash = audits.audit image (journal_with seconds items) signature hash (published image seconds p)

-- the same, or why no audit is made over the items of this second
unfoldable pub audited : (List ℕ → List ℕ) → Seconds → (p second : ℕ) → Contents → Signature → List ℕ → Result Audit AuditRefusal
audited image seconds p second items signature hash =
    then_audit (admitted second (calendar_leaf seconds second) (root_at items second) (verdict image signature hash (published image seconds p)))
    (audit_with image seconds p items signature hash)
