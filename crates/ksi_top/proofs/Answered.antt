-- What an audit's report means.
use Rattle.std.proofs.Common.{◌≡◌, ℕ, List, Result, Ok, Err, sym, subst}
use Rattle.std.specs.Prelude.{IfOk}
use Rattle.std.specs.declared.alloc.AllocError.{AllocError}
use Rattle.ksi_imprint.specs.Imprints.{imprint_of}
use Rattle.ksi_journal.specs.Journal.{Contents}
use Rattle.ksi_signature.specs.declared.signature.Signature.{Signature}
use Rattle.ksi_verifier.specs.declared.verdict.Verdict.TheVariants.{Accepted}
use Rattle.ksi_verifier.specs.Verdict.{verdict}
use Rattle.ksi_auditor.specs.declared.answer.Audit.{Audit}
use Rattle.ksi_auditor.specs.Audit as audits
use Rattle.ksi_auditor.specs.Shown.{IsDecided, MissedIsClash, Shows, Tells}
use Rattle.ksi_top.specs.declared.report.Report.{Report}
use Rattle.ksi_top.specs.Audit.{IsAnswered, audited}

pub answered : (journal : Contents) (signature : Signature) (hash : List ℕ) (pairs : List (ℕ × List ℕ)) (answer : Audit) (result : Result Report AllocError)
    → IfOk result (λ report. report ≡ audited answer) → answer ≡ audits.audit imprint_of journal signature hash pairs → Shows imprint_of journal signature hash answer
    → ((t : ℕ) → verdict imprint_of signature hash pairs ≡ Accepted t → IsDecided imprint_of journal signature → Tells (audits.audit imprint_of journal signature hash pairs))
    → MissedIsClash imprint_of journal signature hash pairs answer → IfOk result (IsAnswered journal signature hash pairs)
answered journal signature hash pairs answer (Ok report) reported is shown tells missed = record {
  answer = answer;
  audit_is = is;
  reported = reported;
  shown = shown;
  tells = λ t accepted decided. subst Tells (sym is) (tells t accepted decided);
  missed = missed;
}
answered journal signature hash pairs answer (Err none) reported is shown tells missed = tt
