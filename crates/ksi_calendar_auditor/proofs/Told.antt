-- What the steps together answer.
use Rattle.std.proofs.Common.{◌≡◌, ◌∙◌, ℕ, Bool, false, true, if◌then◌else◌, List, Option, Some, None, Result, Ok, Err, ap, sym, subst}
use Rattle.std.specs.Prelude.{IfOk, ◌==◌}
use Rattle.std.specs.Str.{bytes_eq}
use Rattle.std.proofs.lemmas.Bool.{eq-eqb}
use Rattle.ksi_imprint.specs.declared.refused.Refused.{Refused}
use Rattle.ksi_imprint.specs.Refused.{OrNoMemory}
use Rattle.ksi_calendar.specs.Calendar.{Seconds, calendar_leaf}
use Rattle.ksi_signature.specs.declared.signature.Signature.{Signature}
use Rattle.ksi_verifier.specs.declared.refusal.Refusal.{Refusal}
use Rattle.ksi_verifier.specs.Verdict.{verdict}
use Rattle.ksi_verifier.specs.declared.verdict.Verdict.{Verdict}
use Rattle.ksi_verifier.specs.declared.verdict.Verdict.TheVariants as verdicts
use Rattle.ksi_journal.specs.Journal.{Contents, root_at}
use Rattle.ksi_auditor.specs.declared.answer.Audit.{Audit}
use Rattle.ksi_auditor.specs.declared.answer.Audit.TheVariants as answers
use Rattle.ksi_auditor.specs.Audit.{accepted_or_not, audit, links_of}
use Rattle.ksi_calendar_auditor.specs.declared.refusal.AuditRefusal.{AuditRefusal}
use Rattle.ksi_calendar_auditor.specs.declared.refusal.AuditRefusal.TheVariants.{OtherSecond, NoItems, OtherItems}
use Rattle.ksi_calendar_auditor.specs.Kept.{journal_with}
use Rattle.ksi_calendar_auditor.specs.Audited.{admitted, audit_with, audited, published, same_root, then_audit}

-- ---- results

pub ok_goes_on : {A E : Type 0} (r : Result A E) (x y : A) → IfOk r (λ z. z ≡ x) → x ≡ y → IfOk r (λ z. z ≡ y)
ok_goes_on (Ok z) x y is e = is ∙ e
ok_goes_on (Err fault) x y is e = tt

pub ok_is : {A E : Type 0} (P : A → Type 0) (r : Result A E) (x : A) → IfOk r (λ z. z ≡ x) → P x → IfOk r P
ok_is P (Ok z) x is h = subst P (sym is) h
ok_is P (Err fault) x is h = tt

pub told_same : (expected other : Result Audit AuditRefusal) (result : Result Audit (Refused AuditRefusal)) → expected ≡ other → OrNoMemory other result → OrNoMemory expected result
told_same expected other result same told = subst (λ (e : Result Audit AuditRefusal). OrNoMemory e result) (sym same) told

-- ---- the root of the items

module _ (second : ℕ) (leaf : List ℕ) (kept : Option (List ℕ)) (answer : Audit) where
  pub none_kept : kept ≡ None → then_audit (same_root second leaf kept) answer ≡ Err (NoItems second)
  none_kept is = ap (λ (o : Option (List ℕ)). then_audit (same_root second leaf o) answer) is

  module _ (root given : List ℕ) (root_is : root ≡ leaf) (is : kept ≡ Some given) where
    tested : then_audit (same_root second leaf kept) answer ≡ then_audit (if bytes_eq root given then Ok tt else Err (OtherItems second root given)) answer
    tested = ap (λ (x : List ℕ). then_audit (same_root second x kept) answer) (sym root_is) ∙ ap (λ (o : Option (List ℕ)). then_audit (same_root second root o) answer) is

    pub other_root : bytes_eq root given ≡ false → then_audit (same_root second leaf kept) answer ≡ Err (OtherItems second root given)
    other_root fails = tested ∙ ap (λ (b : Bool). then_audit (if b then Ok tt else Err (OtherItems second root given)) answer) fails

    pub one_root : bytes_eq root given ≡ true → then_audit (same_root second leaf kept) answer ≡ Ok answer
    one_root holds = tested ∙ ap (λ (b : Bool). then_audit (if b then Ok tt else Err (OtherItems second root given)) answer) holds

-- ---- the verdict

module _ (image : List ℕ → List ℕ) (seconds : Seconds) (p second : ℕ) (items : Contents) (signature : Signature) (hash : List ℕ) where
  abbrev expected : Result Audit AuditRefusal
  expected = audited image seconds p second items signature hash

  abbrev answer : Audit
  answer = audit_with image seconds p items signature hash

  abbrev by : Verdict → Result Audit AuditRefusal
  by v = then_audit (admitted second (calendar_leaf seconds second) (root_at items second) v) answer

  abbrev checked : Verdict
  checked = verdict image signature hash (published image seconds p)

  opened : (v : Verdict) → v ≡ checked → expected ≡ by v
  unfolding audited
  opened v is = ap by (sym is)

  module _ (refusal : Refusal) (is : verdicts.Refused refusal ≡ checked) where
    not_accepted : answer ≡ answers.NotAccepted refusal
    unfolding audit
    not_accepted = ap (accepted_or_not image (journal_with seconds items) (links_of signature) signature.calendar hash) (sym is)

    pub refused : expected ≡ Ok (answers.NotAccepted refusal)
    refused = opened (verdicts.Refused refusal) is ∙ ap (λ (a : Audit). Ok a) not_accepted

  module _ (t : ℕ) (is : verdicts.Accepted t ≡ checked) where
    pub other_second : (t == second) ≡ false → expected ≡ Err (OtherSecond t)
    other_second fails =
        opened (verdicts.Accepted t) is
        ∙ ap (λ (b : Bool). then_audit (if b then same_root second (calendar_leaf seconds second) (root_at items second) else Err (OtherSecond t)) answer) fails

    pub of_second : t ≡ second → expected ≡ then_audit (same_root second (calendar_leaf seconds second) (root_at items second)) answer
    of_second same =
        opened (verdicts.Accepted t) is
        ∙ ap (λ (b : Bool). then_audit (if b then same_root second (calendar_leaf seconds second) (root_at items second) else Err (OtherSecond t)) answer) (eq-eqb t second same)
