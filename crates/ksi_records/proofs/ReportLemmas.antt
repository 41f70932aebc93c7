-- What is written behind what is shown.
use Rattle.std.proofs.Common.{◌≡◌, ℕ, List, ◌++◌, Option, Some, None, IfSome, Result, Ok, Err, OnOk, ap, subst, ◌∙◌, append_assoc}
use Rattle.std.specs.Io.KnownBytes.{Appends}
use Rattle.ksi_schedule.specs.Pieces.{Text}
use Rattle.ksi_schedule.specs.Plans.{PlanState}
use Rattle.ksi_records.specs.declared.verdict.Retraced.{Retraced}
use Rattle.ksi_records.specs.declared.version.Version.{Version}
use Rattle.ksi_records.specs.Entries.{Entry}
use Rattle.ksi_records.specs.Reports.{status_of, verdict_text}
use Rattle.ksi_records.specs.Verdicts.{shown, IsVerdict}
use Rattle.ksi_records.proofs.RecordLemmas.{appends_more}

pub reported : (image : List ℕ → List ℕ) (plan : PlanState) (known old mid new : Option Text) (verdict : Retraced) (line : Text) (status : ℕ)
    → IfSome known (λ text. (version : Version) × (entries : List Entry) × IsVerdict image plan version text entries verdict × Appends old mid (shown image plan entries))
    → Appends mid new line → line ≡ verdict_text verdict → status ≡ status_of verdict
    → IfSome known (λ text. (version : Version) × (entries : List Entry) × (verdict : Retraced) × IsVerdict image plan version text entries verdict
    × Appends old new (shown image plan entries ++ verdict_text verdict) × (status ≡ status_of verdict))
reported image plan None old mid new verdict line status found writes is at = tt
reported image plan (Some text) old mid new verdict line status found writes is at =
    (found.0, found.1, verdict, found.2, appends_more old mid new (shown image plan found.1) (verdict_text verdict) found.3 (subst (λ (line : Text). Appends mid new line) is writes), at)

-- seven texts, one after the other
pub seven : {A E : Type 0} (r : Result A E) (t0 t1 t2 t3 t4 t5 t6 t7 x1 x2 x3 x4 x5 x6 x7 : Text) → t1 ≡ t0 ++ x1 → t2 ≡ t1 ++ x2 → t3 ≡ t2 ++ x3 → t4 ≡ t3 ++ x4 → t5 ≡ t4 ++ x5 → t6 ≡ t5 ++ x6
    → OnOk r (t7 ≡ t6 ++ x7) → OnOk r (t7 ≡ t0 ++ (x1 ++ (x2 ++ (x3 ++ (x4 ++ (x5 ++ (x6 ++ x7)))))))
seven (Err e) t0 t1 t2 t3 t4 t5 t6 t7 x1 x2 x3 x4 x5 x6 x7 one two three four five six last = tt
seven (Ok a) t0 t1 t2 t3 t4 t5 t6 t7 x1 x2 x3 x4 x5 x6 x7 one two three four five six last =
    last ∙ ap (λ (t : Text). t ++ x7) (six ∙ ap (λ (t : Text). t ++ x6) (five ∙ ap (λ (t : Text). t ++ x5) (four ∙ ap (λ (t : Text). t ++ x4) (three ∙ ap (λ (t : Text). t ++ x3) (two ∙ ap (λ (t : Text). t ++ x2) one)))))
    ∙ append_assoc (((((t0 ++ x1) ++ x2) ++ x3) ++ x4) ++ x5) x6 x7 ∙ append_assoc ((((t0 ++ x1) ++ x2) ++ x3) ++ x4) x5 (x6 ++ x7) ∙ append_assoc (((t0 ++ x1) ++ x2) ++ x3) x4 (x5 ++ (x6 ++ x7))
    ∙ append_assoc ((t0 ++ x1) ++ x2) x3 (x4 ++ (x5 ++ (x6 ++ x7))) ∙ append_assoc (t0 ++ x1) x2 (x3 ++ (x4 ++ (x5 ++ (x6 ++ x7)))) ∙ append_assoc t0 x1 (x2 ++ (x3 ++ (x4 ++ (x5 ++ (x6 ++ x7)))))
