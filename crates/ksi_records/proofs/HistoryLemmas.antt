-- A record that agrees is that of a history.
use Rattle.std.proofs.Common.{◌≡◌, ℕ, List, ◌++◌, Option, Some, None, IfSome, Result, Ok, Err, IfOk, refl, sym, ap, subst, ◌∙◌}
use Rattle.std.proofs.lemmas.List.{append-nil}
use Rattle.ksi_schedule.specs.Pieces.{Text}
use Rattle.ksi_schedule.specs.Plans.{IsPlan, PlanState}
use Rattle.ksi_records.specs.declared.verdict.Counts.{Counts}
use Rattle.ksi_records.specs.declared.verdict.Retraced.{Retraced}
use Rattle.ksi_records.specs.declared.verdict.Retraced.TheVariants as retraced
use Rattle.ksi_records.specs.declared.version.Version.{Version}
use Rattle.ksi_records.specs.Entries.{Entry, record_text}
use Rattle.ksi_records.specs.Histories.{HasHistory}
use Rattle.ksi_records.specs.Verdicts.{BeginsWith, IsVerdict}
use Rattle.ksi_records.proofs.AskedLemmas.{entries_ask}
use Rattle.ksi_records.proofs.VerdictLemmas.{Found}

pub verdict_history : (image : List ℕ → List ℕ) (plan : PlanState) (version : Version) (text : Text) (entries : List Entry) (verdict : Retraced) → IsPlan plan → IsVerdict image plan version text entries verdict
    → HasHistory image plan text verdict
verdict_history image plan version text entries (retraced.Differs place) of is = tt
verdict_history image plan version text entries (retraced.Refused fault place) of is = tt
verdict_history image plan version text entries (retraced.Agrees counts) of is =
    let are = is.are in
    let asked = entries_ask image plan version entries are.events are.entries_are are.told in
    let whole : is.body ≡ record_text version entries = are.spelled ∙ ap (λ (rest : Text). record_text version entries ++ rest) are.ends.0 ∙ append-nil (record_text version entries) in
    let of_version : version ≡ counts.version = ap (λ (counts : Counts). counts.version) (sym are.ends.1) in (
      record { plan = plan; events = are.events },
      refl,
      ap (λ (counts : Counts). counts.steps) (sym are.ends.1),
      subst (λ (version : Version). Rattle.ksi_records.specs.Histories.IsRecordOf image version text (record { plan = plan; events = are.events })) of_version (record {
        entries = entries;
        begins = subst (λ (body : Text). BeginsWith version text body) whole is.begins;
        entries_are = are.entries_are;
        told = are.told;
        follows = record {
          plan = of;
          events = are.allowed;
          few = are.few;
          imprints = asked.0;
          bytes = asked.1;
        };
      }),
    )

-- the same where a verdict is found
pub found_history : (image : List ℕ → List ℕ) (plan : PlanState) {E : Type 0} (found : Result Retraced E) (known old new : Option Text) → IsPlan plan → IfOk found (λ verdict. Found image plan known old new verdict)
    → IfOk found (λ verdict. IfSome known (λ text. HasHistory image plan text verdict))
found_history image plan (Ok verdict) (Some text) old new of is = verdict_history image plan is.0 text is.1 verdict of is.2
found_history image plan (Ok verdict) None old new of is = tt
found_history image plan (Err error) known old new of is = tt
