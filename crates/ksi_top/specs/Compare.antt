-- The command `compare`.
use Rattle.std.specs.Prelude.{◌≡◌, ℕ, List, [], ◌∷◌, unwrap_or}
use Rattle.ksi_imprint.specs.Imprints.{imprint_of}
use Rattle.ksi_calendar.specs.Covered.{IsCovered}
use Rattle.ksi_consistency.specs.declared.compared.Compared.{Compared}
use Rattle.ksi_consistency.specs.declared.compared.Compared.TheVariants as answers
use Rattle.ksi_consistency.specs.Answering.{compared}
use Rattle.ksi_consistency.specs.Compared.{IsAnswer}
use Rattle.ksi_consistency.specs.Elements as fronts
use Rattle.ksi_consistency.specs.File.{IsFrontFile}
use Rattle.ksi_journal.specs.Calendar.{calendar_of}
use Rattle.ksi_journal.specs.Journal.{Contents, root_at}
use Rattle.ksi_journal.specs.File.{IsJournalFile}
use Rattle.ksi_lines.specs.Answers.{compared_line}
use Rattle.ksi_top.specs.declared.report.Report.{Report}
use Rattle.ksi_top.specs.declared.status.Status.{Status}
use Rattle.ksi_top.specs.declared.status.Status.TheVariants.{Done, Refused, Clash}
use Rattle.ksi_top.specs.Kept.{unkept}
use Rattle.ksi_top.specs.Reports.{CommandRow, report, ends, behind, WhereRead}
use Rattle.ksi_top.specs.Loading.{content, loaded_journal, loaded_front, file_limit}

abbrev pub compared_status : Compared → Status
compared_status (answers.NotAccepted refusal) = Refused
compared_status answers.Equal = Done
compared_status (answers.Clash clash) = Clash

abbrev pub compared_report : (p1 : ℕ) → Compared → Report
compared_report p1 answer = report (compared_status answer) (compared_line p1 answer)

-- what a front shows of the calendars of two journals
abbrev pub compared_by : (old new : Contents) → fronts.Contents → Compared
compared_by old new front = compared imprint_of (calendar_of old) (calendar_of new) front.p1 front.p2 front.list

-- where the older journal keeps all seconds to the front's older one, and the newer journal those to the newer one
abbrev pub compared_as : (old new : Contents) → fronts.Contents → Report
compared_as old new front =
    unwrap_or (unkept old front.p1 front.p1) (unwrap_or (unkept new front.p2 front.p2) (compared_report front.p1 (compared_by old new front)))

-- the report is that of an answer which says what it does: the front is not accepted between the roots of both calendars, or
-- they have the same leaves to the older second, or two different strings have one hash
pub record IsAnsweredBy (old new : Contents) (front : fronts.Contents) (report : Report) : Type 0 where
  pub answer : Compared
  pub answer_is : answer ≡ compared_by old new front
  pub reported : report ≡ compared_report front.p1 answer
  pub shown : IsAnswer imprint_of (calendar_of old) (calendar_of new) front.p1 front.p2 front.list answer

-- where both journals keep all seconds from their starts to the front's
pub record IsComparedBy (old new : Contents) (front : fronts.Contents) (report : Report) : Type 0 where
  pub answered : IsCovered (root_at old) old.start front.p1 → IsCovered (root_at new) new.start front.p2 → IsAnsweredBy old new front report

-- with the front that is read
pub record IsComparedOver (old new : Contents) (proof : List ℕ) (report : Report) : Type 0 where
  pub front : fronts.Contents
  pub front_is : IsFrontFile proof front
  pub by : IsComparedBy old new front report

-- with the newer journal that is read
pub record IsComparedBeside (old : Contents) (new proof : List ℕ) (report : Report) : Type 0 where
  pub contents : Contents
  pub journal_is : IsJournalFile imprint_of new contents
  pub over : IsComparedOver old contents proof report

pub record IsCompared (old new proof : List ℕ) (report : Report) : Type 0 where
  pub contents : Contents
  pub journal_is : IsJournalFile imprint_of old contents
  pub beside : IsComparedBeside contents new proof report

-- the front is loaded, then the calendars are compared
abbrev pub compare_over : (old new : Contents) → (proof : List ℕ) → CommandRow
compare_over old new proof = record {
  files = (3, file_limit) ∷ [];
  saves = 0;
  ran = λ held. behind (loaded_front 3 held proof) (λ f. ends (compared_as old new f));
  means = λ held. WhereRead (IsComparedOver old new (content held proof));
}

-- the newer journal is loaded, then the front
abbrev pub compare_beside : (old : Contents) → (new proof : List ℕ) → CommandRow
compare_beside old new proof = record {
  files = (2, file_limit) ∷ (3, file_limit) ∷ [];
  saves = 0;
  ran = λ held. behind (loaded_journal 2 held new) (λ j. (compare_over old j proof).ran held);
  means = λ held. WhereRead (IsComparedBeside old (content held new) (content held proof));
}

-- the older journal is loaded, then the newer one, then the front
abbrev pub compare_command : (old new proof : List ℕ) → CommandRow
compare_command old new proof = record {
  files = (1, file_limit) ∷ (2, file_limit) ∷ (3, file_limit) ∷ [];
  saves = 0;
  ran = λ held. behind (loaded_journal 1 held old) (λ j. (compare_beside j new proof).ran held);
  means = λ held. WhereRead (IsCompared (content held old) (content held new) (content held proof));
}
