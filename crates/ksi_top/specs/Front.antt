-- The command `front`.
use Rattle.std.specs.Prelude.{◌≡◌, ℕ, ◌≤◌, List, [], ◌∷◌, codes, length, nat_lt, if◌then◌else◌, unwrap_or, Ok}
use Rattle.std.specs.Fmt.{decimal}
use Rattle.ksi_imprint.specs.Imprints.{imprint_of}
use Rattle.ksi_calendar.specs.Calendar.{calendar_root}
use Rattle.ksi_calendar.specs.Covered.{IsCovered}
use Rattle.ksi_consistency.specs.Checked.{front_checked}
use Rattle.ksi_consistency.specs.Elements as fronts
use Rattle.ksi_consistency.specs.File.{IsFrontFile}
use Rattle.ksi_consistency.specs.Front.{calendar_front}
use Rattle.ksi_consistency.specs.Written.{front_text}
use Rattle.ksi_journal.specs.Calendar.{calendar_of}
use Rattle.ksi_journal.specs.Journal.{Contents, root_at}
use Rattle.ksi_journal.specs.File.{IsJournalFile}
use Rattle.ksi_lines.specs.Lines.{line_text, refused_for}
use Rattle.ksi_top.specs.declared.report.Report.{Report}
use Rattle.ksi_top.specs.declared.status.Status.TheVariants as statuses
use Rattle.ksi_top.specs.Kept.{unkept}
use Rattle.ksi_top.specs.Reports.{CommandRow, report, saving, ends, behind, WhereRead}
use Rattle.ksi_top.specs.Loading.{content, loaded_journal, file_limit}

abbrev pub front_line : (p1 p2 imprints : ℕ) → List ℕ
front_line p1 p2 imprints = line_text (codes "front" ∷ decimal p1 ∷ decimal p2 ∷ decimal imprints ∷ [])

-- the newer calendar would end before the older one
abbrev pub not_later_line : (p1 p2 : ℕ) → List ℕ
not_later_line p1 p2 = refused_for (codes "F4" ∷ decimal p1 ∷ decimal p2 ∷ [])

-- the front of a journal's calendar to p1 in that to p2
abbrev pub front_to : Contents → (p1 p2 : ℕ) → fronts.Contents
front_to journal p1 p2 = record { p1 = p1; p2 = p2; list = calendar_front imprint_of (calendar_of journal) p1 p2 }

-- both seconds are reported, and how many imprints the front has; its file is saved
abbrev pub front_saved : (out : List ℕ) → fronts.Contents → Report
front_saved out front = saving (front_line front.p1 front.p2 (length front.list)) out (front_text front)

abbrev pub fronted : (out : List ℕ) (p1 p2 : ℕ) → Contents → Report
fronted out p1 p2 journal =
    if nat_lt p2 p1
    then report statuses.Refused (not_later_line p1 p2)
    else unwrap_or (unkept journal p1 p2) (front_saved out (front_to journal p1 p2))

-- The journal keeps all seconds from its start to p2. What is saved is the file of the front of its calendar to p1 in that to
-- p2, is read again as it, and is accepted between the roots of both.
pub record SavesFront (journal : Contents) (p1 p2 : ℕ) (out : List ℕ) (report : Report) : Type 0 where
  pub within : p1 ≤ p2
  pub covered : IsCovered (root_at journal) journal.start p2
  pub reported : report ≡ front_saved out (front_to journal p1 p2)
  pub again : IsFrontFile (front_text (front_to journal p1 p2)) (front_to journal p1 p2)
  pub accepted : front_checked imprint_of p1 p2 (calendar_root imprint_of (calendar_of journal) p1) (calendar_root imprint_of (calendar_of journal) p2) (front_to journal p1 p2).list ≡ Ok tt

pub record IsFrontOver (journal : Contents) (p1 p2 : ℕ) (out : List ℕ) (report : Report) : Type 0 where
  pub saved : report.status ≡ statuses.Done → SavesFront journal p1 p2 out report

pub record IsFronted (journal : List ℕ) (p1 p2 : ℕ) (out : List ℕ) (report : Report) : Type 0 where
  pub contents : Contents
  pub journal_is : IsJournalFile imprint_of journal contents
  pub over : IsFrontOver contents p1 p2 out report

-- the journal is loaded, and the front is saved
abbrev pub front_command : (journal : List ℕ) (p1 p2 : ℕ) (out : List ℕ) → CommandRow
front_command journal p1 p2 out = record {
  files = (1, file_limit) ∷ [];
  saves = 1;
  ran = λ held. behind (loaded_journal 1 held journal) (λ j. ends (fronted out p1 p2 j));
  means = λ held. WhereRead (IsFronted (content held journal) p1 p2 out);
}
