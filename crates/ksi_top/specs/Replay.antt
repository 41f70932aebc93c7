-- The command `replay`.
use Rattle.std.specs.Prelude.{◌≡◌, ℕ, List, [], ◌∷◌, codes, length}
use Rattle.std.specs.Fmt.{decimal}
use Rattle.ksi_imprint.specs.Imprints.{imprint_of}
use Rattle.ksi_schedule.specs.Events.{History}
use Rattle.ksi_schedule.specs.Spelled.{IsScheduleText}
use Rattle.ksi_world.specs.Histories.{world_of}
use Rattle.ksi_journal.specs.Journal.{Contents, IsJournal}
use Rattle.ksi_journal.specs.File.{IsJournalFile}
use Rattle.ksi_journal.specs.Written.{journal_text}
use Rattle.ksi_replay.specs.Journals.{journal_of}
use Rattle.ksi_lines.specs.Lines.{line_text}
use Rattle.ksi_top.specs.declared.report.Report.{Report}
use Rattle.ksi_top.specs.Reports.{CommandRow, saving, ends, behind, WhereRead}
use Rattle.ksi_top.specs.Loading.{content, loaded_schedule, file_limit}
use Rattle.ksi_replay.specs.HoldsOver.{HoldsOver}

abbrev pub replayed_line : (events messages seconds issued published : ℕ) → List ℕ
replayed_line events messages seconds issued published = line_text (
    codes "events" ∷ decimal events ∷ codes "messages" ∷ decimal messages ∷ codes "seconds" ∷ decimal seconds
    ∷ codes "issued" ∷ decimal issued ∷ codes "published" ∷ decimal published ∷ [])

-- how many events, messages, kept seconds, issued signatures and publications there are
unfoldable pub counted : History → Contents → List ℕ
counted h journal =
    replayed_line (length h.events) (length (world_of imprint_of h).wire) (length journal.seconds) (length journal.issued) (length journal.publications)

-- the counts are reported, and the journal is saved
abbrev pub replayed_as : (name : List ℕ) → History → Contents → Report
replayed_as name h journal = saving (counted h journal) name (journal_text journal)

abbrev pub replayed : (name : List ℕ) → History → Report
replayed name h = replayed_as name h (journal_of imprint_of h)

-- the schedule spells a history; what is saved is the journal of what its cores kept and published and what was issued,
-- which is one, and is read again as this journal
pub record IsReplayed (schedule name : List ℕ) (report : Report) : Type 0 where
  pub history : History
  pub spelled : IsScheduleText schedule history
  pub reported : report ≡ replayed name history
  pub lawful : IsJournal imprint_of (journal_of imprint_of history)
  pub again : IsJournalFile imprint_of (journal_text (journal_of imprint_of history)) (journal_of imprint_of history)
  pub holds : HoldsOver imprint_of history

-- the schedule is loaded, its events happen, and the journal of what was kept is saved
abbrev pub replay_command : (schedule journal : List ℕ) → CommandRow
replay_command schedule journal = record {
  files = (1, file_limit) ∷ [];
  saves = 1;
  ran = λ held. behind (loaded_schedule 1 held schedule) (λ h. ends (replayed journal h));
  means = λ held. WhereRead (IsReplayed (content held schedule) journal);
}
