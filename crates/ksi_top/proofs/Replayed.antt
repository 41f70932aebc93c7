-- What a replay's report means.
use Rattle.std.proofs.Common.{◌≡◌, List, ℕ, Result, Ok, Err}
use Rattle.std.specs.Prelude.{IfOk}
use Rattle.std.specs.declared.alloc.AllocError.{AllocError}
use Rattle.ksi_imprint.specs.Imprints.{imprint_of}
use Rattle.ksi_schedule.specs.Events.{History}
use Rattle.ksi_schedule.specs.Spelled.{IsScheduleText}
use Rattle.ksi_journal.specs.Journal.{IsJournal}
use Rattle.ksi_journal.specs.File.{IsJournalFile}
use Rattle.ksi_journal.specs.Written.{journal_text}
use Rattle.ksi_replay.specs.Journals.{journal_of}
use Rattle.ksi_top.specs.declared.report.Report.{Report}
use Rattle.ksi_replay.specs.HoldsOver.{HoldsOver}
use Rattle.ksi_top.specs.Replay.{IsReplayed, replayed}

pub replay_means : (text name : List ℕ) (h : History) (computed : Result Report AllocError) → IsScheduleText text h
    → ((text : List ℕ) (h : History) → IsScheduleText text h → HoldsOver imprint_of h)
    → ((h : History) → IsJournal imprint_of (journal_of imprint_of h) → IsJournalFile imprint_of (journal_text (journal_of imprint_of h)) (journal_of imprint_of h))
    → IfOk computed (λ report. report ≡ replayed name h) → IfOk computed (λ _. IsJournal imprint_of (journal_of imprint_of h)) → IfOk computed (IsReplayed text name)
replay_means text name h (Ok report) spelled holds again is lawful = record {
  history = h;
  spelled = spelled;
  reported = is;
  lawful = lawful;
  again = again h lawful;
  holds = holds text h spelled;
}
replay_means text name h (Err none) spelled holds again is lawful = tt
