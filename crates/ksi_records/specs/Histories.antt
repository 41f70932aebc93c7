-- What the record of a run shows if it agrees: the run is a history.
use Rattle.std.specs.Prelude.{◌≡◌, ℕ, List, [], length}
use Rattle.std.specs.List.{AllByRecursion}
use Rattle.ksi_schedule.specs.Events.{History}
use Rattle.ksi_schedule.specs.Pieces.{Text}
use Rattle.ksi_schedule.specs.Plans.{PlanState}
use Rattle.ksi_schedule.specs.Schedules.{IsHistory}
use Rattle.ksi_records.specs.declared.verdict.Retraced.{Retraced}
use Rattle.ksi_records.specs.declared.verdict.Retraced.TheVariants as retraced
use Rattle.ksi_records.specs.declared.version.Version.{Version}
use Rattle.ksi_records.specs.Entries.{Entry, record_text}
use Rattle.ksi_records.specs.Told.{AreTold}
use Rattle.ksi_records.specs.Verdicts.{BeginsWith, IsEntry}

-- The text is the record of this history, in this version: it is entries alone, each of which is of the event at its place. The
-- history follows the rules: the plan allows each event, each request asks for an imprint of bytes, and there are fewer than 2^64.
pub record IsRecordOf (image : List ℕ → List ℕ) (version : Version) (text : Text) (history : History) : Type 0 where
  pub entries : List Entry
  pub begins : BeginsWith version text (record_text version entries)
  pub entries_are : AllByRecursion (IsEntry history.plan version) entries
  pub told : AreTold image history.plan version [] entries history.events
  pub follows : IsHistory history

-- if it agrees, the text is the record of a history of the plan
abbrev pub HasHistory : (List ℕ → List ℕ) → PlanState → Text → Retraced → Type 0
HasHistory image plan text (retraced.Agrees counts) =
    (history : History) × (history.plan ≡ plan) × (length history.events ≡ counts.steps) × IsRecordOf image counts.version text history
HasHistory image plan text (retraced.Differs place) = Unit {0}
HasHistory image plan text (retraced.Refused fault place) = Unit {0}
