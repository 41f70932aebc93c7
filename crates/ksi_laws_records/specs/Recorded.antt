-- What an operator has of a record that agrees.
use Rattle.std.specs.Prelude.{◌≡◌, ℕ, List, true, length, slice_get, Option, Some}
use Rattle.std.specs.List.{AllByRecursion}
use Rattle.ksi_schedule.specs.Events.{History}
use Rattle.ksi_schedule.specs.Pieces.{Text}
use Rattle.ksi_schedule.specs.Plans.{PlanState}
use Rattle.ksi_schedule.specs.declared.event.Event.TheVariants.{Request}
use Rattle.ksi_records.specs.declared.head.Head.TheVariants.{Sign}
use Rattle.ksi_records.specs.declared.verdict.Counts.{Counts}
use Rattle.ksi_records.specs.Entries.{Entry}
use Rattle.ksi_records.specs.Histories.{IsRecordOf}
use Rattle.ksi_records.specs.Told.{signature_block}
use Rattle.ksi_records.specs.Verdicts.{is_signature}
use Rattle.ksi_replay.specs.HoldsOver.{HoldsOver}
use Rattle.ksi_replay.specs.Joined.{Lasts}
use Rattle.ksi_replay.specs.Journals.{journal_of}

-- The entry hands out a signature, and this signature lasts. The entry names a step, and the event of that step is the request.
-- `lasts` says that the text is extended to each covered second from the request's on, over the journal of the whole history. It is
-- then accepted, in the second of the request and for its imprint, and an audit shows that imprint, or has a collision.
pub record IsHandedOut (image : List ℕ → List ℕ) (history : History) (entry : Entry) : Type 0 where
  pub step : ℕ
  pub asks : entry.head ≡ Sign step
  pub text : List ℕ
  pub block : entry.block ≡ signature_block (Some text)
  pub number : ℕ
  pub lasts : Lasts image history (journal_of image history) number text
  pub name : Option (List ℕ)
  pub request : slice_get history.events step ≡ Some (Request lasts.asked.aggregator lasts.asked.second lasts.asked.imprint name)

-- The text is the record of a history of the plan. All that holds over every history holds over this one, and each signature that
-- the record hands out lasts.
pub record RecordHolds (image : List ℕ → List ℕ) (plan : PlanState) (text : Text) (counts : Counts) : Type 0 where
  pub history : History
  pub of_plan : history.plan ≡ plan
  pub steps : length history.events ≡ counts.steps
  pub is : IsRecordOf image counts.version text history
  pub holds : HoldsOver image history
  pub signatures : AllByRecursion (λ entry. is_signature entry.head entry.block ≡ true → IsHandedOut image history entry) is.entries
