-- The meaning of an aggregator's file: the facts of an aggregator; and its store.
use Rattle.std.specs.Prelude.{◌≡◌, ◌⊎◌, ℕ, List, take, Option, Some}
use Rattle.std.specs.List.{AllByRecursion}
use Rattle.ksi_schedule.specs.Plans.{PlanState}
use Rattle.ksi_aggregator.specs.declared.fact.Fact.{Fact}
use Rattle.ksi_aggregator.specs.Rounds.{rounds_of}
use Rattle.ksi_aggregator.specs.Lawful.{AreLawful, with_new}
use Rattle.ksi_aggregator.specs.Restored.{HasFacts}
use Rattle.ksi_disk.specs.declared.ending.Ending.TheVariants as ending
use Rattle.ksi_disk.specs.Gates.{reading_of}
use Rattle.ksi_disk.specs.Logs.{IsSettled}
use Rattle.ksi_roundstore.specs.Headers.{header_at}
use Rattle.ksi_roundstore.specs.StoreState.{StoreState, records_in}
use Rattle.ksi_roundstore.specs.Texts.{event_of}
use Rattle.ksi_roundstore.specs.Written.{AreTexts, IsWritten}

-- a file of aggregator me of a plan with these facts in its records, up to a closed commit byte; later bytes do not count
pub record IsFileOf (me : ℕ) (plan : PlanState) (facts : List Fact) (file : List ℕ) : Type 0 where
  pub gate : ℕ
  pub head : header_at (take 20 file) ≡ Some (record { aggregator = me; start = plan.start })
  pub texts : AreTexts plan me facts (records_in file)
  pub lawful : AreLawful facts
  pub closed : (reading_of 20 file).ending ≡ ending.Closed gate

-- a file of these facts, with or without one more
abbrev pub IsFileBeforeOrAfter : (me : ℕ) → PlanState → List Fact → Option Fact → List ℕ → Type 0
IsFileBeforeOrAfter me plan facts more file = IsFileOf me plan facts file ⊎ IsFileOf me plan (with_new facts more) file

-- The store of aggregator me of a plan with these facts: they are in the file, which is durable, and the aggregator has
-- stored exactly these. Each open item came by an event that its line encodes.
pub record IsStoreOf {D : Type 0} (content : D → List ℕ) (images : D → List ℕ → Type 0) (me : ℕ) (plan : PlanState) (facts : List Fact) (store : StoreState D) : Type 0 where
  pub mine : store.aggregator.me ≡ me
  pub has : HasFacts facts (rounds_of store.aggregator)
  pub items : (t : ℕ) → AllByRecursion (λ entry. IsWritten plan me (event_of t entry)) (rounds_of store.aggregator t).open_items
  pub settled : IsSettled content images store.log
  pub from : store.log.from ≡ 20
  pub file : IsFileOf me plan facts (content store.log.disk)

-- it is the store of some facts, which are in its file
abbrev pub IsStore : {D : Type 0} → (content : D → List ℕ) (images : D → List ℕ → Type 0) → (me : ℕ) → PlanState → StoreState D → Type 0
IsStore content images me plan store = (facts : List Fact) × IsStoreOf content images me plan facts store
