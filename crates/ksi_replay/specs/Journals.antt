-- The journal of a history.
use Rattle.std.specs.Prelude.{ℕ, List}
use Rattle.ksi_schedule.specs.Plans.{PlanState}
use Rattle.ksi_schedule.specs.Events.{History}
use Rattle.ksi_world.specs.Histories.{WorldState, world_of}
use Rattle.ksi_world.specs.Records.{kept_seconds, issued_all}
use Rattle.ksi_journal.specs.Journal.{Contents}

abbrev pub journal_in : (List ℕ → List ℕ) → PlanState → WorldState → Contents
journal_in image plan w = record {
  start = plan.start;
  voters = plan.voters;
  seconds = kept_seconds image plan w;
  issued = issued_all image w;
  publications = w.published;
}

-- the plan's start, who votes by it, what the cores keep, the signatures that were issued and what was published, after all events
unfoldable pub journal_of : (List ℕ → List ℕ) → History → Contents
journal_of image h = journal_in image h.plan (world_of image h)
