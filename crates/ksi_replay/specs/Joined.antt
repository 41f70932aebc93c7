-- What a history issued and published, beside what a journal keeps.
use Rattle.std.specs.Prelude.{◌≡◌, ℕ, ◌<◌, ◌≤◌, List, ◌++◌, slice_get, Some}
use Rattle.ksi_calendar.specs.Covered.{IsCovered, covered_root}
use Rattle.ksi_journal.specs.Journal.{Contents, root_at}
use Rattle.ksi_signature.specs.declared.answer.Answer.TheVariants.{Published}
use Rattle.ksi_corenode.specs.Rows.{publish_answer}
use Rattle.ksi_schedule.specs.declared.event.Event.{Event}
use Rattle.ksi_schedule.specs.Events.{History}
use Rattle.ksi_world.specs.declared.outcome.Asked.{Asked}
use Rattle.ksi_world.specs.Histories.{after, held_in, world_of}
use Rattle.ksi_world.specs.Records.{issued_of}
use Rattle.ksi_replay.specs.Lasting.{LastsTo}

-- the text was issued of an accepted request, whose second is covered; and it lasts to each covered second from that one on
pub record Lasts (image : List ℕ → List ℕ) (history : History) (journal : Contents) (number : ℕ) (text : List ℕ) : Type 0 where
  pub asked : Asked
  pub accepted : slice_get (world_of image history).requests number ≡ Some asked
  pub covered : IsCovered (root_at journal) journal.start asked.second
  pub later : (p : ℕ) → asked.second ≤ p → IsCovered (root_at journal) journal.start p → LastsTo image journal asked text p

-- a published second is covered, and its root is that of the journal's calendar to it
pub record IsPublished (image : List ℕ → List ℕ) (journal : Contents) (p : ℕ) (root : List ℕ) : Type 0 where
  pub covered : IsCovered (root_at journal) journal.start p
  pub root_is : root ≡ covered_root image (root_at journal) journal.start p

-- whatever was issued lasts, and whatever was published, or a core answers to `publish`, at any moment, is the journal's
pub record Joined (image : List ℕ → List ℕ) (history : History) (journal : Contents) : Type 0 where
  pub issued : (number : ℕ) (text : List ℕ) → issued_of image (world_of image history) number ≡ Some text → Lasts image history journal number text
  pub answered : (before later : List Event) → history.events ≡ before ++ later
      → (core p : ℕ) (root : List ℕ) → core < history.plan.cores → history.plan.start ≤ p
      → publish_answer image (held_in (after image history.plan before) core) history.plan.start p ≡ Published root → IsPublished image journal p root
  pub published : (before later : List Event) → history.events ≡ before ++ later
      → (k p : ℕ) (root : List ℕ) → slice_get (after image history.plan before).published k ≡ Some (p, root) → IsPublished image journal p root
