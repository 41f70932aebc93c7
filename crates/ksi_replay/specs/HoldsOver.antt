-- What holds over every history.
use Rattle.std.specs.Prelude.{◌≡◌, ◌≢◌, ◌<◌, ◌≤◌, ◌++◌, ℕ, List, slice_get, Some}
use Rattle.ksi_imprint.specs.Imprints.{zero_imprint}
use Rattle.ksi_signature.specs.declared.answer.Answer.TheVariants.{Published}
use Rattle.ksi_corenode.specs.Rows.{publish_answer}
use Rattle.ksi_schedule.specs.declared.event.Event.{Event}
use Rattle.ksi_schedule.specs.Events.{History}
use Rattle.ksi_world.specs.Histories.{held_in, after, world_of}
use Rattle.ksi_world.specs.Records.{issued_of}
use Rattle.ksi_world.specs.Validity.{IsProposed}
use Rattle.ksi_world.specs.Wire.{ResponsesClimb}
use Rattle.ksi_replay.specs.Journals.{journal_of}
use Rattle.ksi_laws_facts.specs.Recalled.{IsRecalled}
use Rattle.ksi_replay.specs.Joined.{IsPublished, Lasts}

-- After every history, whichever messages are lost, repeated, late or out of order, and whichever nodes restart:
pub record HoldsOver (image : List ℕ → List ℕ) (history : History) : Type 0 where
  -- two cores that hold a root for a second hold the same
  pub agreement : (one other second : ℕ) (d e : List ℕ) → held_in (world_of image history) one second ≡ Some d →
      held_in (world_of image history) other second ≡ Some e → d ≡ e
  -- and what a core holds at some moment, it holds ever after
  pub stays : (before later : List Event) → history.events ≡ before ++ later → (core second : ℕ) (root : List ℕ) →
      held_in (after image history.plan before) core second ≡ Some root → held_in (world_of image history) core second ≡ Some root
  -- a held root, other than that of a missed second, is the root of items that a core sealed for this second
  pub validity : (core second : ℕ) (root : List ℕ) → held_in (world_of image history) core second ≡ Some root → root ≢ zero_imprint →
      IsProposed image history.plan (world_of image history) second root
  -- what was issued is extended to each covered second from its own on, and is then accepted; an audit says where it is
  pub lasts : (number : ℕ) (text : List ℕ) → issued_of image (world_of image history) number ≡ Some text →
      Lasts image history (journal_of image history) number text
  -- what any core answers to `publish`, at any moment, is the root of the calendar over what is kept; so is each pair that
  -- was published
  pub answered : (before later : List Event) → history.events ≡ before ++ later → (core p : ℕ) (root : List ℕ) → core < history.plan.cores → history.plan.start ≤ p →
      publish_answer image (held_in (after image history.plan before) core) history.plan.start p ≡ Published root → IsPublished image (journal_of image history) p root
  pub published : (before later : List Event) → history.events ≡ before ++ later → (k p : ℕ) (root : List ℕ) →
      slice_get (after image history.plan before).published k ≡ Some (p, root) → IsPublished image (journal_of image history) p root
  -- each Response that was ever sent has chains that climb from the item that it answers, at its level, to the root that it
  -- carries, which a core holds for its second and which is not the zero imprint; they have at most 8 chains of at most 17 links,
  -- at levels to 153
  pub responses : ResponsesClimb image history.plan (world_of image history)
  -- what nodes keep over restarts, and what a restart forgets, is read off what is seen of the history
  pub recalled : IsRecalled image history
