-- The ballot that an event brings to a core is of a core of the plan.
use Rattle.std.proofs.Common.{◌≡◌, ℕ, List, Option, Some, None, refl, subst}
use Rattle.std.specs.Prelude.{slice_get}
use Rattle.ksi_corenode.specs.Owners.{BringsOwned}
use Rattle.ksi_corenode.specs.declared.event.CoreEvent.{CoreEvent}
use Rattle.ksi_corenode.specs.declared.event.CoreEvent.TheVariants as happenings
use Rattle.ksi_schedule.specs.Plans.{PlanState, IsPlan}
use Rattle.ksi_schedule.specs.Events.{AreEvents}
use Rattle.ksi_schedule.specs.declared.actor.Actor.{Actor}
use Rattle.ksi_schedule.specs.declared.actor.Actor.TheVariants as actors
use Rattle.ksi_schedule.specs.declared.event.Event.{Event}
use Rattle.ksi_schedule.specs.declared.event.Event.TheVariants as events
use Rattle.ksi_world.specs.declared.message.Content.{Content}
use Rattle.ksi_world.specs.declared.message.Content.TheVariants as contents
use Rattle.ksi_world.specs.declared.message.Message.{Message}
use Rattle.ksi_world.specs.Histories.{after}
use Rattle.ksi_world.specs.Sound.{IsPost, IsSent}
use Rattle.ksi_world.specs.CoreEvents.{asked_by_content, asked_by_message, asked_of, where_mine}
use Rattle.ksi_world.proofs.Deciding.{after_sound}
use Rattle.ksi_world.proofs.AskedCores.{asked_here}
use Rattle.ksi_world.proofs.Sending.{TreeRises}

module _ (plan : PlanState) where
  -- what is asked of another core is not asked of this one
  mine_owned : (j i : ℕ) (asked e : CoreEvent) → BringsOwned plan.cores asked → where_mine j i asked ≡ Some e → BringsOwned plan.cores e
  mine_owned j i asked e owned is = subst (λ (e : CoreEvent). BringsOwned plan.cores e) (asked_here j i asked e is).1 owned

  content_owned : (j : ℕ) (sender addressee : Actor) (u : ℕ) (content : Content) (e : CoreEvent) → IsSent plan sender addressee content → asked_by_content j sender addressee u content ≡ Some e → BringsOwned plan.cores e
  content_owned j (actors.Core from) (actors.Core i) u (contents.Synod m) e sent asked = mine_owned j i (happenings.Receive from u m) e sent.3 asked
  content_owned j (actors.Core from) (actors.Core i) u (contents.Submission item) e sent asked = absurd (cc asked)
  content_owned j (actors.Core from) (actors.Core i) u (contents.Response above) e sent asked = absurd (cc asked)
  content_owned j (actors.Core from) (actors.Aggregator k) u (contents.Synod m) e sent asked = absurd (cc asked)
  content_owned j (actors.Core from) (actors.Aggregator k) u (contents.Submission item) e sent asked = absurd (cc asked)
  content_owned j (actors.Core from) (actors.Aggregator k) u (contents.Response above) e sent asked = absurd (cc asked)
  content_owned j (actors.Aggregator from) (actors.Core i) u (contents.Synod m) e sent asked = absurd (cc asked)
  content_owned j (actors.Aggregator from) (actors.Core i) u (contents.Submission item) e sent asked = mine_owned j i (happenings.Submission from u item) e tt asked
  content_owned j (actors.Aggregator from) (actors.Core i) u (contents.Response above) e sent asked = absurd (cc asked)
  content_owned j (actors.Aggregator from) (actors.Aggregator k) u (contents.Synod m) e sent asked = absurd (cc asked)
  content_owned j (actors.Aggregator from) (actors.Aggregator k) u (contents.Submission item) e sent asked = absurd (cc asked)
  content_owned j (actors.Aggregator from) (actors.Aggregator k) u (contents.Response above) e sent asked = absurd (cc asked)

  message_owned : (j : ℕ) (m : Option Message) (e : CoreEvent) → ((one : Message) → m ≡ Some one → IsPost plan one) → asked_by_message j m ≡ Some e → BringsOwned plan.cores e
  message_owned j None e posts asked = absurd (cc asked)
  message_owned j (Some m) e posts asked = content_owned j m.sender m.addressee m.second m.content e (posts m refl).sent asked

  event_owned : (wire : List Message) → ((number : ℕ) (m : Message) → slice_get wire number ≡ Some m → IsPost plan m) → (j : ℕ) (event : Event) (e : CoreEvent) → asked_of j wire event ≡ Some e → BringsOwned plan.cores e
  event_owned wire posts j (events.Request k u imprint name) e asked = absurd (cc asked)
  event_owned wire posts j (events.Close k u) e asked = absurd (cc asked)
  event_owned wire posts j (events.Seal i u) e asked = mine_owned j i (happenings.Seal u) e tt asked
  event_owned wire posts j (events.Ballot i u) e asked = mine_owned j i (happenings.Ballot u) e tt asked
  event_owned wire posts j (events.Deliver number) e asked = message_owned j (slice_get wire number) e (λ one at. posts number one at) asked
  event_owned wire posts j (events.Tell i u) e asked = mine_owned j i (happenings.Tell u) e tt asked
  event_owned wire posts j (events.Respond i u) e asked = mine_owned j i (happenings.Respond u) e tt asked
  event_owned wire posts j (events.Publish i u) e asked = mine_owned j i (happenings.Publish u) e tt asked
  event_owned wire posts j (events.RestartCore i) e asked = absurd (cc asked)
  event_owned wire posts j (events.RestartAggregator k) e asked = absurd (cc asked)

pub asked_owned : (image : List ℕ → List ℕ) → TreeRises image → (plan : PlanState) (before : List Event) → IsPlan plan → AreEvents plan before → (j : ℕ) (event : Event) (e : CoreEvent) → asked_of j (after image plan before).wire event ≡ Some e → BringsOwned plan.cores e
asked_owned image rises plan before is are j event e asked = event_owned plan (after image plan before).wire (after_sound image plan is rises before are).wire j event e asked
