-- All messages of a history are about seconds before 2^63.
use Rattle.std.proofs.Common.{◌≡◌, ℕ, zero, suc, ◌<◌, ◌^◌, List, [], ◌∷◌, ◌++◌, map, drop, Option, Some, None, IfSome, ap, arith}
use Rattle.std.specs.Prelude.{slice_get}
use Rattle.std.proofs.lemmas.List.Elements.{All-from_recursion}
use Rattle.std.specs.List.{AllByRecursion}
use Rattle.ksi_corenode.specs.declared.step.Send as core_step
use Rattle.ksi_corenode.specs.declared.step.Send.TheVariants as core_sends
use Rattle.ksi_aggregator.specs.declared.step.Send as round_step
use Rattle.ksi_aggregator.specs.declared.step.Send.TheVariants as round_sends
use Rattle.ksi_schedule.specs.declared.actor.Actor.{Actor}
use Rattle.ksi_schedule.specs.declared.actor.Actor.TheVariants as actors
use Rattle.ksi_schedule.specs.declared.event.Event.{Event}
use Rattle.ksi_schedule.specs.declared.event.Event.TheVariants as events
use Rattle.ksi_schedule.specs.Plans.{PlanState, IsPlan, InRange}
use Rattle.ksi_schedule.specs.Events.{IsEvent, AreEvents}
use Rattle.ksi_world.specs.declared.message.Content.{Content}
use Rattle.ksi_world.specs.declared.message.Content.TheVariants as contents
use Rattle.ksi_world.specs.declared.message.Message.{Message}
use Rattle.ksi_world.specs.Histories.{WorldState, core_message, round_message, taken, delivered, happens, first_world, run, after}
use Rattle.ksi_records.specs.Told.{AreEarly}

abbrev IsEarly : Message → Type 0
IsEarly m = m.second < 2 ^ 63

abbrev Early : List Message → Type 0
Early ms = AllByRecursion IsEarly ms

both : (ms others : List Message) → Early ms → Early others → Early (ms ++ others)
both [] others is are = are
both (m ∷ ms) others is are = (is.0, both ms others is.1 are)

one_of : (ms : List Message) (number : ℕ) → Early ms → IfSome (slice_get ms number) IsEarly
one_of [] number is = tt
one_of (m ∷ ms) zero is = is.0
one_of (m ∷ ms) (suc number) is = one_of ms number is.1

from_core : (j t : ℕ) (sends : List core_step.Send) → t < 2 ^ 63 → Early (map (core_message j t) sends)
from_core j t [] lt = tt
from_core j t (core_sends.Synod to m ∷ sends) lt = (lt, from_core j t sends lt)
from_core j t (core_sends.Response to above ∷ sends) lt = (lt, from_core j t sends lt)

module _ (plan : PlanState) where
  from_round : (k t : ℕ) (sends : List round_step.Send) → t < 2 ^ 63 → Early (map (round_message plan k t) sends)
  from_round k t [] lt = tt
  from_round k t (round_sends.Submission item ∷ sends) lt = (lt, from_round k t sends lt)
  from_round k t (round_sends.Response to above ∷ sends) lt = (lt, from_round k t sends lt)

  early_second : (t : ℕ) → IsPlan plan → InRange plan t → t < 2 ^ 63
  early_second t is range = let early = is.core_plan.early in omega (arith, range.0, range.1, early)

module _ (image : List ℕ → List ℕ) (plan : PlanState) where
  taken_early : (w : WorldState) (sender addressee : Actor) (t : ℕ) (content : Content) → Early w.wire → t < 2 ^ 63
      → Early (taken image plan w sender addressee t content).world.wire
  taken_early w (actors.Core from) (actors.Core j) t (contents.Synod m) was lt = both w.wire _ was (from_core j t _ lt)
  taken_early w (actors.Core from) (actors.Core j) t (contents.Submission item) was lt = was
  taken_early w (actors.Core from) (actors.Core j) t (contents.Response above) was lt = was
  taken_early w (actors.Core from) (actors.Aggregator k) t (contents.Synod m) was lt = was
  taken_early w (actors.Core from) (actors.Aggregator k) t (contents.Submission item) was lt = was
  taken_early w (actors.Core from) (actors.Aggregator k) t (contents.Response above) was lt = both w.wire _ was (from_round plan k t _ lt)
  taken_early w (actors.Aggregator from) (actors.Core j) t (contents.Synod m) was lt = was
  taken_early w (actors.Aggregator from) (actors.Core j) t (contents.Submission item) was lt = both w.wire _ was (from_core j t _ lt)
  taken_early w (actors.Aggregator from) (actors.Core j) t (contents.Response above) was lt = was
  taken_early w (actors.Aggregator from) (actors.Aggregator k) t (contents.Synod m) was lt = was
  taken_early w (actors.Aggregator from) (actors.Aggregator k) t (contents.Submission item) was lt = both w.wire _ was (from_round plan k t _ lt)
  taken_early w (actors.Aggregator from) (actors.Aggregator k) t (contents.Response above) was lt = both w.wire _ was (from_round plan k t _ lt)

  delivered_early : (w : WorldState) (found : Option Message) → Early w.wire → IfSome found IsEarly → Early (delivered image plan w found).world.wire
  delivered_early w None was is = was
  delivered_early w (Some m) was is = taken_early w m.sender m.addressee m.second m.content was is

  happens_early : (w : WorldState) (e : Event) → IsPlan plan → IsEvent plan e → Early w.wire → Early (happens image plan w e).world.wire
  unfolding happens
  happens_early w (events.Request k t imprint name) is may was = both w.wire _ was (from_round plan k t _ (early_second plan t is may.1))
  happens_early w (events.Close k t) is may was = both w.wire _ was (from_round plan k t _ (early_second plan t is may.1))
  happens_early w (events.Seal j t) is may was = both w.wire _ was (from_core j t _ (early_second plan t is may.1))
  happens_early w (events.Ballot j t) is may was = both w.wire _ was (from_core j t _ (early_second plan t is may.1))
  happens_early w (events.Deliver number) is may was = delivered_early w (slice_get w.wire number) was (one_of w.wire number was)
  happens_early w (events.Tell j t) is may was = both w.wire _ was (from_core j t _ (early_second plan t is may.1))
  happens_early w (events.Respond j t) is may was = both w.wire _ was (from_core j t _ (early_second plan t is may.1))
  happens_early w (events.Publish j p) is may was = was
  happens_early w (events.RestartCore j) is may was = was
  happens_early w (events.RestartAggregator k) is may was = was

  run_early : (w : WorldState) (es : List Event) → IsPlan plan → AreEvents plan es → Early w.wire → Early (run image plan w es).wire
  run_early w [] is may was = was
  run_early w (e ∷ es) is may was = run_early (happens image plan w e).world es is may.1 (happens_early w e is may.0 was)

  pub wire_early : (es : List Event) → IsPlan plan → AreEvents plan es → Early (after image plan es).wire
  unfolding after first_world
  wire_early es is may = run_early (first_world plan) es is may tt

pub are_early : (ms : List Message) → Early ms → AreEarly ms
are_early ms is = All-from_recursion IsEarly ms is

-- the messages from a number on are that of the number and those behind it
pub from_number : (ms : List Message) (number : ℕ) (m : Message) → slice_get ms number ≡ Some m → drop number ms ≡ m ∷ drop (suc number) ms
from_number [] number m at = absurd (cc at)
from_number (first ∷ ms) zero m at = let same : first ≡ m = cc at in ap (λ (one : Message). one ∷ ms) same
from_number (first ∷ ms) (suc number) m at = from_number ms number m at
