-- A core that is none of the plan's holds nothing.
use Rattle.ksi_schedule.specs.Plans.{core_plan_of}
use Rattle.std.proofs.Common.{◌≡◌, ℕ, ◌<◌, ◌≤◌, eqb, List, [], ◌∷◌, refl, arith, Option, Some, None}
use Rattle.std.specs.Prelude.{slice_get}
use Rattle.std.proofs.lemmas.Bool.{cond_both}
use Rattle.ksi_synod.specs.VoteState.{fresh_vote}
use Rattle.ksi_corenode.specs.SecondState.{SecondState, fresh_second}
use Rattle.ksi_corenode.specs.Turns.{Turn}
use Rattle.ksi_corenode.specs.Rows.{submission_row, seal_row, ballot_row, receive_row, tell_row, respond_row, restart_row}
use Rattle.ksi_schedule.specs.declared.actor.Actor.{Actor}
use Rattle.ksi_schedule.specs.declared.actor.Actor.TheVariants as actors
use Rattle.ksi_schedule.specs.declared.event.Event.{Event}
use Rattle.ksi_schedule.specs.declared.event.Event.TheVariants as events
use Rattle.ksi_schedule.specs.Plans.{PlanState, IsPlan}
use Rattle.ksi_schedule.specs.Events.{IsEvent, AreEvents}
use Rattle.ksi_world.specs.declared.message.Content.{Content}
use Rattle.ksi_world.specs.declared.message.Content.TheVariants as contents
use Rattle.ksi_world.specs.declared.message.Message.{Message}
use Rattle.ksi_world.specs.Histories.{WorldState, at_core, held_in, delivered, happens, first_world, run, after}
use Rattle.ksi_world.specs.Histories as histories
use Rattle.ksi_world.specs.Sound.{IsSent, IsSound}
use Rattle.ksi_world.proofs.Depths.{core_parent}
use Rattle.ksi_world.proofs.Growing.{put_cases}
use Rattle.ksi_world.proofs.Sending.{TreeRises}
use Rattle.ksi_world.proofs.Sounding.{happens_sound, first_sound}

module _ (image : List ℕ → List ℕ) (plan : PlanState) where
  abbrev pub NoneBeyond : WorldState → Type 0
  NoneBeyond w = (j t : ℕ) → plan.cores ≤ j → held_in w j t ≡ None

  turned : (w : WorldState) (j t : ℕ) (turn : Turn) → j < plan.cores → NoneBeyond w → NoneBeyond (at_core w j t turn).world
  turned w j t turn lt none i u le = put_cases w.seconds j t turn.after (λ (s : SecondState). s.vote.held ≡ None) i u (λ i_is u_is. absurd (omega (arith, i_is, lt, le))) (none i u le)

  module _ (is : IsPlan plan) where
    taken_beyond : (w : WorldState) (sender addressee : Actor) (t : ℕ) (content : Content) → IsSent plan sender addressee content → NoneBeyond w → NoneBeyond (histories.taken image plan w sender addressee t content).world
    taken_beyond w (actors.Core from) (actors.Core j) t (contents.Synod m) sent none = turned w j t (receive_row (core_plan_of plan) t from m (w.seconds j t)) sent.1 none
    taken_beyond w (actors.Core from) (actors.Core j) t (contents.Submission item) sent none = none
    taken_beyond w (actors.Core from) (actors.Core j) t (contents.Response above) sent none = none
    taken_beyond w (actors.Core from) (actors.Aggregator k) t (contents.Synod m) sent none = none
    taken_beyond w (actors.Core from) (actors.Aggregator k) t (contents.Submission item) sent none = none
    taken_beyond w (actors.Core from) (actors.Aggregator k) t (contents.Response above) sent none = none
    taken_beyond w (actors.Aggregator from) (actors.Core j) t (contents.Synod m) sent none = none
    taken_beyond w (actors.Aggregator from) (actors.Core j) t (contents.Submission item) sent none = turned w j t (submission_row from item (w.seconds j t)) (core_parent plan is from j sent.0 sent.1) none
    taken_beyond w (actors.Aggregator from) (actors.Core j) t (contents.Response above) sent none = none
    taken_beyond w (actors.Aggregator from) (actors.Aggregator k) t (contents.Synod m) sent none = none
    taken_beyond w (actors.Aggregator from) (actors.Aggregator k) t (contents.Submission item) sent none = none
    taken_beyond w (actors.Aggregator from) (actors.Aggregator k) t (contents.Response above) sent none = none

    delivered_beyond : (w : WorldState) (number : ℕ) (found : Option Message) → slice_get w.wire number ≡ found → IsSound plan w → NoneBeyond w → NoneBeyond (delivered image plan w found).world
    delivered_beyond w number None at sound none = none
    delivered_beyond w number (Some m) at sound none = taken_beyond w m.sender m.addressee m.second m.content (sound.wire number m at).sent none

    happens_beyond : (w : WorldState) (e : Event) → IsEvent plan e → IsSound plan w → NoneBeyond w → NoneBeyond (happens image plan w e).world
    unfolding happens
    happens_beyond w (events.Request k t imprint name) at sound none = none
    happens_beyond w (events.Close k t) at sound none = none
    happens_beyond w (events.Seal j t) at sound none = turned w j t (seal_row image (w.seconds j t)) at.0 none
    happens_beyond w (events.Ballot j t) at sound none = turned w j t (ballot_row (core_plan_of plan) t j (w.seconds j t)) at.0 none
    happens_beyond w (events.Deliver number) at sound none = delivered_beyond w number (slice_get w.wire number) refl sound none
    happens_beyond w (events.Tell j t) at sound none = turned w j t (tell_row (core_plan_of plan) t j (w.seconds j t)) at.0 none
    happens_beyond w (events.Respond j t) at sound none = turned w j t (respond_row image (held_in w j) plan.start t (w.seconds j t)) at.0 none
    happens_beyond w (events.Publish j p) at sound none = none
    happens_beyond w (events.RestartCore j) at sound none = λ i u le. cond_both (eqb i j) (restart_row (w.seconds i u)) (w.seconds i u) (λ s. s.vote.held ≡ None) (λ _. none i u le) (λ _. none i u le)
    happens_beyond w (events.RestartAggregator k) at sound none = none

    run_beyond : TreeRises image → (es : List Event) (w : WorldState) → AreEvents plan es → IsSound plan w → NoneBeyond w → NoneBeyond (run image plan w es)
    run_beyond rises [] w are sound none = none
    run_beyond rises (e ∷ es) w are sound none = run_beyond rises es (happens image plan w e).world are.1 (happens_sound image plan is rises w e are.0 sound) (happens_beyond w e are.0 sound none)

    first_beyond : NoneBeyond (first_world plan)
    unfolding first_world fresh_second fresh_vote
    first_beyond j t le = refl

    pub after_beyond : TreeRises image → (es : List Event) → AreEvents plan es → NoneBeyond (after image plan es)
    unfolding after
    after_beyond rises es are = run_beyond rises es (first_world plan) are (first_sound plan is) first_beyond
