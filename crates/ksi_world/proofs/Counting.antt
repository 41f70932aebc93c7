-- No more requests are accepted than events happen.
use Rattle.std.proofs.Common.{◌≡◌, ℕ, suc, ◌+◌, ◌≤◌, List, [], ◌∷◌, length, ap, arith, length-append}
use Rattle.std.specs.Prelude.{slice_get}
use Rattle.ksi_signature.specs.declared.answer.Answer.{Answer}
use Rattle.ksi_signature.specs.declared.answer.Answer.TheVariants as answers
use Rattle.ksi_aggregator.specs.Rows.{round_request}
use Rattle.ksi_schedule.specs.declared.event.Event.{Event}
use Rattle.ksi_schedule.specs.declared.event.Event.TheVariants as events
use Rattle.ksi_schedule.specs.Plans.{PlanState}
use Rattle.ksi_schedule.specs.Events.{History}
use Rattle.ksi_world.specs.declared.outcome.Asked.{Asked}
use Rattle.ksi_world.specs.Histories.{WorldState, asked_with, delivered, happens, first_world, run, after, world_of}
use Rattle.ksi_world.proofs.Asking.{delivered_leaves}

with_one : (requests : List Asked) (new : Asked) (answer : Answer) → length (asked_with requests new answer) ≤ suc (length requests)
with_one requests new (answers.Number n) = omega (arith, length-append requests (new ∷ []))
with_one requests new other = omega arith

module _ (image : List ℕ → List ℕ) (plan : PlanState) where
  one_more : (w : WorldState) (e : Event) → length (happens image plan w e).world.requests ≤ suc (length w.requests)
  unfolding happens
  one_more w (events.Request k t imprint name) = with_one w.requests (record { aggregator = k; second = t; imprint = imprint }) (round_request (length w.requests) imprint name (w.rounds k t)).answer
  one_more w (events.Deliver number) =
      let same : length (delivered image plan w (slice_get w.wire number)).world.requests ≡ length w.requests = ap (λ (requests : List Asked). length requests) (delivered_leaves image plan w (slice_get w.wire number)).requests in
      omega (arith, same)
  one_more w other = omega arith

  run_more : (es : List Event) (w : WorldState) → length (run image plan w es).requests ≤ length es + length w.requests
  run_more [] w = omega arith
  run_more (e ∷ es) w = omega (arith, one_more w e, run_more es (happens image plan w e).world)

  requests_few : (es : List Event) → length (after image plan es).requests ≤ length es
  unfolding after first_world
  requests_few es = omega (arith, run_more es (first_world plan))

pub accepted_few : (image : List ℕ → List ℕ) (history : History) → length (world_of image history).requests ≤ length history.events
accepted_few image history = requests_few image history.plan history.events
