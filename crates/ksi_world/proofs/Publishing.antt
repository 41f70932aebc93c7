-- The published times rise, and are seconds of the plan.
use Rattle.std.proofs.Common.{ℕ, suc, ◌+◌, ◌-◌, ◌^◌, ◌<◌, ◌≤◌, List, [], ◌∷◌, sym, subst, arith, inl, inr}
use Rattle.std.specs.Prelude.{slice_get}
use Rattle.std.proofs.lemmas.Bool.{cases_lt, cases_eq}
use Rattle.ksi_signature.specs.declared.answer.Answer.{Answer}
use Rattle.ksi_signature.specs.declared.answer.Answer.TheVariants as answers
use Rattle.ksi_corenode.specs.Rows.{publish_answer}
use Rattle.ksi_schedule.specs.declared.event.Event.{Event}
use Rattle.ksi_schedule.specs.declared.event.Event.TheVariants as events
use Rattle.ksi_schedule.specs.Plans.{PlanState, IsPlan}
use Rattle.ksi_schedule.specs.Events.{IsEvent, AreEvents}
use Rattle.ksi_world.specs.Histories.{WorldState, put_rising, published_with, happens, held_in, first_world, run, after}
use Rattle.ksi_world.specs.Validity.{AreTimes}
use Rattle.ksi_world.proofs.Rising.{put_before, put_on, put_after}
use Rattle.ksi_world.proofs.Asking.{delivered_leaves}

pub put_times : (p : ℕ) (root : List ℕ) (from before : ℕ) (xs : List (ℕ × List ℕ)) → from ≤ p → p < before → AreTimes from before xs → AreTimes from before (put_rising p root xs)
put_times p root from before [] le lt are = (le, lt, tt)
put_times p root from before (x ∷ xs) le lt are = elim (cases_lt p x.0) [
  | inl here ↦ subst (AreTimes from before) (sym (put_before p root x xs here)) (le, lt, (omega (arith, here), are.1, are.2))
  | inr not_before ↦ elim (cases_eq p x.0) [
    | inl same ↦ subst (AreTimes from before) (sym (put_on p root x xs same)) are
    | inr ne ↦
        let later : x.0 < p = omega (arith, not_before, ne) in
        subst (AreTimes from before) (sym (put_after p root x xs later)) (are.0, are.1, put_times p root (suc x.0) before xs (omega (arith, later)) lt are.2)
  ]
]

with_times : (p : ℕ) (from before : ℕ) (xs : List (ℕ × List ℕ)) (answer : Answer) → from ≤ p → p < before → AreTimes from before xs → AreTimes from before (published_with xs p answer)
with_times p from before xs (answers.Published root) le lt are = put_times p root from before xs le lt are
with_times p from before xs (answers.Number n) le lt are = are
with_times p from before xs answers.Done le lt are = are
with_times p from before xs answers.Late le lt are = are
with_times p from before xs answers.Known le lt are = are
with_times p from before xs answers.Full le lt are = are
with_times p from before xs answers.Unsealed le lt are = are
with_times p from before xs answers.Sealed le lt are = are
with_times p from before xs answers.Closed le lt are = are
with_times p from before xs (answers.Undecided t) le lt are = are
with_times p from before xs answers.NotMine le lt are = are
with_times p from before xs answers.Nothing le lt are = are
with_times p from before xs answers.Last le lt are = are

earlier : (from before most : ℕ) (xs : List (ℕ × List ℕ)) → before ≤ most → AreTimes from before xs → AreTimes from most xs
earlier from before most [] le are = tt
earlier from before most (x ∷ xs) le are = (are.0, omega (arith, are.1, le), earlier (suc x.0) before most xs le are.2)

module _ (image : List ℕ → List ℕ) (plan : PlanState) where
  abbrev Times : WorldState → Type 0
  Times w = AreTimes plan.start (plan.start + 2 ^ 24) w.published

  happens_times : (w : WorldState) (e : Event) → IsEvent plan e → Times w → Times (happens image plan w e).world
  unfolding happens
  happens_times w (events.Request k t imprint name) is are = are
  happens_times w (events.Close k t) is are = are
  happens_times w (events.Seal j t) is are = are
  happens_times w (events.Ballot j t) is are = are
  happens_times w (events.Deliver number) is are = subst (AreTimes plan.start (plan.start + 2 ^ 24)) (sym (delivered_leaves image plan w (slice_get w.wire number)).published) are
  happens_times w (events.Tell j t) is are = are
  happens_times w (events.Respond j t) is are = are
  happens_times w (events.Publish j p) is are = with_times p plan.start (plan.start + 2 ^ 24) w.published (publish_answer image (held_in w j) plan.start p) is.1.0 is.1.1 are
  happens_times w (events.RestartCore j) is are = are
  happens_times w (events.RestartAggregator k) is are = are

  run_times : (es : List Event) (w : WorldState) → AreEvents plan es → Times w → Times (run image plan w es)
  run_times [] w all are = are
  run_times (e ∷ es) w all are = run_times es (happens image plan w e).world all.1 (happens_times w e all.0 are)

  pub after_times : IsPlan plan → (es : List Event) → AreEvents plan es → AreTimes plan.start (2 ^ 63) (after image plan es).published
  unfolding after first_world
  after_times is es all =
      let early : plan.start ≤ 2 ^ 63 - 2 ^ 24 = is.core_plan.early in
      earlier plan.start (plan.start + 2 ^ 24) (2 ^ 63) (run image plan (first_world plan) es).published (omega (arith, early)) (run_times es (first_world plan) all tt)
