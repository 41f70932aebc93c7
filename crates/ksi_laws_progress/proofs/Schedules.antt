-- The laws at schedules.
use Rattle.std.proofs.Common.{◌≡◌, ℕ, suc, ◌+◌, ◌-◌, ◌*◌, ◌^◌, ◌<◌, ◌≤◌, List, ◌++◌, length, ap, subst, arith}
use Rattle.std.specs.Prelude.{IsSome}
use Rattle.ksi_calendar.specs.Covered.{Roots, covered_root}
use Rattle.ksi_signature.specs.declared.answer.Answer.TheVariants.{Published}
use Rattle.ksi_corenode.specs.Rows.{publish_answer, publish_where}
use Rattle.ksi_schedule.specs.declared.event.Event.{Event}
use Rattle.ksi_schedule.specs.Plans.{InRange, core_plan_of}
use Rattle.ksi_schedule.specs.Events.{History}
use Rattle.ksi_schedule.specs.Schedules.{IsSchedule}
use Rattle.ksi_world.specs.Histories.{held_in, after}
use Rattle.ksi_laws_progress.specs.Deciding.{voters_on, ballot_events, ballot_length, HoldAll, HoldSeconds}
use Rattle.ksi_laws_progress.proofs.Below.{VoteLaws, NoneMissing}
use Rattle.ksi_laws_progress.proofs.Unstuck.{all_majority, unstuck, many_events, covers}

module _ (laws : VoteLaws) (image : List ℕ → List ℕ) (h : History) (is : IsSchedule h) where
  pub unstuck_by : (t : ℕ) → InRange h.plan t → (later : List Event) × (length later ≤ ballot_length h.plan) × ((root : List ℕ) × HoldAll image h.plan h.events later t root)
  unstuck_by t range =
      let voters = voters_on h.plan t in
      let there = laws.are_there (core_plan_of h.plan) t is.plan.core_plan in
      let one = unstuck laws image h.plan is.plan t range h.events is.events (omega (arith, is.few)) voters (all_majority h.plan.cores voters there) in (
        ballot_events h.plan (after image h.plan h.events) one.0 t voters,
        omega (arith, many_events laws image h.plan is.plan t range h.events is.events one.0 voters, laws.are_few h.plan.cores voters there),
        one.2,
      )

  small_product : (a b : ℕ) → a ≤ 2 ^ 24 → b ≤ 47 → a * b ≤ 2 ^ 24 * 47
  small_product a b le le' = grind arith

  publishes : (missing : NoneMissing) (held : Roots) (start p : ℕ) → ((t : ℕ) → start ≤ t → t ≤ p → IsSome (held t)) → publish_answer image held start p ≡ Published (covered_root image held start p)
  unfolding publish_answer
  publishes missing held start p each = ap (publish_where image held start p) ((missing held start p).1 each)

  pub covered_by : NoneMissing → (p : ℕ) → InRange h.plan p →
      (later : List Event) × (length later ≤ (suc p - h.plan.start) * ballot_length h.plan) ×
      HoldSeconds image h.plan h.events later h.plan.start (suc p) ×
      ((core : ℕ) → core < h.plan.cores →
      publish_answer image (held_in (after image h.plan (h.events ++ later)) core) h.plan.start p ≡
      Published (covered_root image (held_in (after image h.plan (h.events ++ later)) core) h.plan.start p))
  covered_by missing p range =
      let n = suc p - h.plan.start in
      let end : h.plan.start + n ≡ suc p = omega (arith, range.0) in
      let few = is.plan.core_plan.few in
      let all = covers laws image h.plan is.plan n h.plan.start (omega arith) (omega (arith, end, range.1)) h.events is.events
      (omega (arith, is.few, small_product n (ballot_length h.plan) (omega (arith, range.1)) (omega (arith, few)))) in
      let held = subst (HoldSeconds image h.plan h.events all.0 h.plan.start) end all.2 in
      (all.0, all.1, held, λ core below. publishes missing (held_in (after image h.plan (h.events ++ all.0)) core) h.plan.start p (λ t le le'. held.held core t below le (omega arith)))
