-- No root is held for a second if a majority of its voters cast no vote on it.
use Rattle.std.proofs.Common.{◌≡◌, ℕ, Bool, true, List, refl, subst, Option, Some, None}
use Rattle.ksi_synod.specs.declared.messages.Vote.{Vote}
use Rattle.ksi_synod.specs.CorePlans.{voters_of}
use Rattle.ksi_synod.proofs.Invariant.{Covers}
use Rattle.ksi_synod.proofs.Majorities.{majorities_meet}
use Rattle.ksi_synod.proofs.Reaching.{reached_holds}
use Rattle.ksi_schedule.specs.Events.{AreEvents}
use Rattle.ksi_schedule.specs.Plans.{PlanState, IsPlan, core_plan_of}
use Rattle.ksi_schedule.specs.declared.event.Event.{Event}
use Rattle.ksi_world.specs.Histories.{after, held_in}
use Rattle.ksi_world.proofs.Voted.{after_voted}
use Rattle.ksi_laws_succession.specs.Retired.{AreMost}

pub none_held : (image : List ℕ → List ℕ) (plan : PlanState) → IsPlan plan → (events : List Event) → AreEvents plan events → (t : ℕ) (who : ℕ → Bool) → AreMost plan t who →
    ((core : ℕ) → who core ≡ true → ((after image plan events).seconds core t).vote.vote ≡ None) → (core : ℕ) → held_in (after image plan events) core t ≡ None
none_held image plan is events are t who most none core = by (held_in (after image plan events) core t) refl
  where
    by : (o : Option (List ℕ)) → held_in (after image plan events) core t ≡ o → o ≡ None
    by None holds = refl
    by (Some root) holds =
        let voters = voters_of (core_plan_of plan) t in
        let vote = (after_voted image plan is events are).vote t in
        let always = reached_holds voters vote.reached in
        let chosen = (always.state core).held root holds in
        let shared = majorities_meet voters who chosen.who most chosen.most in
        let covered = (always.state shared.0).voted chosen.ballot (chosen.voted shared.0 shared.3) in
        absurd (subst (λ (v : Option Vote). Covers chosen.ballot v) (none shared.0 shared.2) covered)
