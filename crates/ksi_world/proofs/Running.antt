-- One event more.
use Rattle.std.proofs.Common.{◌≡◌, ℕ, zero, suc, ◌<◌, List, [], ◌∷◌, ◌++◌, length, get_or, refl, sym, subst, arith}
use Rattle.ksi_schedule.specs.declared.event.Event.{Event}
use Rattle.ksi_schedule.specs.Plans.{PlanState, IsPlan}
use Rattle.ksi_world.specs.Histories.{WorldState, happens, first_world, run, after}
use Rattle.ksi_schedule.specs.Events.{IsEvent, AreEvents}
use Rattle.ksi_world.specs.Sound.{IsSound}
use Rattle.ksi_world.specs.Nodes.{NodesState, Fits, IsReady, IsWorld}
use Rattle.ksi_world.proofs.Sending.{TreeRises}
use Rattle.ksi_world.proofs.Sounding.{happens_sound, first_sound}

are_more : (plan : PlanState) (es : List Event) (e : Event) → AreEvents plan es → IsEvent plan e → AreEvents plan (es ++ e ∷ [])
are_more plan [] e are is = (is, tt)
are_more plan (x ∷ es) e are is = (are.0, are_more plan es e are.1 is)

-- each of the events is one of the plan
pub each_event : (plan : PlanState) (events : List Event) (k : ℕ) (other : Event) → AreEvents plan events → k < length events → IsEvent plan (get_or events k other)
each_event plan [] k other are lt = absurd (omega (arith, lt))
each_event plan (event ∷ events) zero other are lt = are.0
each_event plan (event ∷ events) (suc k) other are lt = each_event plan events k other are.1 (omega (arith, lt))

module _ (image : List ℕ → List ℕ) (plan : PlanState) where
  run_more : (w : WorldState) (es : List Event) (e : Event) → run image plan w (es ++ e ∷ []) ≡ (happens image plan (run image plan w es) e).world
  run_more w [] e = refl
  run_more w (x ∷ es) e = run_more (happens image plan w x).world es e

  pub after_more : (es : List Event) (e : Event) → after image plan (es ++ e ∷ []) ≡ (happens image plan (after image plan es) e).world
  unfolding after
  after_more es e = run_more (first_world plan) es e

  -- the nodes of no event
  pub world_first : (nodes : NodesState) → IsPlan plan → Fits plan (first_world plan) nodes → IsWorld image plan [] nodes
  unfolding after
  world_first nodes is fits = record { plan_is = is; are = tt; sound = first_sound plan is; fits = fits }

  pub world_ready : (es : List Event) (e : Event) (nodes : NodesState) → IsWorld image plan es nodes → IsEvent plan e → IsReady plan e nodes
  world_ready es e nodes is event = record { world = after image plan es; plan_is = is.plan_is; sound = is.sound; fits = is.fits; event_is = event }

  -- the nodes of the events are those of one event more
  pub world_more : TreeRises image → (es : List Event) (e : Event) (nodes nodes' : NodesState) → IsWorld image plan es nodes → IsEvent plan e → Fits plan (happens image plan (after image plan es) e).world nodes' → IsWorld image plan (es ++ e ∷ []) nodes'
  world_more rises es e nodes nodes' is event fits = record {
    plan_is = is.plan_is;
    are = are_more plan es e is.are event;
    sound = subst (λ w. IsSound plan w) (sym (after_more es e)) (happens_sound image plan is.plan_is rises (after image plan es) e event is.sound);
    fits = subst (λ w. Fits plan w nodes') (sym (after_more es e)) fits;
  }

  pub world_still : (es : List Event) (nodes nodes' : NodesState) → IsWorld image plan es nodes → Fits plan (after image plan es) nodes' → IsWorld image plan es nodes'
  world_still es nodes nodes' is fits = record { plan_is = is.plan_is; are = is.are; sound = is.sound; fits = fits }
