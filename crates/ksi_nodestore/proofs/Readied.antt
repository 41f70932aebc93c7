-- A record that has room for what an event stores is ready for the fact of its step.
use Rattle.std.proofs.Common.{◌≡◌, ℕ, ◌≤◌, List, Option, Some, None, IfSome, sym, ap, subst, ◌∙◌, arith, option_map}
use Rattle.ksi_corenode.specs.declared.fact.What.{What}
use Rattle.ksi_corenode.specs.declared.fact.What.TheVariants.{Sealed, Tried, Promised, Cast, Holds}
use Rattle.ksi_corenode.specs.declared.fact.Fact.{Fact}
use Rattle.ksi_corenode.specs.declared.event.CoreEvent.{CoreEvent}
use Rattle.ksi_corenode.specs.Facts.{StableState, stable_state, fact_of}
use Rattle.ksi_corenode.specs.CoreState.{CoreState, state_of}
use Rattle.ksi_corenode.specs.Events.{core_row, event_second}
use Rattle.ksi_corenode.specs.Lawful.{IsLawful, MayStore}
use Rattle.ksi_disk.specs.Drafts.{Draft}
use Rattle.ksi_nodestore.specs.Takes.{fact_added, HasRecordFor, IsReady}
use Rattle.ksi_nodestore.specs.Writing.{CanSpell, most_bytes}
use Rattle.ksi_nodestore.proofs.Tested.{items_length}

can_spell : (s : StableState) (what : What) → MayStore s what → CanSpell what
can_spell s (Sealed items) may = (omega (arith, may.1.few, items_length items), may.2)
can_spell s (Tried ballot) may = tt
can_spell s (Promised ballot) may = tt
can_spell s (Cast vote) may = tt
can_spell s (Holds root) may = tt

pub ready_for : (image : List ℕ → List ℕ) (core : CoreState) (event : CoreEvent) (draft : Option Draft) (fact : Option Fact) → HasRecordFor image core event draft → fact ≡ fact_added image core event
    → IfSome (core_row image core event).fact (λ what. IsLawful core.plan.cores core.start (stable_state (state_of core (event_second event))) (fact_of (event_second event) what)) → IsReady draft fact
ready_for image core event None fact has is may = subst (λ (f : Option Fact). IsReady None f) (sym (is ∙ ap (λ (o : Option What). option_map (fact_of (event_second event)) o) has)) tt
ready_for image core event (Some draft) fact has is may = subst (λ (f : Option Fact). IsReady (Some draft) f) (sym is) (by (core_row image core event).fact has.1 may)
  where
    by : (o : Option What) → IfSome o (λ what. most_bytes what ≤ draft.room) → IfSome o (λ what. IsLawful core.plan.cores core.start (stable_state (state_of core (event_second event))) (fact_of (event_second event) what))
        → IsReady (Some draft) (option_map (fact_of (event_second event)) o)
    by None room may = tt
    by (Some what) room may = (has.0, room, can_spell (stable_state (state_of core (event_second event))) what may.what)
