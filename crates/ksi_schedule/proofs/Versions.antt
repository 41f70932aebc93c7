-- The version that is printed has the forms of all lines.
use Rattle.std.proofs.Common.{◌≡◌, Bool, true, false, cond, not, ◌||◌, List, [], ◌∷◌, Option, Some, None, refl}
use Rattle.std.specs.List.{AllByRecursion, list_any}
use Rattle.std.specs.Prelude.{is_some}
use Rattle.ksi_synod.specs.declared.core_plan.VotersFrom.{VotersFrom}
use Rattle.ksi_schedule.specs.declared.parent.Parent.{Parent}
use Rattle.ksi_schedule.specs.declared.event.Event.{Event}
use Rattle.ksi_schedule.specs.declared.event.Event.TheVariants as events
use Rattle.ksi_schedule.specs.declared.version.Version.{Version}
use Rattle.ksi_schedule.specs.declared.version.Version.TheVariants.{One, Two}
use Rattle.ksi_schedule.specs.Pieces.{Text}
use Rattle.ksi_schedule.specs.Events.{History}
use Rattle.ksi_schedule.specs.Lines.{is_empty}
use Rattle.ksi_schedule.specs.Printed.{is_named_parent, is_named_request, has_name, version_of}

-- a line of this version may have the name
abbrev pub Allows : Version → Option Text → Type 0
Allows One None = Unit {0}
Allows One (Some name) = ⊥
Allows Two name = Unit {0}

abbrev pub AllowsEvent : Version → Event → Type 0
AllowsEvent version (events.Request k t imprint name) = Allows version name
AllowsEvent version _ = Unit {0}

abbrev pub AllowsPairs : Version → List VotersFrom → Type 0
AllowsPairs One [] = Unit {0}
AllowsPairs One (pair ∷ pairs) = ⊥
AllowsPairs Two pairs = Unit {0}

pub record IsAllowed (version : Version) (h : History) : Type 0 where
  pub pairs : AllowsPairs version h.plan.voters
  pub parents : AllByRecursion (λ (p : Parent). Allows version p.name) h.plan.parents
  pub events : AllByRecursion (AllowsEvent version) h.events

neither : (a b : Bool) → (a || b) ≡ false → (a ≡ false) × (b ≡ false)
neither true b is = absurd cc
neither false b is = (refl, is)

no_name : (name : Option Text) → is_some name ≡ false → Allows One name
no_name None is = tt
no_name (Some name) is = absurd cc

no_pairs : (pairs : List VotersFrom) → not (is_empty pairs) ≡ false → AllowsPairs One pairs
no_pairs [] is = tt
no_pairs (pair ∷ pairs) is = absurd cc

bare_parents : (ps : List Parent) → list_any is_named_parent ps ≡ false → AllByRecursion (λ (p : Parent). Allows One p.name) ps
bare_parents [] is = tt
bare_parents (p ∷ ps) is = let o = neither (is_some p.name) (list_any is_named_parent ps) is in (no_name p.name o.0, bare_parents ps o.1)

bare_event : (e : Event) → is_named_request e ≡ false → AllowsEvent One e
bare_event (events.Request k t imprint name) is = no_name name is
bare_event (events.Close k t) is = tt
bare_event (events.Seal j t) is = tt
bare_event (events.Ballot j t) is = tt
bare_event (events.Deliver number) is = tt
bare_event (events.Tell j t) is = tt
bare_event (events.Respond j t) is = tt
bare_event (events.Publish j p) is = tt
bare_event (events.RestartCore j) is = tt
bare_event (events.RestartAggregator k) is = tt

bare_events : (es : List Event) → list_any is_named_request es ≡ false → AllByRecursion (AllowsEvent One) es
bare_events [] is = tt
bare_events (e ∷ es) is = let o = neither (is_named_request e) (list_any is_named_request es) is in (bare_event e o.0, bare_events es o.1)

any_parents : (ps : List Parent) → AllByRecursion (λ (p : Parent). Allows Two p.name) ps
any_parents [] = tt
any_parents (p ∷ ps) = (tt, any_parents ps)

any_event : (e : Event) → AllowsEvent Two e
any_event (events.Request k t imprint name) = tt
any_event (events.Close k t) = tt
any_event (events.Seal j t) = tt
any_event (events.Ballot j t) = tt
any_event (events.Deliver number) = tt
any_event (events.Tell j t) = tt
any_event (events.Respond j t) = tt
any_event (events.Publish j p) = tt
any_event (events.RestartCore j) = tt
any_event (events.RestartAggregator k) = tt

any_events : (es : List Event) → AllByRecursion (AllowsEvent Two) es
any_events [] = tt
any_events (e ∷ es) = (any_event e, any_events es)

pub version_allows : (h : History) → IsAllowed (version_of h) h
version_allows h = by_test (not (is_empty h.plan.voters) || has_name h) refl
  where
    by_test : (b : Bool) → (not (is_empty h.plan.voters) || has_name h) ≡ b → IsAllowed (cond b Two One) h
    by_test true is = record { pairs = tt; parents = any_parents h.plan.parents; events = any_events h.events }
    by_test false is =
        let o = neither (not (is_empty h.plan.voters)) (has_name h) is in
        let i = neither (list_any is_named_parent h.plan.parents) (list_any is_named_request h.events) o.1 in
        record { pairs = no_pairs h.plan.voters o.0; parents = bare_parents h.plan.parents i.0; events = bare_events h.events i.1 }
