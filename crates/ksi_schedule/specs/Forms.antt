-- The forms of an aggregator's line and of the events' lines.
use Rattle.std.specs.Prelude.{ℕ, List, [], ◌∷◌, ◌++◌, codes, Option, Some, None}
use Rattle.ksi_schedule.specs.Pieces.{Text}
use Rattle.ksi_schedule.specs.Words.{the_word, number, core, aggregator, second, digest, a_name, core_actor, aggregator_actor, Form, Kind}
use Rattle.ksi_schedule.specs.declared.actor.Actor.{Actor}
use Rattle.ksi_schedule.specs.declared.actor.Actor.TheVariants as actors
use Rattle.ksi_schedule.specs.declared.parent.Parent.{Parent}
use Rattle.ksi_schedule.specs.declared.version.Version.{Version}
use Rattle.ksi_schedule.specs.declared.version.Version.TheVariants.{One, Two}
use Rattle.ksi_schedule.specs.declared.event.Event.{Event}
use Rattle.ksi_schedule.specs.declared.event.Event.TheVariants as events

-- forms that only texts of version 2 have
abbrev pub in_two : {A : Type 0} → Version → List (Form A) → List (Form A)
in_two One forms = []
in_two Two forms = forms

abbrev pub parent : Actor → Option Text → Parent
parent actor name = record { actor = actor; name = name }

abbrev pub bare_parents : List (Form (ℕ × Parent))
bare_parents =
    record { sorts = number ∷ the_word (codes "parent") ∷ core_actor ∷ []; makes = λ v. (v.0, parent (actors.Core v.1.1.0) None) }
    ∷ record { sorts = number ∷ the_word (codes "parent") ∷ aggregator_actor ∷ []; makes = λ v. (v.0, parent (actors.Aggregator v.1.1.0) None) } ∷ []

abbrev pub named_parents : List (Form (ℕ × Parent))
named_parents =
    record { sorts = number ∷ the_word (codes "parent") ∷ core_actor ∷ the_word (codes "name") ∷ a_name ∷ []; makes = λ v. (v.0, parent (actors.Core v.1.1.0) (Some v.1.1.1.1.0)) }
    ∷ record { sorts = number ∷ the_word (codes "parent") ∷ aggregator_actor ∷ the_word (codes "name") ∷ a_name ∷ []; makes = λ v. (v.0, parent (actors.Aggregator v.1.1.0) (Some v.1.1.1.1.0)) } ∷ []

-- an aggregator's number, its parent, and the name that it submits under
abbrev pub aggregator_line : Version → Kind (ℕ × Parent)
aggregator_line version = record { name = codes "aggregator"; forms = bare_parents ++ in_two version named_parents }

abbrev pub bare_requests : List (Form Event)
bare_requests = record { sorts = aggregator ∷ second ∷ digest ∷ []; makes = λ v. events.Request v.0 v.1.0 v.1.1.0 None } ∷ []

abbrev pub named_requests : List (Form Event)
named_requests = record { sorts = aggregator ∷ second ∷ digest ∷ a_name ∷ []; makes = λ v. events.Request v.0 v.1.0 v.1.1.0 (Some v.1.1.1.0) } ∷ []

-- an imprint that is asked to be signed, and the name under which
abbrev pub request_line : Version → Kind Event
request_line version = record { name = codes "request"; forms = bare_requests ++ in_two version named_requests }

abbrev pub close_line : Kind Event
close_line = record { name = codes "close"; forms = record { sorts = aggregator ∷ second ∷ []; makes = λ v. events.Close v.0 v.1.0 } ∷ [] }

-- a core and a second
abbrev pub at_core : Text → (ℕ → ℕ → Event) → Kind Event
at_core name event = record { name = name; forms = record { sorts = core ∷ second ∷ []; makes = λ v. event v.0 v.1.0 } ∷ [] }

abbrev pub seal_line : Kind Event
seal_line = at_core (codes "seal") events.Seal

abbrev pub ballot_line : Kind Event
ballot_line = at_core (codes "ballot") events.Ballot

abbrev pub deliver_line : Kind Event
deliver_line = record { name = codes "deliver"; forms = record { sorts = number ∷ []; makes = λ v. events.Deliver v.0 } ∷ [] }

abbrev pub tell_line : Kind Event
tell_line = at_core (codes "tell") events.Tell

abbrev pub respond_line : Kind Event
respond_line = at_core (codes "respond") events.Respond

abbrev pub publish_line : Kind Event
publish_line = at_core (codes "publish") events.Publish

abbrev pub restart_line : Kind Event
restart_line = record {
  name = codes "restart";
  forms = record { sorts = core_actor ∷ []; makes = λ v. events.RestartCore v.0 } ∷ record { sorts = aggregator_actor ∷ []; makes = λ v. events.RestartAggregator v.0 } ∷ [];
}

abbrev pub event_kinds : Version → List (Kind Event)
event_kinds version = request_line version ∷ close_line ∷ seal_line ∷ ballot_line ∷ deliver_line ∷ tell_line ∷ respond_line ∷ publish_line ∷ restart_line ∷ []

-- ---- in the code

abbrev pub core_and_second : List (Form (ℕ × ℕ))
core_and_second = record { sorts = core ∷ second ∷ []; makes = λ v. (v.0, v.1.0) } ∷ []
