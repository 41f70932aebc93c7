-- The facts of an aggregator of a history, in the order in which they were stored; and facts under other numbers of requests.
use Rattle.std.specs.Prelude.{ℕ, List, [], ◌∷◌, ◌++◌, map}
use Rattle.ksi_aggregator.specs.declared.fact.Fact.{Fact}
use Rattle.ksi_aggregator.specs.declared.fact.RoundFact.TheVariants as stored
use Rattle.ksi_aggregator.specs.Rounds.{fact_of}
use Rattle.ksi_aggregator.specs.Renamed as renamed
use Rattle.ksi_schedule.specs.declared.actor.Actor.TheVariants as actors
use Rattle.ksi_schedule.specs.declared.event.Event.{Event}
use Rattle.ksi_schedule.specs.Plans.{PlanState}
use Rattle.ksi_laws_facts.specs.Seen.{seen}
use Rattle.ksi_laws_facts.specs.Deeds.{Deed, Did, Closed, Answered, facts}

-- a deed as the fact of an aggregator, where it is one
abbrev pub fact_in : Deed → List Fact
fact_in (Did t (Closed items)) = fact_of t (stored.Closed items) ∷ []
fact_in (Did t (Answered above)) = fact_of t (stored.Answered above) ∷ []
fact_in _ = []

-- the facts among deeds, which have the latest first, in the order of time
abbrev pub in_order : List Deed → List Fact
in_order [] = []
in_order (deed ∷ older) = in_order older ++ fact_in deed

-- the facts of an aggregator after these events, in their order
unfoldable pub round_facts : (List ℕ → List ℕ) → PlanState → List Event → (aggregator : ℕ) → List Fact
round_facts image plan events k = in_order (facts (actors.Aggregator k) (seen image plan events))

-- a fact whose items have other numbers of requests
abbrev pub fact_named : (name : ℕ → ℕ) → Fact → Fact
fact_named name fact = record { second = fact.second; what = renamed.fact_renamed name fact.what }

abbrev pub facts_named : (name : ℕ → ℕ) → List Fact → List Fact
facts_named name facts = map (fact_named name) facts
