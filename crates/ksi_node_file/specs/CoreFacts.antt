-- The facts of a core of a history, in the order in which they were stored, and its node file.
use Rattle.ksi_schedule.specs.Plans.{PlanState, core_plan_of}
use Rattle.std.specs.Prelude.{ℕ, List, [], ◌∷◌, ◌++◌}
use Rattle.ksi_corenode.specs.declared.fact.Fact.{Fact}
use Rattle.ksi_corenode.specs.declared.fact.What.TheVariants as whats
use Rattle.ksi_corenode.specs.Facts.{fact_of}
use Rattle.ksi_nodestore.specs.Spelling.{node_text}
use Rattle.ksi_schedule.specs.declared.actor.Actor.TheVariants as actors
use Rattle.ksi_schedule.specs.declared.event.Event.{Event}
use Rattle.ksi_schedule.specs.Events.{History}
use Rattle.ksi_laws_facts.specs.Seen.{seen}
use Rattle.ksi_laws_facts.specs.Deeds.{Deed, Did, Sealed, Tried, Promised, Cast, Holds, facts}

-- a deed as the fact of a core, where it is one
abbrev pub fact_in : Deed → List Fact
fact_in (Did t (Sealed items)) = fact_of t (whats.Sealed items) ∷ []
fact_in (Did t (Tried ballot)) = fact_of t (whats.Tried ballot) ∷ []
fact_in (Did t (Promised ballot)) = fact_of t (whats.Promised ballot) ∷ []
fact_in (Did t (Cast vote)) = fact_of t (whats.Cast vote) ∷ []
fact_in (Did t (Holds root)) = fact_of t (whats.Holds root) ∷ []
fact_in _ = []

-- the facts among deeds, which have the latest first, in the order of time
abbrev pub in_order : List Deed → List Fact
in_order [] = []
in_order (deed ∷ older) = in_order older ++ fact_in deed

-- the facts of a core after these events, in their order
unfoldable pub core_facts : (List ℕ → List ℕ) → PlanState → List Event → (core : ℕ) → List Fact
core_facts image plan events core = in_order (facts (actors.Core core) (seen image plan events))

-- the file of a core of a history: its header, a record for each of its facts, and a closed gate
abbrev pub node_of : (List ℕ → List ℕ) → History → (core : ℕ) → List ℕ
node_of image h core = node_text core (core_plan_of h.plan) (core_facts image h.plan h.events core)
