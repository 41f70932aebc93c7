-- An aggregator that keeps its facts in a file and forgets rounds: what events, failures, crashes and openings make of it, and
-- which aggregator of a history it is.
use Rattle.std.specs.Prelude.{◌≡◌, ℕ, Bool, true, false, if◌then◌else◌, is_some, List, slice_get, Option, Some, None}
use Rattle.ksi_aggtree.specs.declared.entries.Entry.{Entry}
use Rattle.ksi_aggtree.specs.declared.item.Item.{Item}
use Rattle.ksi_aggregator.specs.declared.event.RoundEvent.{RoundEvent}
use Rattle.ksi_aggregator.specs.declared.event.RoundEvent.TheVariants as events
use Rattle.ksi_aggregator.specs.declared.fact.Fact.{Fact}
use Rattle.ksi_aggregator.specs.declared.step.Step.{Step}
use Rattle.ksi_aggregator.specs.Issuing.{from_request}
use Rattle.ksi_aggregator.specs.Rounds.{AggregatorState, IsNew, SameRounds, rounds_of}
use Rattle.ksi_aggregator.specs.Rows.{RoundState}
use Rattle.ksi_aggregator.specs.Lawful.{closed_items, stored_by, with_new}
use Rattle.ksi_aggregator.specs.Renamed.{IsOneToOne, round_renamed}
use Rattle.ksi_aggregator.specs.Restored.{HasFacts, IsOfFacts}
use Rattle.ksi_aggregator.specs.Settled.{IsSettled}
use Rattle.ksi_roundstore.specs.Forgotten.{closed_empty}
use Rattle.ksi_roundstore.specs.Left.{is_forgotten, left_before, left_of}
use Rattle.ksi_roundstore.specs.Stores.{IsFileOf}
use Rattle.ksi_roundstore.specs.StoreState.{StoreState}
use Rattle.ksi_roundstore.specs.Takes.{TookTurn, fact_added}
use Rattle.ksi_schedule.specs.Plans.{PlanState}
use Rattle.ksi_schedule.specs.declared.event.Event.{Event}
use Rattle.ksi_world.specs.Histories.{after}
use Rattle.ksi_laws_crashed.specs.RoundFacts.{facts_named, round_facts}

-- an aggregator that runs, the file on its disk, and the items of each round that it forgot
pub record Running : Type 0 where
  pub aggregator : AggregatorState
  pub file : List ℕ
  pub forgotten : ℕ → Option (List Entry)

-- the aggregator of a store, and its file
abbrev pub running_in : {D : Type 0} → (content : D → List ℕ) → StoreState D → (forgotten : ℕ → Option (List Entry)) → Running
running_in content store forgotten = record { aggregator = store.aggregator; file = content store.log.disk; forgotten = forgotten }

-- no round is forgotten
abbrev pub nothing : ℕ → Option (List Entry)
nothing second = None

-- the round of a second is forgotten
abbrev pub is_gone : (forgotten : ℕ → Option (List Entry)) → (second : ℕ) → Bool
is_gone forgotten second = is_some (forgotten second)

-- no item of the request is in a round that was forgotten
abbrev pub IsUnused : ℕ → (forgotten : ℕ → Option (List Entry)) → Type 0
IsUnused number forgotten = (t k : ℕ) (entries : List Entry) (item : Item) → forgotten t ≡ Some entries → slice_get entries k ≡ Some (from_request number item) → ⊥

-- WHAT A DEED MAKES OF AN AGGREGATOR

-- What it takes if a history asks this of it: a request under any number that is new to its rounds and to those that it forgot,
-- all else as it is.
abbrev pub IsTakenAs : (forgotten : ℕ → Option (List Entry)) → (ℕ → RoundState) → (asked live : RoundEvent) → Type 0
IsTakenAs forgotten rounds (events.Request number second imprint name) live =
    (other : ℕ) × IsNew other rounds × IsUnused other forgotten × (live ≡ events.Request other second imprint name)
IsTakenAs forgotten rounds (events.Submission from second item) live = live ≡ events.Submission from second item
IsTakenAs forgotten rounds (events.Close second) live = live ≡ events.Close second
IsTakenAs forgotten rounds (events.Response second above) live = live ≡ events.Response second above

-- an aggregator was opened: its file is that of some facts, and it is made of them
abbrev pub WasOpened : (me : ℕ) → PlanState → Running → Type 0
WasOpened me plan new = (facts : List Fact) × IsFileOf me plan facts new.file × IsOfFacts me facts new.aggregator

-- the file has one fact more, if any
abbrev pub FileGrew : (me : ℕ) → PlanState → (more : Option Fact) → (old new : List ℕ) → Type 0
FileGrew me plan more old new = (facts : List Fact) → IsFileOf me plan facts old → IsFileOf me plan (with_new facts more) new

-- it took what it was asked, by this step
pub record TookStep (image : List ℕ → List ℕ) (me : ℕ) (plan : PlanState) (asked : RoundEvent) (old new : Running) : Type 0 where
  pub live : RoundEvent
  pub taken_as : IsTakenAs old.forgotten (rounds_of old.aggregator) asked live
  pub step : Step
  pub turn : TookTurn image old.aggregator new.aggregator live step
  pub file : FileGrew me plan step.fact old.file new.file
  pub forgets : new.forgotten ≡ old.forgotten

-- it takes part in an event that asks this of it, or restarts it, or neither
abbrev pub TakesPart : (List ℕ → List ℕ) → (me : ℕ) → PlanState → (asked : Option RoundEvent) → (restarts : Bool) → (old new : Running) → Type 0
TakesPart image me plan (Some asked) restarts old new = TookStep image me plan asked old new
TakesPart image me plan None true old new = (new.file ≡ old.file) × WasOpened me plan new × (new.forgotten ≡ old.forgotten)
TakesPart image me plan None false old new = new ≡ old

-- it refused an event: its rounds and its file are as they were
pub record IsAsBefore (old new : Running) : Type 0 where
  pub me : new.aggregator.me ≡ old.aggregator.me
  pub rounds : SameRounds (rounds_of old.aggregator) (rounds_of new.aggregator)
  pub file : new.file ≡ old.file
  pub forgets : new.forgotten ≡ old.forgotten

-- the fact of what it took, where that was stored
abbrev pub fact_left : (List ℕ → List ℕ) → (stored : Bool) → AggregatorState → RoundEvent → Option Fact
fact_left image true aggregator live = fact_added image aggregator live
fact_left image false aggregator live = None

-- it was cut off in what it was asked, and opened again
pub record WasCutOff (image : List ℕ → List ℕ) (me : ℕ) (plan : PlanState) (asked : RoundEvent) (stored : Bool) (old new : Running) : Type 0 where
  pub live : RoundEvent
  pub taken_as : IsTakenAs old.forgotten (rounds_of old.aggregator) asked live
  pub file : FileGrew me plan (fact_left image stored old.aggregator live) old.file new.file
  pub opened : WasOpened me plan new
  pub forgets : new.forgotten ≡ old.forgotten

-- what it forgot before, and with it now: each round of a second before this one that has a response, by these facts
abbrev pub forgotten_with : (before : ℕ) → List Fact → (forgotten : ℕ → Option (List Entry)) → ℕ → Option (List Entry)
forgotten_with before facts forgotten t = if is_forgotten before (stored_by facts) t then Some (closed_items (stored_by facts t)) else forgotten t

-- It forgot rounds: it was stopped, and opened again over the file of what is left of its facts. Each round of a second before
-- this one that has a response is forgotten, with its items.
pub record HasForgotten (me : ℕ) (plan : PlanState) (before : ℕ) (old new : Running) : Type 0 where
  pub facts : List Fact
  pub old_file : IsFileOf me plan facts old.file
  pub new_file : IsFileOf me plan (left_before before facts) new.file
  pub made : IsOfFacts me (left_before before facts) new.aggregator
  pub forgets : (t : ℕ) → new.forgotten t ≡ forgotten_with before facts old.forgotten t

-- THE AGGREGATOR OF A HISTORY

-- A round of it beside the history's: the same, unless it is forgotten. Then it is settled in the history, with these items, and
-- here it is closed without items.
abbrev pub IsRoundOf : (forgotten : Option (List Entry)) → (whole live : RoundState) → Type 0
IsRoundOf None whole live = live ≡ whole
IsRoundOf (Some entries) whole live = IsSettled whole × (whole.closed ≡ Some entries) × (live ≡ closed_empty)

-- the rounds of aggregator k of a history, under other numbers of requests
abbrev pub rounds_named : (List ℕ → List ℕ) → PlanState → List Event → (k : ℕ) → (name : ℕ → ℕ) → ℕ → RoundState
rounds_named image plan events k name t = round_renamed name ((after image plan events).rounds k t)

-- Aggregator k of the history of these events, under other numbers of requests, no two of which are one: each round is what the
-- history says or is forgotten, and the file has the facts that it stored there, or what is left of those of forgotten rounds.
pub record IsNamed (image : List ℕ → List ℕ) (plan : PlanState) (events : List Event) (k : ℕ) (running : Running) (name : ℕ → ℕ) : Type 0 where
  pub one : IsOneToOne name
  pub rounds : (t : ℕ) → IsRoundOf (running.forgotten t) (rounds_named image plan events k name t) (rounds_of running.aggregator t)
  pub whole : HasFacts (facts_named name (round_facts image plan events k)) (rounds_named image plan events k name)
  pub has : HasFacts (left_of (is_gone running.forgotten) (facts_named name (round_facts image plan events k))) (rounds_of running.aggregator)
  pub file : IsFileOf k plan (left_of (is_gone running.forgotten) (facts_named name (round_facts image plan events k))) running.file

pub record IsAggregatorAfter (image : List ℕ → List ℕ) (plan : PlanState) (events : List Event) (k : ℕ) (running : Running) : Type 0 where
  pub mine : running.aggregator.me ≡ k
  pub name : ℕ → ℕ
  pub named : IsNamed image plan events k running name
