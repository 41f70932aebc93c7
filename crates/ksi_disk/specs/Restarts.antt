-- For any node that keeps its facts in a file, a crash is a restart. There are no tactics here.
use Rattle.std.specs.Prelude.{◌≡◌, ◌⊎◌, List, [], ◌∷◌, ◌++◌, Option, Some, None}

-- the facts with one more, if any
abbrev pub and_new : {Fact : Type 0} → List Fact → Option Fact → List Fact
and_new facts None = facts
and_new facts (Some fact) = facts ++ fact ∷ []

-- a file has these facts, or one more if an event adds one: so a crash leaves it at any moment of that event
abbrev pub WithOrWithout : {Fact : Type 0} → (facts : List Fact) (more : Option Fact) (left : List Fact) → Type 0
WithOrWithout facts more left = (left ≡ facts) ⊎ (left ≡ and_new facts more)

-- An operation on a node: it took an event, which was acknowledged; a failure or a crash interrupted it in an event, and it
-- was opened again; or it was opened again between two events
pub data Deed (Event : Type 0) : Type 0 where
  Took : (event : Event) → Deed Event
  CutOff : (event : Event) → Deed Event
  Opened : Deed Event

-- an entry of a history: an event, or a restart
pub data Said (Event : Type 0) : Type 0 where
  Happened : (event : Event) → Said Event
  Restarted : Said Event

-- each opening is a restart, and an interrupted event happened before it or never did
abbrev pub SaysOf : {Event : Type 0} → Deed Event → List (Said Event) → Type 0
SaysOf (Took event) said = said ≡ Happened event ∷ []
SaysOf (CutOff event) said = (said ≡ Happened event ∷ Restarted ∷ []) ⊎ (said ≡ Restarted ∷ [])
SaysOf Opened said = said ≡ Restarted ∷ []

abbrev pub SayOf : {Event : Type 0} → List (Deed Event) → List (Said Event) → Type 0
SayOf {Event} [] said = said ≡ []
SayOf {Event} (deed ∷ deeds) said = (one : List (Said Event)) × (others : List (Said Event)) × SaysOf deed one × SayOf deeds others × (said ≡ one ++ others)

-- A NODE: the state after a row, and after a restart; whether a running node is in a state; whether a state has these facts;
-- when an event is allowed; whether a node took an event, and which fact it then stores; whether a node was made of facts
module _ {State Node Event Fact : Type 0}
    (row : State → Event → State) (restart : State → State)
    (Keeps : Node → State → Type 0) (Has : List Fact → State → Type 0)
    (May : Node → Event → Type 0) (Takes : (old : Node) → Event → (new : Node) → Type 0) (stores : Node → Event → Option Fact)
    (Made : List Fact → Node → Type 0) where
  -- a node follows its rows and stores its facts, a restart preserves these, and a node that is made of them is in the state
  -- after a restart
  pub record IsNode : Type 0 where
    pub takes : (old new : Node) (s : State) (event : Event) → Keeps old s → May old event → Takes old event new → Keeps new (row s event)
    pub goes_on : (facts : List Fact) (node : Node) (s : State) (event : Event) → Keeps node s → Has facts s → May node event → Has (and_new facts (stores node event)) (row s event)
    pub stays : (facts : List Fact) (s : State) → Has facts s → Has facts (restart s)
    pub comes_back : (facts : List Fact) (node : Node) (s : State) → Has facts s → Made facts node → Keeps node (restart s)

  -- the effect of an operation on a node, and on the facts in its file
  abbrev pub IsDeed : Deed Event → (old : Node) (facts : List Fact) → (new : Node) (after : List Fact) → Type 0
  IsDeed (Took event) old facts new after = May old event × Takes old event new × (after ≡ and_new facts (stores old event))
  IsDeed (CutOff event) old facts new after = May old event × WithOrWithout facts (stores old event) after × Made after new
  IsDeed Opened old facts new after = (after ≡ facts) × Made after new

  abbrev pub Runs : List (Deed Event) → (old : Node) (facts : List Fact) → (new : Node) (after : List Fact) → Type 0
  Runs [] old facts new after = (new ≡ old) × (after ≡ facts)
  Runs (deed ∷ deeds) old facts new after = (next : Node) × (kept : List Fact) × IsDeed deed old facts next kept × Runs deeds next kept new after

  -- the state after a history
  abbrev pub state_after : State → List (Said Event) → State
  state_after s [] = s
  state_after s (Happened event ∷ said) = state_after (row s event) said
  state_after s (Restarted ∷ said) = state_after (restart s) said

  -- a history of exactly these operations: the node is in the state after it, which has the facts in its file
  pub record HasHistory (deeds : List (Deed Event)) (s : State) (new : Node) (after : List Fact) : Type 0 where
    pub said : List (Said Event)
    pub of : SayOf deeds said
    pub keeps : Keeps new (state_after s said)
    pub has : Has after (state_after s said)
