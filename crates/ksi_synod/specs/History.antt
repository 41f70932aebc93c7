-- Histories of the vote on one second: each core's state and all messages ever sent, after any list of events.
use Rattle.std.specs.Prelude.{ℕ, ◌≤◌, Bool, true, ◌==◌, nat_lt, if◌then◌else◌, IsTrue, List, [], ◌∷◌, ◌++◌, map, slice_get, Option, Some, None}
use Rattle.std.specs.List.{list_all}
use Rattle.ksi_synod.specs.declared.messages.SynodMessage.{SynodMessage}
use Rattle.ksi_synod.specs.declared.messages.SynodMessage.TheVariants as message
use Rattle.ksi_synod.specs.Voters.{cores_below}
use Rattle.ksi_synod.specs.VoteState.{VoteState, fresh_vote}
use Rattle.ksi_synod.specs.Rows.{seal, try_ballot, ballot_told, held_told, restarted, receive}

-- the number of cores, and which of them vote
pub record SetUp : Type 0 where
  pub cores : ℕ
  pub voters : List ℕ

-- a core seals its candidate, tries a ballot, sends the decree that it holds, or restarts; or message n is delivered. A
-- message that no event delivers is lost, and one that several deliver is repeated
pub data Event : Type 0 where
  Seal : (core : ℕ) (candidate : List ℕ) → Event
  Ballot : (core : ℕ) → Event
  Tell : (core : ℕ) → Event
  Deliver : (number : ℕ) → Event
  Restart : (core : ℕ) → Event

pub record Message : Type 0 where
  pub sender : ℕ
  pub addressee : ℕ
  pub what : SynodMessage

-- the state of each core, and all messages sent so far, numbered from 0
pub record Moment : Type 0 where
  pub states : ℕ → VoteState
  pub wire : List Message

-- MESSAGES SENT, AND THEIR ADDRESSEES

-- LastVote and Voted go to the core that they answer, NextBallot and BeginBallot to each voter, Success to each core
abbrev pub addressees : SetUp → (answered : ℕ) → SynodMessage → List ℕ
addressees set_up answered (message.NextBallot b) = set_up.voters
addressees set_up answered (message.LastVote l) = answered ∷ []
addressees set_up answered (message.BeginBallot b d) = set_up.voters
addressees set_up answered (message.Voted b) = answered ∷ []
addressees set_up answered (message.Success d) = cores_below set_up.cores

-- the message to each of its addressees
abbrev pub posted : (sender : ℕ) → SynodMessage → (to : List ℕ) → List Message
posted sender what to = map (λ (addressee : ℕ). record { sender = sender; addressee = addressee; what = what }) to

abbrev pub sends_of : SetUp → (sender answered : ℕ) → Option SynodMessage → List Message
sends_of set_up sender answered None = []
sends_of set_up sender answered (Some what) = posted sender what (addressees set_up answered what)

-- EVENTS

-- the core's state is now another
abbrev pub put : (states : ℕ → VoteState) (core : ℕ) (new : VoteState) → ℕ → VoteState
put states core new k = if k == core then new else states k

-- a step of a core: its new state, and what it sends
abbrev pub stepped : SetUp → Moment → (core answered : ℕ) → VoteState × Option SynodMessage → Moment
stepped set_up m core answered r = record { states = put m.states core r.0; wire = m.wire ++ sends_of set_up core answered r.1 }

-- the addressee takes the message, if there is one with this number
abbrev pub delivered : SetUp → Moment → Option Message → Moment
delivered set_up m None = m
delivered set_up m (Some x) = stepped set_up m x.addressee x.sender (receive (m.states x.addressee) x.sender x.what)

unfoldable pub happens : SetUp → Moment → Event → Moment
happens set_up m (Seal core candidate) = stepped set_up m core core (seal (m.states core) candidate, None)
happens set_up m (Ballot core) = stepped set_up m core core ((try_ballot (m.states core)).0, ballot_told (try_ballot (m.states core)).1)
happens set_up m (Tell core) = stepped set_up m core core (m.states core, held_told (m.states core).held)
happens set_up m (Deliver number) = delivered set_up m (slice_get m.wire number)
happens set_up m (Restart core) = stepped set_up m core core (restarted (m.states core), None)

-- HISTORIES

-- before any event
unfoldable pub first_moment : SetUp → Moment
first_moment set_up = record { states = λ core. fresh_vote core set_up.voters; wire = [] }

abbrev pub run : SetUp → Moment → List Event → Moment
run set_up m [] = m
run set_up m (e ∷ es) = run set_up (happens set_up m e) es

-- after the events, applied in order
abbrev pub after : SetUp → List Event → Moment
after set_up events = run set_up (first_moment set_up) events

-- whether the event's core is one of the cores
abbrev pub is_event : (cores : ℕ) → Event → Bool
is_event cores (Seal core candidate) = nat_lt core cores
is_event cores (Ballot core) = nat_lt core cores
is_event cores (Tell core) = nat_lt core cores
is_event cores (Deliver number) = true
is_event cores (Restart core) = nat_lt core cores

-- at most nine cores, any of which may vote, and events of these cores only
pub record IsHistory (set_up : SetUp) (events : List Event) : Type 0 where
  pub few : set_up.cores ≤ 9
  pub theirs : IsTrue (list_all (is_event set_up.cores) events)

-- the decree that a core holds, and the candidate that it sealed
abbrev pub held_by : Moment → (core : ℕ) → Option (List ℕ)
held_by m core = (m.states core).held

abbrev pub candidate_of : Moment → (core : ℕ) → Option (List ℕ)
candidate_of m core = (m.states core).candidate
