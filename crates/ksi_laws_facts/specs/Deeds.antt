-- What actors are seen to do, and what is read off it. Lists of deeds have the latest first.
use Rattle.std.specs.Prelude.{ℕ, ◌==◌, max, Bool, true, false, if◌then◌else◌, List, [], ◌∷◌, ◌++◌, map, Option, Some, None}
use Rattle.std.specs.List.{filter}
use Rattle.ksi_aggtree.specs.declared.entries.Entry.{Entry}
use Rattle.ksi_aggtree.specs.declared.entries.Origin.TheVariants as origins
use Rattle.ksi_synod.specs.declared.messages.Vote.{Vote}
use Rattle.ksi_synod.specs.declared.messages.SynodMessage.{SynodMessage}
use Rattle.ksi_synod.specs.declared.messages.SynodMessage.TheVariants as votes
use Rattle.ksi_synod.specs.Rows.{greater_vote}
use Rattle.ksi_signature.specs.declared.above.Above.{Above}
use Rattle.ksi_signature.specs.declared.answer.Answer.{Answer}
use Rattle.ksi_signature.specs.declared.answer.Answer.TheVariants as answers
use Rattle.ksi_schedule.specs.declared.actor.Actor.{Actor}
use Rattle.ksi_schedule.specs.declared.actor.Actor.TheVariants as actors
use Rattle.ksi_schedule.specs.declared.event.Event.{Event}
use Rattle.ksi_schedule.specs.declared.event.Event.TheVariants as events
use Rattle.ksi_world.specs.declared.message.Content.{Content}
use Rattle.ksi_world.specs.declared.message.Content.TheVariants as contents
use Rattle.ksi_world.specs.declared.message.Message.{Message}
use Rattle.ksi_laws_facts.specs.Seen.{Seen}

-- what an actor did: it accepted an item, sealed or closed what it had accepted, tried or promised a ballot, cast a vote,
-- came to hold a root, kept a response; or a LastVote or Voted came to it from a core
pub data Act : Type 0 where
  Accepted : (item : Entry) → Act
  Sealed : (items : List Entry) → Act
  Closed : (items : List Entry) → Act
  Tried : (ballot : ℕ) → Act
  Promised : (ballot : ℕ) → Act
  Cast : (vote : Vote) → Act
  Holds : (root : List ℕ) → Act
  Answered : (above : Above) → Act
  Heard : (from : ℕ) → SynodMessage → Act

-- it did so for a second, or restarted
pub data Deed : Type 0 where
  Did : (second : ℕ) → Act → Deed
  Restarted : Deed

-- the deeds for a second; each restart is one
abbrev pub is_of : (second : ℕ) → Deed → Bool
is_of t (Did u what) = t == u
is_of t Restarted = true

abbrev pub of_second : (second : ℕ) → List Deed → List Deed
of_second t deeds = filter (is_of t) deeds

-- facts are the deeds that survive restarts
abbrev pub is_fact : Deed → Bool
is_fact Restarted = false
is_fact (Did t (Accepted item)) = false
is_fact (Did t (Heard from m)) = false
is_fact _ = true

abbrev pub facts_of : List Deed → List Deed
facts_of deeds = filter is_fact deeds

-- WHAT IS READ OFF THE DEEDS FOR A SECOND

-- the open items: those accepted since the second was sealed or closed, or the actor restarted
abbrev pub open_items : List Deed → List Entry
open_items [] = []
open_items (Restarted ∷ older) = []
open_items (Did t (Sealed items) ∷ older) = []
open_items (Did t (Closed items) ∷ older) = []
open_items (Did t (Accepted item) ∷ older) = open_items older ++ item ∷ []
open_items (_ ∷ older) = open_items older

-- the items that a core sealed
abbrev pub sealed_items : List Deed → Option (List Entry)
sealed_items [] = None
sealed_items (Did t (Sealed items) ∷ older) = Some items
sealed_items (_ ∷ older) = sealed_items older

-- the items that an aggregator closed
abbrev pub closed_items : List Deed → Option (List Entry)
closed_items [] = None
closed_items (Did t (Closed items) ∷ older) = Some items
closed_items (_ ∷ older) = closed_items older

-- the last ballot that was tried, or 0
abbrev pub tried_ballot : List Deed → ℕ
tried_ballot [] = 0
tried_ballot (Did t (Tried ballot) ∷ older) = ballot
tried_ballot (_ ∷ older) = tried_ballot older

-- the greatest ballot that was promised, or 0
abbrev pub greatest_promise : List Deed → ℕ
greatest_promise [] = 0
greatest_promise (Did t (Promised ballot) ∷ older) = max ballot (greatest_promise older)
greatest_promise (_ ∷ older) = greatest_promise older

-- the vote of the greatest ballot
abbrev pub greatest_vote : List Deed → Option Vote
greatest_vote [] = None
greatest_vote (Did t (Cast cast) ∷ older) = greater_vote (greatest_vote older) (Some cast)
greatest_vote (_ ∷ older) = greatest_vote older

-- the root that a core holds
abbrev pub held_root : List Deed → Option (List ℕ)
held_root [] = None
held_root (Did t (Holds root) ∷ older) = Some root
held_root (_ ∷ older) = held_root older

-- the response that an aggregator kept
abbrev pub kept_response : List Deed → Option Above
kept_response [] = None
kept_response (Did t (Answered above) ∷ older) = Some above
kept_response (_ ∷ older) = kept_response older

-- WHAT AN EVENT IS SEEN TO BE

-- it was done where the answer is Done
abbrev pub where_done : Answer → Act → List Act
where_done answers.Done what = what ∷ []
where_done _ what = []

-- a request is accepted under a number, with its name
abbrev pub numbered : (imprint : List ℕ) → (name : Option (List ℕ)) → Answer → List Act
numbered imprint name (answers.Number n) = Accepted (record { origin = origins.Request n; item = record { imprint = imprint; level = 0; name = name } }) ∷ []
numbered imprint name _ = []

-- what the first message sent says
abbrev pub first : (sent : List Message) → Option Content
first [] = None
first (m ∷ ms) = Some m.content

-- a core that sends NextBallot tries that ballot
abbrev pub tries : (sent : Option Content) → List Act
tries (Some (contents.Synod (votes.NextBallot ballot))) = Tried ballot ∷ []
tries _ = []

-- a core that sends Success at a Voted holds that root, where it held nothing
abbrev pub decides : (sent : Option Content) → (held : Option (List ℕ)) → List Act
decides (Some (contents.Synod (votes.Success root))) None = Holds root ∷ []
decides _ _ = []

-- what a message that is delivered makes its addressee do, which held this root before
abbrev pub takes : (sender : Actor) → Content → Answer → (sent : List Message) → (held : Option (List ℕ)) → List Act
takes (actors.Aggregator from) (contents.Submission item) answer sent old = where_done answer (Accepted (record { origin = origins.Aggregator from; item = item }))
takes (actors.Core from) (contents.Synod (votes.NextBallot ballot)) answer sent old = where_done answer (Promised ballot)
takes (actors.Core from) (contents.Synod (votes.LastVote l)) answer sent old = Heard from (votes.LastVote l) ∷ []
takes (actors.Core from) (contents.Synod (votes.BeginBallot ballot decree)) answer sent old = where_done answer (Cast (record { ballot = ballot; imprint = decree }))
takes (actors.Core from) (contents.Synod (votes.Voted ballot)) answer sent old = Heard from (votes.Voted ballot) ∷ decides (first sent) old
takes (actors.Core from) (contents.Synod (votes.Success root)) answer sent old = where_done answer (Holds root)
takes sender (contents.Response above) answer sent old = where_done answer (Answered above)
takes _ _ _ _ _ = []

-- whether two actors are one
abbrev pub is_actor : Actor → Actor → Bool
is_actor (actors.Core j) (actors.Core i) = j == i
is_actor (actors.Aggregator k) (actors.Aggregator i) = k == i
is_actor _ _ = false

-- these are deeds of the actor where it is this one
abbrev pub own : Actor → Actor → (second : ℕ) → List Act → List Deed
own actor this t whats = if is_actor actor this then map (Did t) whats else []

-- what an actor does where this message, if any, is delivered
abbrev pub receives : Actor → Option Message → Answer → (sent : List Message) → (before : List Deed) → List Deed
receives actor None answer sent before = []
receives actor (Some m) answer sent before = own actor m.addressee m.second (takes m.sender m.content answer sent (held_root (facts_of (of_second m.second before))))

-- what an actor does in an event, after these deeds
abbrev pub does : Actor → Event → Option Message → Answer → (sent : List Message) → (before : List Deed) → List Deed
does actor (events.Request k t imprint name) m answer sent before = own actor (actors.Aggregator k) t (numbered imprint name answer)
does actor (events.Close k t) m answer sent before = own actor (actors.Aggregator k) t (where_done answer (Closed (open_items (of_second t before))))
does actor (events.Seal j t) m answer sent before = own actor (actors.Core j) t (where_done answer (Sealed (open_items (of_second t before))))
does actor (events.Ballot j t) m answer sent before = own actor (actors.Core j) t (tries (first sent))
does actor (events.Deliver number) m answer sent before = receives actor m answer sent before
does actor (events.RestartCore j) m answer sent before = if is_actor actor (actors.Core j) then Restarted ∷ [] else []
does actor (events.RestartAggregator k) m answer sent before = if is_actor actor (actors.Aggregator k) then Restarted ∷ [] else []
does actor _ m answer sent before = []

-- all that an actor did
unfoldable pub deeds : Actor → List Seen → List Deed
deeds actor [] = []
deeds actor (x ∷ past) = does actor x.event x.taken x.answer x.sent (deeds actor past) ++ deeds actor past

-- the facts of an actor
abbrev pub facts : Actor → List Seen → List Deed
facts actor past = facts_of (deeds actor past)
