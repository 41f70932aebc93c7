-- The owners of the ballots in messages, events and facts: a ballot is 16 * round + core, and that core owns it.
use Rattle.std.specs.Prelude.{ℕ, ◌%◌, ◌<◌}
use Rattle.ksi_synod.specs.declared.messages.SynodMessage.{SynodMessage}
use Rattle.ksi_synod.specs.declared.messages.SynodMessage.TheVariants as message
use Rattle.ksi_corenode.specs.declared.event.CoreEvent.{CoreEvent}
use Rattle.ksi_corenode.specs.declared.event.CoreEvent.TheVariants as events
use Rattle.ksi_corenode.specs.declared.fact.What.{What}
use Rattle.ksi_corenode.specs.declared.fact.What.TheVariants.{Sealed, Tried, Promised, Cast, Holds}

abbrev pub owner_of : (ballot : ℕ) → ℕ
owner_of ballot = ballot % 16

-- the ballot belongs to one of this many cores
abbrev pub IsOwned : (cores ballot : ℕ) → Type 0
IsOwned cores ballot = owner_of ballot < cores

-- so does the ballot that a message names, if any; the vote reported in a LastVote may be of any ballot
abbrev pub NamesOwned : (cores : ℕ) → SynodMessage → Type 0
NamesOwned cores (message.NextBallot b) = IsOwned cores b
NamesOwned cores (message.LastVote l) = IsOwned cores l.ballot
NamesOwned cores (message.BeginBallot b d) = IsOwned cores b
NamesOwned cores (message.Voted b) = IsOwned cores b
NamesOwned cores (message.Success d) = Unit {0}

-- so does the ballot in an event, if any
abbrev pub BringsOwned : (cores : ℕ) → CoreEvent → Type 0
BringsOwned cores (events.Submission from second item) = Unit {0}
BringsOwned cores (events.Seal second) = Unit {0}
BringsOwned cores (events.Ballot second) = Unit {0}
BringsOwned cores (events.Receive from second m) = NamesOwned cores m
BringsOwned cores (events.Tell second) = Unit {0}
BringsOwned cores (events.Respond second) = Unit {0}
BringsOwned cores (events.Publish second) = Unit {0}

-- so does the ballot that is stored, if any
abbrev pub StoresOwned : (cores : ℕ) → What → Type 0
StoresOwned cores (Sealed items) = Unit {0}
StoresOwned cores (Tried ballot) = IsOwned cores ballot
StoresOwned cores (Promised ballot) = IsOwned cores ballot
StoresOwned cores (Cast vote) = IsOwned cores vote.ballot
StoresOwned cores (Holds root) = Unit {0}
