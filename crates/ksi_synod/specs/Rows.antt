-- The steps of the vote on one second (Lamport, "The Part-Time Parliament", 2.3, the basic protocol, steps 1 to 6), in the
-- order of the protocol. Each is a function from a core's state to its state after the step and its answer. If the condition
-- of a step does not hold, the state is unchanged.
use Rattle.std.specs.Prelude.{ℕ, ◌+◌, max, Bool, true, false, not, ◌&&◌, ◌==◌, nat_lt, if◌then◌else◌, List, slice_set, is_none, unwrap_or, Option, Some, None}
use Rattle.ksi_synod.specs.declared.messages.Vote.{Vote}
use Rattle.ksi_synod.specs.declared.messages.LastVote.{LastVote}
use Rattle.ksi_synod.specs.declared.messages.SynodMessage.{SynodMessage}
use Rattle.ksi_synod.specs.declared.messages.SynodMessage.TheVariants as message
use Rattle.ksi_synod.specs.declared.messages.Begun.{Begun}
use Rattle.ksi_synod.specs.declared.messages.Begun.TheVariants.{Unsealed, Last, Next}
use Rattle.ksi_synod.specs.declared.messages.Took.{Took}
use Rattle.ksi_synod.specs.declared.messages.Took.TheVariants.{Nothing, Added, Decree}
use Rattle.ksi_synod.specs.Voters.{is_flagged, is_voter, is_majority}
use Rattle.ksi_synod.specs.Ballots.{ballot_number, round_of, last_round, IsBallot}
use Rattle.ksi_synod.specs.VoteState.{VoteState, Hand, new_hand}

-- SEAL: set the candidate

abbrev pub sealed_with : VoteState → (candidate : List ℕ) → VoteState
sealed_with s candidate = record s { candidate = Some candidate }

-- it is set only once
abbrev pub seal_of : (sealed : Option (List ℕ)) → VoteState → (candidate : List ℕ) → VoteState
seal_of None s candidate = sealed_with s candidate
seal_of (Some sealed) s candidate = s

unfoldable pub seal : VoteState → (candidate : List ℕ) → VoteState
seal s candidate = seal_of s.candidate s candidate

-- BALLOT, step 1: send NextBallot(b) for the core's ballot of the next round, which becomes the ballot in hand

-- the round that the new ballot must exceed
abbrev pub greater_round : VoteState → ℕ
greater_round s = max (round_of s.tried) (round_of s.promised)

abbrev pub next_ballot : VoteState → ℕ
next_ballot s = ballot_number (greater_round s + 1) s.me

abbrev pub try_ballot_of : (candidate : Option (List ℕ)) → VoteState → VoteState × Begun
try_ballot_of None s = (s, Unsealed)
try_ballot_of (Some candidate) s =
    if greater_round s == last_round
    then (s, Last)
    else (record s { tried = next_ballot s; hand = Some (new_hand (next_ballot s)) }, Next (next_ballot s))

unfoldable pub try_ballot : VoteState → VoteState × Begun
try_ballot s = try_ballot_of s.candidate s

-- NEXTBALLOT(b), step 2: if b is greater than the promise, promise b and report the vote cast so far in LastVote

unfoldable pub on_next : VoteState → (ballot : ℕ) → VoteState × Option LastVote
on_next s ballot =
    if nat_lt s.promised ballot
    then (record s { promised = ballot }, Some (record { ballot = ballot; vote = s.vote }))
    else (s, None)

-- LASTVOTE(b, v) from a core, step 3

-- whether it counts: the ballot is in hand, no decree was begun, and the sender is a voter that has not counted yet
abbrev pub counts_last : (voters : List ℕ) → Option Hand → (from ballot : ℕ) → Bool
counts_last voters None from ballot = false
counts_last voters (Some h) from ballot = (h.ballot == ballot) && (is_none h.decree && (is_voter voters from && not (is_flagged h.last from)))

-- the vote with the greater ballot; if ballots are equal, the one that came first
abbrev pub greater_vote : (old new : Option Vote) → Option Vote
greater_vote None new = new
greater_vote (Some old) None = Some old
greater_vote (Some old) (Some new) = if nat_lt old.ballot new.ballot then Some new else Some old

-- count the sender, with its vote
abbrev pub with_last : Hand → (from : ℕ) (vote : Option Vote) → Hand
with_last h from vote = record h { last = slice_set h.last from true; greatest = greater_vote h.greatest vote }

-- the imprint of the greatest vote, or the candidate if no vote was reported
abbrev pub decree_of : (greatest : Option Vote) (candidate : Option (List ℕ)) → Option (List ℕ)
decree_of None candidate = candidate
decree_of (Some vote) candidate = Some vote.imprint

-- the decree to begin, once a majority has counted
abbrev pub decree_now : (voters : List ℕ) (candidate : Option (List ℕ)) → Hand → Option (List ℕ)
decree_now voters candidate h = if is_majority voters h.last then decree_of h.greatest candidate else None

abbrev pub took_of : (decree : Option (List ℕ)) → Took
took_of None = Added
took_of (Some decree) = Decree decree

-- the decree, if any, is stored in the hand and returned: send BeginBallot(b, decree)
abbrev pub begun_with : VoteState → Hand → (decree : Option (List ℕ)) → VoteState × Took
begun_with s h decree = (record s { hand = Some (record h { decree = decree }) }, took_of decree)

abbrev pub on_last_of : Option Hand → VoteState → (from ballot : ℕ) (vote : Option Vote) → VoteState × Took
on_last_of None s from ballot vote = (s, Nothing)
on_last_of (Some h) s from ballot vote =
    if counts_last s.voters (Some h) from ballot
    then begun_with s (with_last h from vote) (decree_now s.voters s.candidate (with_last h from vote))
    else (s, Nothing)

unfoldable pub on_last : VoteState → (from ballot : ℕ) (vote : Option Vote) → VoteState × Took
on_last s from ballot vote = on_last_of s.hand s from ballot vote

-- BEGINBALLOT(b, d), step 4: if b is the promise and the vote, if any, is of a smaller ballot, vote (b, d) and report it by
-- Voted(b)

abbrev pub is_older : (vote : Option Vote) (ballot : ℕ) → Bool
is_older None ballot = true
is_older (Some vote) ballot = nat_lt vote.ballot ballot

unfoldable pub on_begin : VoteState → (ballot : ℕ) (decree : List ℕ) → VoteState × Bool
on_begin s ballot decree =
    if (ballot == s.promised) && is_older s.vote ballot
    then (record s { vote = Some (record { ballot = ballot; imprint = decree }) }, true)
    else (s, false)

-- VOTED(b) from a core, step 5

-- the decree that it counts for: the decree begun, if the ballot is in hand and the sender is a voter that has not counted
-- yet
abbrev pub voted_for : (voters : List ℕ) → Option Hand → (from ballot : ℕ) → Option (List ℕ)
voted_for voters None from ballot = None
voted_for voters (Some h) from ballot = if (h.ballot == ballot) && (is_voter voters from && not (is_flagged h.voted from)) then h.decree else None

-- count the sender
abbrev pub with_voted : Hand → (from : ℕ) → Hand
with_voted h from = record h { voted = slice_set h.voted from true }

-- whether the step completes a majority
abbrev pub completes : (voters : List ℕ) (before after : Hand) → Bool
completes voters before after = is_majority voters after.voted && not (is_majority voters before.voted)

-- if so, hold the decree unless one is held, and return it: send Success(decree)
abbrev pub voted_added : VoteState → (before after : Hand) (decree : List ℕ) → VoteState × Took
voted_added s before after decree =
    if completes s.voters before after
    then (record s { held = Some (unwrap_or s.held decree); hand = Some after }, Decree decree)
    else (record s { hand = Some after }, Added)

abbrev pub on_voted_for : (decree : Option (List ℕ)) → Hand → VoteState → (from : ℕ) → VoteState × Took
on_voted_for None h s from = (s, Nothing)
on_voted_for (Some decree) h s from = voted_added s h (with_voted h from) decree

abbrev pub on_voted_of : Option Hand → VoteState → (from ballot : ℕ) → VoteState × Took
on_voted_of None s from ballot = (s, Nothing)
on_voted_of (Some h) s from ballot = on_voted_for (voted_for s.voters (Some h) from ballot) h s from

unfoldable pub on_voted : VoteState → (from ballot : ℕ) → VoteState × Took
on_voted s from ballot = on_voted_of s.hand s from ballot

-- SUCCESS(d), step 6: hold d unless a decree is held

abbrev pub on_success_of : (held : Option (List ℕ)) → VoteState → (decree : List ℕ) → VoteState × Bool
on_success_of None s decree = (record s { held = Some decree }, true)
on_success_of (Some held) s decree = (s, false)

unfoldable pub on_success : VoteState → (decree : List ℕ) → VoteState × Bool
on_success s decree = on_success_of s.held s decree

-- RESTART: forget the ballot in hand; nothing else changes

abbrev pub restarted : VoteState → VoteState
restarted s = record s { hand = None }

-- MESSAGES SENT

abbrev pub promise_told : Option LastVote → Option SynodMessage
promise_told None = None
promise_told (Some last) = Some (message.LastVote last)

abbrev pub decree_begun : (ballot : ℕ) → Took → Option SynodMessage
decree_begun ballot Nothing = None
decree_begun ballot Added = None
decree_begun ballot (Decree decree) = Some (message.BeginBallot ballot decree)

abbrev pub vote_told : (ballot : ℕ) → Bool → Option SynodMessage
vote_told ballot true = Some (message.Voted ballot)
vote_told ballot false = None

abbrev pub decree_told : Took → Option SynodMessage
decree_told Nothing = None
decree_told Added = None
decree_told (Decree decree) = Some (message.Success decree)

-- the command to try a ballot
abbrev pub ballot_told : Begun → Option SynodMessage
ballot_told Unsealed = None
ballot_told Last = None
ballot_told (Next ballot) = Some (message.NextBallot ballot)

-- the command to send the decree that is held
abbrev pub held_told : (held : Option (List ℕ)) → Option SynodMessage
held_told None = None
held_told (Some held) = Some (message.Success held)

-- the step of a delivered message: the new state, and the message to send. LastVote and Voted go back to the sender,
-- BeginBallot to all voters, Success to all cores
unfoldable pub receive : VoteState → (from : ℕ) → SynodMessage → VoteState × Option SynodMessage
receive s from (message.NextBallot b) = ((on_next s b).0, promise_told (on_next s b).1)
receive s from (message.LastVote l) = ((on_last s from l.ballot l.vote).0, decree_begun l.ballot (on_last s from l.ballot l.vote).1)
receive s from (message.BeginBallot b d) = ((on_begin s b d).0, vote_told b (on_begin s b d).1)
receive s from (message.Voted b) = ((on_voted s from b).0, decree_told (on_voted s from b).1)
receive s from (message.Success d) = ((on_success s d).0, None)

-- the ballot that a message names, if any, is a valid ballot number
abbrev pub OfBallot : SynodMessage → Type 0
OfBallot (message.NextBallot b) = IsBallot b
OfBallot (message.LastVote l) = IsBallot l.ballot
OfBallot (message.BeginBallot b d) = IsBallot b
OfBallot (message.Voted b) = IsBallot b
OfBallot (message.Success d) = Unit {0}

abbrev pub OfReply : Option SynodMessage → Type 0
OfReply None = Unit {0}
OfReply (Some message) = OfBallot message
