-- The state of a core in the vote on one second.
use Rattle.std.specs.Prelude.{◌≡◌, ◌==◌, ◌&&◌, ℕ, ◌≤◌, Bool, not, is_some, List, Option, Some, None}
use Rattle.ksi_synod.specs.declared.messages.Vote.{Vote}
use Rattle.ksi_synod.specs.Voters.{no_flags}

-- the ballot in hand: the cores whose LastVote counted, the greatest vote that they reported, the decree once it is begun,
-- and the cores whose Voted counted
pub record Hand : Type 0 where
  pub ballot : ℕ
  pub last : List Bool
  pub greatest : Option Vote
  pub decree : Option (List ℕ)
  pub voted : List Bool

-- a core's number, the voters, its candidate once it is sealed, the last ballot that it tried and the greatest that it
-- promised (0 if none), its vote of the greatest ballot, the decree that it holds, and the ballot in hand. A restart
-- forgets only the ballot in hand
pub record VoteState : Type 0 where
  pub me : ℕ
  pub voters : List ℕ
  pub candidate : Option (List ℕ)
  pub tried : ℕ
  pub promised : ℕ
  pub vote : Option Vote
  pub held : Option (List ℕ)
  pub hand : Option Hand

-- the part that survives a restart, without the core's number and the voters
pub record StableVote : Type 0 where
  pub candidate : Option (List ℕ)
  pub tried : ℕ
  pub promised : ℕ
  pub vote : Option Vote
  pub held : Option (List ℕ)

abbrev pub stable_of : VoteState → StableVote
stable_of s = record { candidate = s.candidate; tried = s.tried; promised = s.promised; vote = s.vote; held = s.held }

-- the state of a core from its stable part and its ballot in hand
abbrev pub vote_of : (me : ℕ) → (voters : List ℕ) → StableVote → (hand : Option Hand) → VoteState
vote_of me voters s hand = record { me = me; voters = voters; candidate = s.candidate; tried = s.tried; promised = s.promised; vote = s.vote; held = s.held; hand = hand }

-- the stable part before any event
abbrev pub fresh_stable : StableVote
fresh_stable = record { candidate = None; tried = 0; promised = 0; vote = None; held = None }

-- the stable part with a decree and nothing else
abbrev pub bare_stable : (decree : List ℕ) → StableVote
bare_stable decree = record { candidate = None; tried = 0; promised = 0; vote = None; held = Some decree }

-- a decree is held, and there is no vote, tried ballot or promise (a candidate may be set)
abbrev pub is_bare : StableVote → Bool
is_bare s = is_some s.held && (not (is_some s.vote) && (s.tried == 0 && s.promised == 0))

-- the state of a core before any event
unfoldable pub fresh_vote : (me : ℕ) (voters : List ℕ) → VoteState
fresh_vote me voters = record { me = me; voters = voters; candidate = None; tried = 0; promised = 0; vote = None; held = None; hand = None }

-- a ballot to which no core has replied
abbrev pub new_hand : (ballot : ℕ) → Hand
new_hand ballot = record { ballot = ballot; last = no_flags; greatest = None; decree = None; voted = no_flags }

-- the state is this core's, with these voters, and its vote, if any, is of a ballot at most its promise
pub record IsVoteStateOf (voters : List ℕ) (core : ℕ) (s : VoteState) : Type 0 where
  pub me_is : s.me ≡ core
  pub voters_are : s.voters ≡ voters
  pub promised : (v : Vote) → s.vote ≡ Some v → v.ballot ≤ s.promised
