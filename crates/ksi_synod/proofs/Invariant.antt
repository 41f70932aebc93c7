-- The vote on one second: what always holds of the states and of what was ever said.
use Rattle.std.proofs.Common.{◌≡◌, ℕ, zero, suc, ◌%◌, ◌<◌, ◌≤◌, Bool, true, List, ◌∷◌, refl, sym, subst, ◌∙◌, arith, ◌⊎◌, inl, inr, Option, Some, None}
use Rattle.std.proofs.lemmas.Bool.{cases_order}
use Rattle.ksi_synod.specs.declared.messages.Vote.{Vote}
use Rattle.ksi_synod.specs.declared.messages.LastVote.{LastVote}
use Rattle.ksi_synod.specs.declared.messages.SynodMessage.{SynodMessage}
use Rattle.ksi_synod.specs.declared.messages.SynodMessage.TheVariants as message
use Rattle.ksi_synod.specs.Voters.{is_flagged}
use Rattle.ksi_synod.specs.VoteState.{VoteState, Hand}
use Rattle.ksi_synod.specs.Reached.{Said, says, Has, here, there}
use Rattle.ksi_synod.proofs.Majorities.{IsMajority, majorities_meet}

pub Has-cases : {x y : Said} {said : List Said} → Has (x ∷ said) y → (y ≡ x) ⊎ Has said y
Has-cases here = inl refl
Has-cases (there h) = inr h

-- somebody began this ballot with this decree
pub record BegunIn (said : List Said) (ballot : ℕ) (decree : List ℕ) : Type 0 where
  pub by : ℕ
  pub has : Has said (says by (message.BeginBallot ballot decree))

-- the vote is of this ballot or a later one
abbrev pub Covers : ℕ → Option Vote → Type 0
Covers ballot None = ⊥
Covers ballot (Some vote) = ballot ≤ vote.ballot

-- a majority voted for the decree in one ballot
pub record Chosen (voters : List ℕ) (said : List Said) (decree : List ℕ) : Type 0 where
  pub ballot : ℕ
  pub who : ℕ → Bool
  pub begun : BegunIn said ballot decree
  pub most : IsMajority voters who
  pub voted : (x : ℕ) → who x ≡ true → Has said (says x (message.Voted ballot))

-- the first vote is none, or covered by the second
abbrev pub AtMost : Option Vote → Option Vote → Type 0
AtMost None most = Unit {0}
AtMost (Some vote) most = Covers vote.ballot most

-- the hand has begun this decree, or is gone
abbrev pub Keeps : Option Hand → List ℕ → Type 0
Keeps None decree = Unit {0}
Keeps (Some h) decree = h.decree ≡ Some decree

pub record LastIn (said : List Said) (by ballot : ℕ) (most : Option Vote) : Type 0 where
  pub vote : Option Vote
  pub has : Has said (says by (message.LastVote (record { ballot = ballot; vote = vote })))
  pub at_most : AtMost vote most

pub record IsHand (said : List Said) (me tried : ℕ) (h : Hand) : Type 0 where
  pub ballot : h.ballot ≡ tried
  pub positive : 0 < tried
  pub last : (x : ℕ) → is_flagged h.last x ≡ true → LastIn said x h.ballot h.greatest
  pub greatest : (v : Vote) → h.greatest ≡ Some v → (x : ℕ) × Has said (says x (message.LastVote (record { ballot = h.ballot; vote = Some v })))
  pub decree : (d : List ℕ) → h.decree ≡ Some d → Has said (says me (message.BeginBallot h.ballot d))
  pub voted : (x : ℕ) → is_flagged h.voted x ≡ true → Has said (says x (message.Voted h.ballot))

-- what holds of a core's state
pub record IsVoteState (voters : List ℕ) (said : List Said) (j : ℕ) (s : VoteState) : Type 0 where
  pub voters_are : s.voters ≡ voters
  pub me_is : s.me ≡ j
  pub owner : 0 < s.tried → s.tried % 16 ≡ j
  pub cast : (v : Vote) → s.vote ≡ Some v → BegunIn said v.ballot v.imprint × (v.ballot ≤ s.promised)
  pub voted : (c : ℕ) → Has said (says j (message.Voted c)) → Covers c s.vote
  pub told : (l : LastVote) → Has said (says j (message.LastVote l)) → l.ballot ≤ s.promised
  pub begun : (b : ℕ) (d : List ℕ) → Has said (says j (message.BeginBallot b d)) → (b ≤ s.tried) × (b ≡ s.tried → Keeps s.hand d)
  pub in_hand : (h : Hand) → s.hand ≡ Some h → IsHand said j s.tried h
  pub held : (d : List ℕ) → s.held ≡ Some d → Chosen voters said d

-- what a LastVote tells is all that its sender voted below the ballot
pub record IsLast (said : List Said) (by : ℕ) (l : LastVote) : Type 0 where
  pub covers : (c : ℕ) → Has said (says by (message.Voted c)) → c < l.ballot → Covers c l.vote
  pub begun : (v : Vote) → l.vote ≡ Some v → BegunIn said v.ballot v.imprint × (v.ballot < l.ballot)

-- a majority is bound not to vote below the ballot any more, and the decree is that of the greatest vote that it cast
pub record IsSafe (voters : List ℕ) (states : ℕ → VoteState) (said : List Said) (b : ℕ) (d : List ℕ) : Type 0 where
  pub who : ℕ → Bool
  pub greatest : Option Vote
  pub most : IsMajority voters who
  pub bound : (x : ℕ) → who x ≡ true → b ≤ (states x).promised
  pub covers : (x : ℕ) → who x ≡ true → (c : ℕ) → Has said (says x (message.Voted c)) → c < b → Covers c greatest
  pub begun : (v : Vote) → greatest ≡ Some v → BegunIn said v.ballot v.imprint × (v.ballot < b) × (d ≡ v.imprint)

pub record IsBegin (voters : List ℕ) (states : ℕ → VoteState) (said : List Said) (by b : ℕ) (d : List ℕ) : Type 0 where
  pub owner : b % 16 ≡ by
  pub safe : IsSafe voters states said b d
  pub only : (e : List ℕ) → BegunIn said b e → e ≡ d
  pub proposed : (j : ℕ) × ((states j).candidate ≡ Some d)

-- what holds of a message
abbrev pub IsMessage : List ℕ → (ℕ → VoteState) → List Said → ℕ → SynodMessage → Type 0
IsMessage voters states said by (message.NextBallot b) = Unit {0}
IsMessage voters states said by (message.LastVote l) = IsLast said by l
IsMessage voters states said by (message.BeginBallot b d) = IsBegin voters states said by b d
IsMessage voters states said by (message.Voted b) = Unit {0}
IsMessage voters states said by (message.Success d) = Chosen voters said d

-- what always holds
pub record Holds (voters : List ℕ) (states : ℕ → VoteState) (said : List Said) : Type 0 where
  pub state : (j : ℕ) → IsVoteState voters said j (states j)
  pub message : (x : Said) → Has said x → IsMessage voters states said x.by x.what

-- AGREEMENT from what always holds

module _ (voters : List ℕ) (states : ℕ → VoteState) (said : List Said) (ok : Holds voters states said) where
  begin_ok : (b : ℕ) (d : List ℕ) (begun : BegunIn said b d) → IsBegin voters states said begun.by b d
  begin_ok b d begun = ok.message _ begun.has

  -- a ballot has one decree
  one_decree : (b : ℕ) (d e : List ℕ) → BegunIn said b d → BegunIn said b e → d ≡ e
  one_decree b d e first second = (begin_ok b e second).only d first

  -- what `later_same` says below n
  abbrev SameBelow : ℕ → Type 0
  SameBelow n = (b : ℕ) → b < n → (d : List ℕ) → BegunIn said b d → (e : List ℕ) (chosen : Chosen voters said e) → chosen.ballot < b → d ≡ e

  -- by where the ballot of the greatest vote lies
  same_by_vote : (n b : ℕ) (d e : List ℕ) (v : Vote) (chosen : Chosen voters said e) → SameBelow n → b < suc n → BegunIn said v.ballot v.imprint → v.ballot < b → d ≡ v.imprint → chosen.ballot ≤ v.ballot → d ≡ e
  same_by_vote n b d e v chosen below lt vote_begun lower same reached =
      elim (cases_order chosen.ballot v.ballot) [
        | inl at ↦ same ∙ one_decree v.ballot v.imprint e vote_begun (subst (λ k. BegunIn said k e) at chosen.begun)
        | inr (inl above) ↦ same ∙ below v.ballot (omega arith) v.imprint vote_begun e chosen above
        | inr (inr under) ↦ absurd (omega arith)
      ]

  same_by_greatest : (n b : ℕ) (d e : List ℕ) (chosen : Chosen voters said e) → SameBelow n → b < suc n → (g : Option Vote) → Covers chosen.ballot g → ((v : Vote) → g ≡ Some v → BegunIn said v.ballot v.imprint × (v.ballot < b) × (d ≡ v.imprint)) → d ≡ e
  same_by_greatest n b d e chosen below lt None covered begun = absurd covered
  same_by_greatest n b d e chosen below lt (Some v) covered begun =
      let parts = begun v refl in same_by_vote n b d e v chosen below lt parts.0 parts.1 parts.2 covered

  -- a decree that is begun above a ballot in which a majority voted for e is e
  later_same : (n : ℕ) → SameBelow n
  later_same zero b lt d begun e chosen below = absurd (omega arith)
  later_same (suc n) b lt d begun e chosen below =
      let safe : IsSafe voters states said b d = (begin_ok b d begun).safe in
      let shared = majorities_meet voters safe.who chosen.who safe.most chosen.most in
      same_by_greatest n b d e chosen (later_same n) lt safe.greatest
      (safe.covers shared.0 shared.2 chosen.ballot (chosen.voted shared.0 shared.3) below) safe.begun

  -- what two majorities voted for is the same
  pub one_chosen : (d e : List ℕ) → Chosen voters said d → Chosen voters said e → d ≡ e
  one_chosen d e first second =
      elim (cases_order first.ballot second.ballot) [
        | inl at ↦ one_decree second.ballot d e (subst (λ k. BegunIn said k d) at first.begun) second.begun
        | inr (inl below) ↦ sym (later_same (suc second.ballot) second.ballot (omega arith) e second.begun d first below)
        | inr (inr above) ↦ later_same (suc first.ballot) first.ballot (omega arith) d first.begun e second above
      ]

  -- AGREEMENT: two cores that hold a root hold the same
  pub same_held : (i j : ℕ) (d e : List ℕ) → (states i).held ≡ Some d → (states j).held ≡ Some e → d ≡ e
  same_held i j d e holds_d holds_e = one_chosen d e ((ok.state i).held d holds_d) ((ok.state j).held e holds_e)

  -- VALIDITY: a held root is some core's candidate
  pub held_proposed : (i : ℕ) (d : List ℕ) → (states i).held ≡ Some d → (j : ℕ) × ((states j).candidate ≡ Some d)
  held_proposed i d holds = let chosen = (ok.state i).held d holds in (begin_ok chosen.ballot d chosen.begun).proposed
