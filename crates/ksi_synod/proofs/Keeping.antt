-- Each step keeps what always holds of the vote on one second.
use Rattle.std.proofs.Common.{◌≡◌, ℕ, ◌≤◌, List, ◌∷◌, refl, sym, ap, subst, arith, inl, inr, Option, Some}
use Rattle.ksi_synod.specs.declared.messages.Vote.{Vote}
use Rattle.ksi_synod.specs.declared.messages.LastVote.{LastVote}
use Rattle.ksi_synod.specs.declared.messages.SynodMessage.{SynodMessage}
use Rattle.ksi_synod.specs.declared.messages.SynodMessage.TheVariants as message
use Rattle.ksi_synod.specs.VoteState.{VoteState, Hand}
use Rattle.ksi_synod.specs.Reached.{Said, says, Has, there}
use Rattle.ksi_synod.proofs.Invariant.{Has-cases, BegunIn, Covers, Chosen, Keeps, LastIn, IsHand, IsVoteState, IsLast, IsSafe, IsBegin, IsMessage, Holds}

-- what a state never loses
pub record Grows (old new : VoteState) : Type 0 where
  pub promised : old.promised ≤ new.promised
  pub candidate : (d : List ℕ) → old.candidate ≡ Some d → new.candidate ≡ Some d

pub grows_refl : (s : VoteState) → Grows s s
grows_refl s = record { promised = omega arith; candidate = λ d e. e }

-- what a new message owes to its sender's state
pub record IsNew (x : Said) (j : ℕ) (s : VoteState) : Type 0 where
  pub voted : (c : ℕ) → says j (message.Voted c) ≡ x → Covers c s.vote
  pub told : (l : LastVote) → says j (message.LastVote l) ≡ x → l.ballot ≤ s.promised
  pub begun : (b : ℕ) (d : List ℕ) → says j (message.BeginBallot b d) ≡ x → (b ≤ s.tried) × (b ≡ s.tried → Keeps s.hand d)

module _ (x : Said) (said : List Said) where
  pub BegunIn-there : (b : ℕ) (d : List ℕ) → BegunIn said b d → BegunIn (x ∷ said) b d
  BegunIn-there b d r = record { by = r.by; has = there r.has }

  pub Chosen-there : (voters : List ℕ) (d : List ℕ) → Chosen voters said d → Chosen voters (x ∷ said) d
  Chosen-there voters d r = record { ballot = r.ballot; who = r.who; begun = BegunIn-there r.ballot d r.begun; most = r.most; voted = λ k yes. there (r.voted k yes) }

  pub LastIn-there : (by b : ℕ) (most : Option Vote) → LastIn said by b most → LastIn (x ∷ said) by b most
  LastIn-there by b most r = record { vote = r.vote; has = there r.has; at_most = r.at_most }

  pub IsHand-there : (me tried : ℕ) (h : Hand) → IsHand said me tried h → IsHand (x ∷ said) me tried h
  IsHand-there me tried h r = record {
    ballot = r.ballot;
    positive = r.positive;
    last = λ k yes. LastIn-there k h.ballot h.greatest (r.last k yes);
    greatest = λ v is. ((r.greatest v is).0, there (r.greatest v is).1);
    decree = λ d is. there (r.decree d is);
    voted = λ k yes. there (r.voted k yes);
  }

  -- a state stays in order when a message is said that owes it nothing
  pub IsVoteState-there : (voters : List ℕ) (j : ℕ) (s : VoteState) → IsVoteState voters said j s → IsNew x j s → IsVoteState voters (x ∷ said) j s
  IsVoteState-there voters j s r new = record {
    voters_are = r.voters_are;
    me_is = r.me_is;
    owner = r.owner;
    cast = λ v is. (BegunIn-there v.ballot v.imprint (r.cast v is).0, (r.cast v is).1);
    voted = λ c has. elim (Has-cases has) [ inl e ↦ new.voted c e | inr h ↦ r.voted c h ];
    told = λ l has. elim (Has-cases has) [ inl e ↦ new.told l e | inr h ↦ r.told l h ];
    begun = λ b d has. elim (Has-cases has) [ inl e ↦ new.begun b d e | inr h ↦ r.begun b d h ];
    in_hand = λ h is. IsHand-there j s.tried h (r.in_hand h is);
    held = λ d is. Chosen-there voters d (r.held d is);
  }

  module _ (states states' : ℕ → VoteState) (grows : (k : ℕ) → Grows (states k) (states' k)) (votes : (k c : ℕ) → says k (message.Voted c) ≡ x → (states k).promised ≤ c) where
    pub IsLast-there : (by : ℕ) (l : LastVote) → l.ballot ≤ (states by).promised → IsLast said by l → IsLast (x ∷ said) by l
    IsLast-there by l promised r = record {
      covers = λ c has lt. elim (Has-cases has) [ inl e ↦ absurd (omega (arith, votes by c e)) | inr h ↦ r.covers c h lt ];
      begun = λ v is. (BegunIn-there v.ballot v.imprint (r.begun v is).0, (r.begun v is).1);
    }

    pub IsSafe-there : (voters : List ℕ) (b : ℕ) (d : List ℕ) → IsSafe voters states said b d → IsSafe voters states' (x ∷ said) b d
    IsSafe-there voters b d r = record {
      who = r.who;
      greatest = r.greatest;
      most = r.most;
      bound = λ k yes. omega (arith, r.bound k yes, (grows k).promised);
      covers = λ k yes c has lt. elim (Has-cases has) [ inl e ↦ absurd (omega (arith, votes k c e, r.bound k yes)) | inr h ↦ r.covers k yes c h lt ];
      begun = λ v is. let p = r.begun v is in (BegunIn-there v.ballot v.imprint p.0, p.1, p.2);
    }

    pub IsBegin-there : (voters : List ℕ) (by b : ℕ) (d : List ℕ) → ((k : ℕ) (e : List ℕ) → says k (message.BeginBallot b e) ≡ x → e ≡ d) → IsBegin voters states said by b d → IsBegin voters states' (x ∷ said) by b d
    IsBegin-there voters by b d only r = record {
      owner = r.owner;
      safe = IsSafe-there voters b d r.safe;
      only = λ e begun. elim (Has-cases begun.has) [ inl is ↦ only begun.by e is | inr h ↦ r.only e (record { by = begun.by; has = h }) ];
      proposed = (r.proposed.0, (grows r.proposed.0).candidate d r.proposed.1);
    }

    pub IsMessage-there : (voters : List ℕ) (by : ℕ) (what : SynodMessage) →
        ((l : LastVote) → what ≡ message.LastVote l → l.ballot ≤ (states by).promised) →
        ((k b : ℕ) (d e : List ℕ) → what ≡ message.BeginBallot b d → says k (message.BeginBallot b e) ≡ x → e ≡ d) →
        IsMessage voters states said by what → IsMessage voters states' (x ∷ said) by what
    IsMessage-there voters by (message.NextBallot b) told only r = tt
    IsMessage-there voters by (message.LastVote l) told only r = IsLast-there by l (told l refl) r
    IsMessage-there voters by (message.BeginBallot b d) told only r = IsBegin-there voters by b d (λ k e is. only k b d e refl is) r
    IsMessage-there voters by (message.Voted b) told only r = tt
    IsMessage-there voters by (message.Success d) told only r = Chosen-there voters d r

    -- THE STEP with a message, from what it owes
    pub said_more : (voters : List ℕ) → Holds voters states said →
        ((k : ℕ) → IsVoteState voters (x ∷ said) k (states' k)) →
        ((k b : ℕ) (d e : List ℕ) → BegunIn said b d → says k (message.BeginBallot b e) ≡ x → e ≡ d) →
        ((l : LastVote) → x.what ≡ message.LastVote l → l.ballot ≤ (states x.by).promised) →
        IsMessage voters states said x.by x.what → Holds voters states' (x ∷ said)
    said_more voters ok state only told own = record {
      state = state;
      message = λ y has. elim (Has-cases has) [
        | inl e ↦ subst (λ z. IsMessage voters states' (x ∷ said) z.by z.what) (sym e)
            (IsMessage-there voters x.by x.what told (λ k b d e' is1 is2. begin_injects k b d e' x is1 is2) own)
        | inr h ↦ IsMessage-there voters y.by y.what
            (λ l is. (ok.state y.by).told l (subst (λ m. Has said (says y.by m)) is h))
            (λ k b d e' is1 is2. only k b d e' (record { by = y.by; has = subst (λ m. Has said (says y.by m)) is1 h }) is2) (ok.message y h)
      ];
    }
      where
        begin_injects : (k b : ℕ) (d e : List ℕ) (x : Said) → x.what ≡ message.BeginBallot b d → says k (message.BeginBallot b e) ≡ x → e ≡ d
        begin_injects k b d e x is1 is2 = cc (ap (λ z. z.what) is2)

-- THE STEP with no message
pub states_change : (voters : List ℕ) (states states' : ℕ → VoteState) (said : List Said) → ((k : ℕ) → Grows (states k) (states' k)) → Holds voters states said →
    ((k : ℕ) → IsVoteState voters said k (states' k)) → Holds voters states' said
states_change voters states states' said grows ok state = record { state = state; message = λ x has. of_message x.by x.what (ok.message x has) }
  where
    of_safe : (b : ℕ) (d : List ℕ) → IsSafe voters states said b d → IsSafe voters states' said b d
    of_safe b d r = record { who = r.who; greatest = r.greatest; most = r.most; bound = λ k yes. omega (arith, r.bound k yes, (grows k).promised); covers = r.covers; begun = r.begun }

    of_begin : (by b : ℕ) (d : List ℕ) → IsBegin voters states said by b d → IsBegin voters states' said by b d
    of_begin by b d r = record { owner = r.owner; safe = of_safe b d r.safe; only = r.only; proposed = (r.proposed.0, (grows r.proposed.0).candidate d r.proposed.1) }

    of_message : (by : ℕ) (what : SynodMessage) → IsMessage voters states said by what → IsMessage voters states' said by what
    of_message by (message.NextBallot b) r = tt
    of_message by (message.LastVote l) r = r
    of_message by (message.BeginBallot b d) r = of_begin by b d r
    of_message by (message.Voted b) r = tt
    of_message by (message.Success d) r = r
