-- What every step leaves: what is held, and the candidate.
use Rattle.std.proofs.Common.{◌≡◌, ℕ, Bool, ◌&&◌, eqb, ltb, List, refl, ◌∙◌, Option, Some, None}
use Rattle.std.specs.Prelude.{unwrap_or}
use Rattle.std.proofs.lemmas.Bool.{cond_both}
use Rattle.ksi_synod.specs.declared.messages.Vote.{Vote}
use Rattle.ksi_synod.specs.declared.messages.LastVote.{LastVote}
use Rattle.ksi_synod.specs.declared.messages.SynodMessage.{SynodMessage}
use Rattle.ksi_synod.specs.declared.messages.SynodMessage.TheVariants as message
use Rattle.ksi_synod.specs.declared.messages.Begun.{Begun}
use Rattle.ksi_synod.specs.declared.messages.Took.{Took}
use Rattle.ksi_synod.specs.VoteState.{VoteState, Hand}
use Rattle.ksi_synod.specs.Ballots.{last_round}
use Rattle.ksi_synod.specs.Rows.{greater_round, try_ballot, try_ballot_of, on_next, counts_last, on_last, on_last_of, is_older, on_begin, voted_for, with_voted, completes, on_voted, on_voted_of, on_voted_for, on_success, on_success_of, receive, seal, seal_of}

pub record Stays (s s' : VoteState) : Type 0 where
  pub held : (d : List ℕ) → s.held ≡ Some d → s'.held ≡ Some d
  pub candidate : s'.candidate ≡ s.candidate

module _ (s : VoteState) where
  pub same : (s' : VoteState) → s'.held ≡ s.held → s'.candidate ≡ s.candidate → Stays s s'
  same s' h c = record { held = λ d is. h ∙ is; candidate = c }

  next_stays : (b : ℕ) → Stays s (on_next s b).0
  unfolding on_next
  next_stays b = cond_both (ltb s.promised b) _ _ (λ (r : VoteState × Option LastVote). Stays s r.0) (λ _. same _ refl refl) (λ _. same _ refl refl)

  begin_stays : (b : ℕ) (d : List ℕ) → Stays s (on_begin s b d).0
  unfolding on_begin
  begin_stays b d = cond_both (eqb b s.promised && is_older s.vote b) _ _ (λ (r : VoteState × Bool). Stays s r.0) (λ _. same _ refl refl) (λ _. same _ refl refl)

  last_stays : (from b : ℕ) (v : Option Vote) → Stays s (on_last s from b v).0
  unfolding on_last
  last_stays from b v = by s.hand
    where
      by : (o : Option Hand) → Stays s (on_last_of o s from b v).0
      by None = same _ refl refl
      by (Some h) = cond_both (counts_last s.voters (Some h) from b) _ _ (λ (r : VoteState × Took). Stays s r.0) (λ _. same _ refl refl) (λ _. same _ refl refl)

  voted_stays : (from b : ℕ) → Stays s (on_voted s from b).0
  unfolding on_voted
  voted_stays from b = by s.hand
    where
      or_stays : (o : Option (List ℕ)) (d e : List ℕ) → o ≡ Some e → Some (unwrap_or o d) ≡ Some e
      or_stays None d e is = absurd (cc is)
      or_stays (Some h) d e is = is

      for_by : (h : Hand) (o : Option (List ℕ)) → Stays s (on_voted_for o h s from).0
      for_by h None = same _ refl refl
      for_by h (Some d) = cond_both (completes s.voters h (with_voted h from)) _ _ (λ (r : VoteState × Took). Stays s r.0)
          (λ _. record { held = λ e is. or_stays s.held d e is; candidate = refl }) (λ _. same _ refl refl)

      by : (o : Option Hand) → Stays s (on_voted_of o s from b).0
      by None = same _ refl refl
      by (Some h) = for_by h (voted_for s.voters (Some h) from b)

  success_stays : (d : List ℕ) → Stays s (on_success s d).0
  unfolding on_success
  success_stays d = by s.held refl
    where
      by : (o : Option (List ℕ)) → s.held ≡ o → Stays s (on_success_of o s d).0
      by None e = record { held = λ f is. absurd (cc (e, is)); candidate = refl }
      by (Some h) e = same _ refl refl

  pub receive_stays : (from : ℕ) (m : SynodMessage) → Stays s (receive s from m).0
  unfolding receive
  receive_stays from (message.NextBallot b) = next_stays b
  receive_stays from (message.LastVote l) = last_stays from l.ballot l.vote
  receive_stays from (message.BeginBallot b d) = begin_stays b d
  receive_stays from (message.Voted b) = voted_stays from b
  receive_stays from (message.Success d) = success_stays d

  pub try_stays : Stays s (try_ballot s).0
  unfolding try_ballot
  try_stays = by s.candidate
    where
      by : (o : Option (List ℕ)) → Stays s (try_ballot_of o s).0
      by None = same _ refl refl
      by (Some c) = cond_both (eqb (greater_round s) last_round) _ _ (λ (r : VoteState × Begun). Stays s r.0) (λ _. same _ refl refl) (λ _. same _ refl refl)

  -- the event seal
  pub seal_holds : (c : List ℕ) → ((seal s c).held ≡ s.held) × ((d : List ℕ) → s.candidate ≡ Some d → (seal s c).candidate ≡ Some d)
  unfolding seal
  seal_holds c = by s.candidate refl
    where
      by : (o : Option (List ℕ)) → s.candidate ≡ o → ((seal_of o s c).held ≡ s.held) × ((d : List ℕ) → s.candidate ≡ Some d → (seal_of o s c).candidate ≡ Some d)
      by None e = (refl, λ d is. absurd (cc (e, is)))
      by (Some old) e = (refl, λ d is. is)
