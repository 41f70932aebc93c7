-- Each row leaves a core's state its own: its number and voters stay, and its vote is of no ballot beyond its promise.
use Rattle.std.proofs.Common.{◌≡◌, ℕ, ◌≤◌, Bool, ◌&&◌, eqb, ltb, List, refl, sym, ap, ◌∙◌, arith, Option, Some, None}
use Rattle.std.proofs.lemmas.Bool.{cond_both, ltb-true, eqb-true, and_parts}
use Rattle.ksi_synod.specs.declared.messages.Vote.{Vote}
use Rattle.ksi_synod.specs.declared.messages.LastVote.{LastVote}
use Rattle.ksi_synod.specs.declared.messages.SynodMessage.{SynodMessage}
use Rattle.ksi_synod.specs.declared.messages.SynodMessage.TheVariants as message
use Rattle.ksi_synod.specs.declared.messages.Begun.{Begun}
use Rattle.ksi_synod.specs.declared.messages.Took.{Took}
use Rattle.ksi_synod.specs.Ballots.{last_round}
use Rattle.ksi_synod.specs.VoteState.{VoteState, Hand, fresh_vote, IsVoteStateOf}
use Rattle.ksi_synod.specs.Rows.{greater_round, try_ballot, try_ballot_of, on_next, counts_last, on_last, on_last_of, is_older, on_begin, voted_for, with_voted, completes, on_voted, on_voted_of, on_voted_for, on_success, on_success_of, receive, restarted, seal, seal_of}
use Rattle.ksi_synod.proofs.Staying.{receive_stays, try_stays}

pub fresh_own : (voters : List ℕ) (core : ℕ) → IsVoteStateOf voters core (fresh_vote core voters)
unfolding fresh_vote
fresh_own voters core = record { me_is = refl; voters_are = refl; promised = λ v at. absurd (cc at) }

module _ (voters : List ℕ) (core : ℕ) (s : VoteState) (own : IsVoteStateOf voters core s) where
  abbrev Own : VoteState → Type 0
  Own s' = IsVoteStateOf voters core s'

  same : (s' : VoteState) → s'.me ≡ s.me → s'.voters ≡ s.voters → s'.vote ≡ s.vote → s'.promised ≡ s.promised → Own s'
  same s' me voters vote promised = record { me_is = me ∙ own.me_is; voters_are = voters ∙ own.voters_are; promised = λ v at. omega (arith, own.promised v (sym vote ∙ at), promised) }

  pub seal_own : (candidate : List ℕ) → Own (seal s candidate)
  unfolding seal
  seal_own candidate = by s.candidate
    where
      by : (o : Option (List ℕ)) → Own (seal_of o s candidate)
      by None = same _ refl refl refl refl
      by (Some old) = own

  pub restart_own : Own (restarted s)
  restart_own = same _ refl refl refl refl

  try_own : Own (try_ballot s).0
  unfolding try_ballot
  try_own = by s.candidate
    where
      by : (o : Option (List ℕ)) → Own (try_ballot_of o s).0
      by None = own
      by (Some c) = cond_both (eqb (greater_round s) last_round) _ _ (λ (r : VoteState × Begun). Own r.0) (λ _. own) (λ _. same _ refl refl refl refl)

  next_own : (b : ℕ) → Own (on_next s b).0
  unfolding on_next
  next_own b = cond_both (ltb s.promised b) _ _ (λ (r : VoteState × Option LastVote). Own r.0)
      (λ above. record { me_is = own.me_is; voters_are = own.voters_are; promised = λ v at. omega (arith, own.promised v at, ltb-true s.promised b above) })
      (λ _. own)

  begin_own : (b : ℕ) (d : List ℕ) → Own (on_begin s b d).0
  unfolding on_begin
  begin_own b d = cond_both (eqb b s.promised && is_older s.vote b) _ _ (λ (r : VoteState × Bool). Own r.0)
      (λ both. record { me_is = own.me_is; voters_are = own.voters_are; promised = λ v at. cast_is v (cc at) (eqb-true b s.promised (and_parts _ _ both).0) })
      (λ _. own)
    where
      cast_is : (v : Vote) → v ≡ record { ballot = b; imprint = d } → b ≡ s.promised → v.ballot ≤ s.promised
      cast_is v at is = omega (arith, ap (λ (v : Vote). v.ballot) at, is)

  last_own : (from b : ℕ) (v : Option Vote) → Own (on_last s from b v).0
  unfolding on_last
  last_own from b v = by s.hand
    where
      by : (o : Option Hand) → Own (on_last_of o s from b v).0
      by None = own
      by (Some h) = cond_both (counts_last s.voters (Some h) from b) _ _ (λ (r : VoteState × Took). Own r.0) (λ _. same _ refl refl refl refl) (λ _. own)

  voted_own : (from b : ℕ) → Own (on_voted s from b).0
  unfolding on_voted
  voted_own from b = by s.hand
    where
      for_by : (h : Hand) (o : Option (List ℕ)) → Own (on_voted_for o h s from).0
      for_by h None = own
      for_by h (Some d) = cond_both (completes s.voters h (with_voted h from)) _ _ (λ (r : VoteState × Took). Own r.0) (λ _. same _ refl refl refl refl) (λ _. same _ refl refl refl refl)

      by : (o : Option Hand) → Own (on_voted_of o s from b).0
      by None = own
      by (Some h) = for_by h (voted_for s.voters (Some h) from b)

  success_own : (d : List ℕ) → Own (on_success s d).0
  unfolding on_success
  success_own d = by s.held
    where
      by : (o : Option (List ℕ)) → Own (on_success_of o s d).0
      by None = same _ refl refl refl refl
      by (Some h) = own

  receive_own : (from : ℕ) (m : SynodMessage) → Own (receive s from m).0
  unfolding receive
  receive_own from (message.NextBallot b) = next_own b
  receive_own from (message.LastVote l) = last_own from l.ballot l.vote
  receive_own from (message.BeginBallot b d) = begin_own b d
  receive_own from (message.Voted b) = voted_own from b
  receive_own from (message.Success d) = success_own d

  pub ballot_keeps : Own (try_ballot s).0 × ((try_ballot s).0.candidate ≡ s.candidate)
  ballot_keeps = (try_own, (try_stays s).candidate)

  pub message_keeps : (from : ℕ) (m : SynodMessage) → Own (receive s from m).0 × ((receive s from m).0.candidate ≡ s.candidate)
  message_keeps from m = (receive_own from m, (receive_stays s from m).candidate)
