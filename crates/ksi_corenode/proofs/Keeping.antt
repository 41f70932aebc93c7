-- No step of the vote changes the core's number, the voters, the candidate, or what is held.
use Rattle.std.proofs.Common.{◌≡◌, ◌∙◌, ℕ, Bool, ◌&&◌, eqb, ltb, List, refl, Option, Some, None}
use Rattle.std.specs.Prelude.{unwrap_or}
use Rattle.std.proofs.lemmas.Bool.{cond_both}
use Rattle.ksi_synod.specs.declared.messages.Vote.{Vote}
use Rattle.ksi_synod.specs.declared.messages.LastVote.{LastVote}
use Rattle.ksi_synod.specs.declared.messages.SynodMessage.{SynodMessage}
use Rattle.ksi_synod.specs.declared.messages.SynodMessage.TheVariants as message
use Rattle.ksi_synod.specs.declared.messages.Begun.{Begun}
use Rattle.ksi_synod.specs.declared.messages.Took.{Took}
use Rattle.ksi_synod.specs.VoteState.{VoteState, Hand}
use Rattle.ksi_corenode.specs.Kept.{Keeps}
use Rattle.ksi_synod.specs.Ballots.{last_round}
use Rattle.ksi_synod.specs.Rows.{greater_round, try_ballot, try_ballot_of, on_next, counts_last, on_last, on_last_of, is_older, on_begin, voted_for, with_voted, completes, on_voted, on_voted_of, on_voted_for, on_success, on_success_of, receive}

same : (s s' : VoteState) → s'.me ≡ s.me → s'.voters ≡ s.voters → s'.candidate ≡ s.candidate → s'.held ≡ s.held → Keeps s s'
same s s' me voters candidate held = record { me = me; voters = voters; candidate = candidate; held = λ d is. held ∙ is }

next_keeps : (s : VoteState) (b : ℕ) → Keeps s (on_next s b).0
unfolding on_next
next_keeps s b = cond_both (ltb s.promised b) _ _ (λ (r : VoteState × Option LastVote). Keeps s r.0) (λ _. same _ _ refl refl refl refl) (λ _. same _ _ refl refl refl refl)

begin_keeps : (s : VoteState) (b : ℕ) (d : List ℕ) → Keeps s (on_begin s b d).0
unfolding on_begin
begin_keeps s b d = cond_both (eqb b s.promised && is_older s.vote b) _ _ (λ (r : VoteState × Bool). Keeps s r.0) (λ _. same _ _ refl refl refl refl) (λ _. same _ _ refl refl refl refl)

last_keeps : (s : VoteState) (from b : ℕ) (v : Option Vote) → Keeps s (on_last s from b v).0
unfolding on_last
last_keeps s from b v = by s.hand
  where
    by : (o : Option Hand) → Keeps s (on_last_of o s from b v).0
    by None = same _ _ refl refl refl refl
    by (Some h) = cond_both (counts_last s.voters (Some h) from b) _ _ (λ (r : VoteState × Took). Keeps s r.0) (λ _. same _ _ refl refl refl refl) (λ _. same _ _ refl refl refl refl)

voted_keeps : (s : VoteState) (from b : ℕ) → Keeps s (on_voted s from b).0
unfolding on_voted
voted_keeps s from b = by s.hand
  where
    or_keeps : (o : Option (List ℕ)) (d e : List ℕ) → o ≡ Some e → Some (unwrap_or o d) ≡ Some e
    or_keeps None d e is = absurd (cc is)
    or_keeps (Some h) d e is = is

    for_by : (h : Hand) (o : Option (List ℕ)) → Keeps s (on_voted_for o h s from).0
    for_by h None = same _ _ refl refl refl refl
    for_by h (Some d) = cond_both (completes s.voters h (with_voted h from)) _ _ (λ (r : VoteState × Took). Keeps s r.0)
        (λ _. record { me = refl; voters = refl; candidate = refl; held = λ e is. or_keeps s.held d e is }) (λ _. same _ _ refl refl refl refl)

    by : (o : Option Hand) → Keeps s (on_voted_of o s from b).0
    by None = same _ _ refl refl refl refl
    by (Some h) = for_by h (voted_for s.voters (Some h) from b)

success_keeps : (s : VoteState) (d : List ℕ) → Keeps s (on_success s d).0
unfolding on_success
success_keeps s d = by s.held refl
  where
    by : (o : Option (List ℕ)) → s.held ≡ o → Keeps s (on_success_of o s d).0
    by None e = record { me = refl; voters = refl; candidate = refl; held = λ f is. absurd (cc (e, is)) }
    by (Some h) e = same _ _ refl refl refl refl

pub receive_keeps : (s : VoteState) (from : ℕ) (m : SynodMessage) → Keeps s (receive s from m).0
unfolding receive
receive_keeps s from (message.NextBallot b) = next_keeps s b
receive_keeps s from (message.LastVote l) = last_keeps s from l.ballot l.vote
receive_keeps s from (message.BeginBallot b d) = begin_keeps s b d
receive_keeps s from (message.Voted b) = voted_keeps s from b
receive_keeps s from (message.Success d) = success_keeps s d

pub try_keeps : (s : VoteState) → Keeps s (try_ballot s).0
unfolding try_ballot
try_keeps s = by s.candidate
  where
    by : (o : Option (List ℕ)) → Keeps s (try_ballot_of o s).0
    by None = same _ _ refl refl refl refl
    by (Some c) = cond_both (eqb (greater_round s) last_round) _ _ (λ (r : VoteState × Begun). Keeps s r.0) (λ _. same _ _ refl refl refl refl) (λ _. same _ _ refl refl refl refl)
