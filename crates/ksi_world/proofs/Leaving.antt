-- What a step of the vote leaves: the candidate, and what is held but for the messages that decide.
use Rattle.std.proofs.Common.{◌≡◌, ℕ, Bool, true, ◌&&◌, eqb, ltb, List, refl, sym, ap, ◌∙◌, ◌⊎◌, inl, inr, Option, Some, None}
use Rattle.std.specs.Prelude.{unwrap_or}
use Rattle.std.proofs.lemmas.Bool.{cond_both}
use Rattle.ksi_synod.specs.declared.messages.LastVote.{LastVote}
use Rattle.ksi_synod.specs.declared.messages.SynodMessage.{SynodMessage}
use Rattle.ksi_synod.specs.declared.messages.SynodMessage.TheVariants as message
use Rattle.ksi_synod.specs.declared.messages.Took.{Took}
use Rattle.ksi_synod.specs.declared.messages.Begun.{Begun}
use Rattle.ksi_synod.specs.Ballots.{last_round}
use Rattle.ksi_synod.specs.VoteState.{VoteState, Hand}
use Rattle.ksi_synod.specs.Rows.{counts_last, is_older, voted_for, with_voted, completes, on_next, on_begin, on_last, on_last_of, on_voted, on_voted_of, on_voted_for, on_success, on_success_of, try_ballot, try_ballot_of, greater_round, receive, seal, seal_of}
use Rattle.ksi_world.specs.Deciding.{decides_vote}

-- neither the candidate nor what is held changes
pub record IsQuiet (s after : VoteState) : Type 0 where
  pub candidate : after.candidate ≡ s.candidate
  pub held : after.held ≡ s.held

-- the candidate stays, and so does what is held; nothing comes to be held but by a message that decides
pub record Leaves (s : VoteState) (m : SynodMessage) (after : VoteState) : Type 0 where
  pub candidate : after.candidate ≡ s.candidate
  pub held : (d : List ℕ) → after.held ≡ Some d → (s.held ≡ Some d) ⊎ (decides_vote m ≡ true)
  pub stays : (d : List ℕ) → s.held ≡ Some d → after.held ≡ Some d

module _ (s : VoteState) where
  same : IsQuiet s s
  same = record { candidate = refl; held = refl }

  quiet_next : (b : ℕ) → IsQuiet s (on_next s b).0
  unfolding on_next
  quiet_next b = cond_both (ltb s.promised b) _ _ (λ (r : VoteState × Option LastVote). IsQuiet s r.0)
      (λ _. record { candidate = refl; held = refl }) (λ _. same)

  quiet_begin : (b : ℕ) (d : List ℕ) → IsQuiet s (on_begin s b d).0
  unfolding on_begin
  quiet_begin b d = cond_both (eqb b s.promised && is_older s.vote b) _ _ (λ (r : VoteState × Bool). IsQuiet s r.0)
      (λ _. record { candidate = refl; held = refl }) (λ _. same)

  quiet_last : (from : ℕ) (l : LastVote) → IsQuiet s (on_last s from l.ballot l.vote).0
  unfolding on_last
  quiet_last from l = by s.hand
    where
      by : (o : Option Hand) → IsQuiet s (on_last_of o s from l.ballot l.vote).0
      by None = same
      by (Some h) = cond_both (counts_last s.voters (Some h) from l.ballot) _ _ (λ (r : VoteState × Took). IsQuiet s r.0)
          (λ _. record { candidate = refl; held = refl }) (λ _. same)

  candidate_voted : (from b : ℕ) → (on_voted s from b).0.candidate ≡ s.candidate
  unfolding on_voted
  candidate_voted from b = by s.hand
    where
      for_by : (h : Hand) (o : Option (List ℕ)) → (on_voted_for o h s from).0.candidate ≡ s.candidate
      for_by h None = refl
      for_by h (Some d) = cond_both (completes s.voters h (with_voted h from)) _ _ (λ (r : VoteState × Took). r.0.candidate ≡ s.candidate)
          (λ _. refl) (λ _. refl)

      by : (o : Option Hand) → (on_voted_of o s from b).0.candidate ≡ s.candidate
      by None = refl
      by (Some h) = for_by h (voted_for s.voters (Some h) from b)

  candidate_success : (d : List ℕ) → (on_success s d).0.candidate ≡ s.candidate
  unfolding on_success
  candidate_success d = by s.held
    where
      by : (o : Option (List ℕ)) → (on_success_of o s d).0.candidate ≡ s.candidate
      by None = refl
      by (Some h) = refl

  stays_voted : (from b : ℕ) (d : List ℕ) → s.held ≡ Some d → (on_voted s from b).0.held ≡ Some d
  unfolding on_voted
  stays_voted from b d is = by s.hand
    where
      for_by : (h : Hand) (o : Option (List ℕ)) → (on_voted_for o h s from).0.held ≡ Some d
      for_by h None = is
      for_by h (Some e) = cond_both (completes s.voters h (with_voted h from)) _ _ (λ (r : VoteState × Took). r.0.held ≡ Some d)
          (λ _. ap (λ held. Some (unwrap_or held e)) is) (λ _. is)

      by : (o : Option Hand) → (on_voted_of o s from b).0.held ≡ Some d
      by None = is
      by (Some h) = for_by h (voted_for s.voters (Some h) from b)

  stays_success : (d e : List ℕ) → s.held ≡ Some e → (on_success s d).0.held ≡ Some e
  unfolding on_success
  stays_success d e is = by s.held refl
    where
      by : (o : Option (List ℕ)) → s.held ≡ o → (on_success_of o s d).0.held ≡ Some e
      by None none = absurd (cc (none, is))
      by (Some h) some = is

  leaves_quiet : (m : SynodMessage) (after : VoteState) → IsQuiet s after → Leaves s m after
  leaves_quiet m after quiet = record { candidate = quiet.candidate; held = λ d is. inl (sym quiet.held ∙ is); stays = λ d is. quiet.held ∙ is }

  -- A MESSAGE
  pub receive_leaves : (from : ℕ) (m : SynodMessage) → Leaves s m (receive s from m).0
  unfolding receive
  receive_leaves from (message.NextBallot b) = leaves_quiet (message.NextBallot b) _ (quiet_next b)
  receive_leaves from (message.LastVote l) = leaves_quiet (message.LastVote l) _ (quiet_last from l)
  receive_leaves from (message.BeginBallot b d) = leaves_quiet (message.BeginBallot b d) _ (quiet_begin b d)
  receive_leaves from (message.Voted b) = record { candidate = candidate_voted from b; held = λ d is. inr refl; stays = stays_voted from b }
  receive_leaves from (message.Success d) = record { candidate = candidate_success d; held = λ e is. inr refl; stays = stays_success d }

  -- A BALLOT
  pub try_leaves : IsQuiet s (try_ballot s).0
  unfolding try_ballot
  try_leaves = by s.candidate
    where
      by : (o : Option (List ℕ)) → IsQuiet s (try_ballot_of o s).0
      by None = same
      by (Some c) = cond_both (eqb (greater_round s) last_round) _ _ (λ (r : VoteState × Begun). IsQuiet s r.0)
          (λ _. same) (λ _. record { candidate = refl; held = refl })

  -- A SEAL
  pub seal_sets : (d : List ℕ) → s.candidate ≡ None → (seal s d).candidate ≡ Some d
  unfolding seal
  seal_sets d none = by s.candidate none
    where
      by : (o : Option (List ℕ)) → o ≡ None → (seal_of o s d).candidate ≡ Some d
      by None is = refl
      by (Some c) is = absurd (cc is)

  pub seal_holds : (d : List ℕ) → (seal s d).held ≡ s.held
  unfolding seal
  seal_holds d = by s.candidate
    where
      by : (o : Option (List ℕ)) → (seal_of o s d).held ≡ s.held
      by None = refl
      by (Some c) = refl
