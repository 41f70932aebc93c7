-- Each step of the vote leaves ballots of the plan's cores and decrees of which something holds, and sends no others.
use Rattle.std.proofs.Common.{◌&&◌, not, Bool, ℕ, ltb, eqb, List, Option, Some, None}
use Rattle.std.specs.Prelude.{IfSome, unwrap_or}
use Rattle.std.proofs.lemmas.Bool.{cond_both}
use Rattle.ksi_synod.specs.declared.messages.Vote.{Vote}
use Rattle.ksi_synod.specs.declared.messages.LastVote.{LastVote}
use Rattle.ksi_synod.specs.declared.messages.SynodMessage.{SynodMessage}
use Rattle.ksi_synod.specs.declared.messages.SynodMessage.TheVariants as message
use Rattle.ksi_synod.specs.declared.messages.Begun.{Begun}
use Rattle.ksi_synod.specs.declared.messages.Begun.TheVariants as begun
use Rattle.ksi_synod.specs.declared.messages.Took.{Took}
use Rattle.ksi_synod.specs.Ballots.{IsBallot, last_round}
use Rattle.ksi_synod.specs.Voters.{is_majority, is_voter, is_flagged}
use Rattle.ksi_synod.specs.VoteState.{VoteState, Hand}
use Rattle.ksi_synod.specs.Rows.{seal, seal_of, try_ballot, try_ballot_of, ballot_told, held_told, greater_round, on_next, promise_told, greater_vote, decree_of, decree_now, with_last, counts_last, begun_with, on_last, on_last_of, decree_begun, is_older, on_begin, vote_told, voted_for, with_voted, completes, on_voted, on_voted_of, on_voted_for, decree_told, on_success, on_success_of, receive, restarted}
use Rattle.ksi_corenode.specs.Owners.{IsOwned}
use Rattle.ksi_world.specs.Sound.{IsSmall}
use Rattle.ksi_world.proofs.Small.{OfCores, fine_try}

module _ (P : List ℕ → Type 0) (cores : ℕ) where
  -- a ballot of one of the cores
  abbrev pub IsOne : ℕ → Type 0
  IsOne b = IsBallot b × IsOwned cores b

  abbrev pub IsCastSo : Vote → Type 0
  IsCastSo vote = IsOne vote.ballot × P vote.imprint

  abbrev pub IsSaidSo : SynodMessage → Type 0
  IsSaidSo (message.NextBallot b) = IsOne b
  IsSaidSo (message.LastVote l) = IsOne l.ballot × IfSome l.vote IsCastSo
  IsSaidSo (message.BeginBallot b d) = IsOne b × P d
  IsSaidSo (message.Voted b) = IsOne b
  IsSaidSo (message.Success d) = P d

  pub record IsHandSo (h : Hand) : Type 0 where
    pub greatest : IfSome h.greatest IsCastSo
    pub decree : IfSome h.decree P

  -- all that a core keeps of the vote
  pub record IsVoteSo (s : VoteState) : Type 0 where
    pub candidate : IfSome s.candidate P
    pub vote : IfSome s.vote IsCastSo
    pub held : IfSome s.held P
    pub hand : IfSome s.hand IsHandSo

  abbrev pub IsRowSo : VoteState × Option SynodMessage → Type 0
  IsRowSo r = IsVoteSo r.0 × IfSome r.1 IsSaidSo

  -- ---- single values

  unwrapped : (o : Option (List ℕ)) (d : List ℕ) → IfSome o P → P d → P (unwrap_or o d)
  unwrapped None d one other = other
  unwrapped (Some held) d one other = one

  greater : (old new : Option Vote) → IfSome old IsCastSo → IfSome new IsCastSo → IfSome (greater_vote old new) IsCastSo
  greater None new one other = other
  greater (Some old) None one other = one
  greater (Some old) (Some new) one other = cond_both (ltb old.ballot new.ballot) _ _ (λ (v : Option Vote). IfSome v IsCastSo) (λ _. other) (λ _. one)

  decree_is : (greatest : Option Vote) (candidate : Option (List ℕ)) → IfSome greatest IsCastSo → IfSome candidate P → IfSome (decree_of greatest candidate) P
  decree_is None candidate one other = other
  decree_is (Some vote) candidate one other = one.1

  decree_now_is : (voters : List ℕ) (candidate : Option (List ℕ)) (h : Hand) → IfSome h.greatest IsCastSo → IfSome candidate P → IfSome (decree_now voters candidate h) P
  decree_now_is voters candidate h one other = cond_both (is_majority voters h.last) _ _ (λ (o : Option (List ℕ)). IfSome o P) (λ _. decree_is h.greatest candidate one other) (λ _. tt)

  voted_for_is : (voters : List ℕ) (h : Hand) (from b : ℕ) → IfSome h.decree P → IfSome (voted_for voters (Some h) from b) P
  voted_for_is voters h from b is = cond_both (eqb h.ballot b && (is_voter voters from && not (is_flagged h.voted from))) _ _ (λ (o : Option (List ℕ)). IfSome o P) (λ _. is) (λ _. tt)

  -- ---- rows

  module _ (s : VoteState) (is : IsVoteSo s) where
    with_hand : (h : Hand) → IsHandSo h → IsVoteSo (record s { hand = Some h })
    with_hand h so = record { candidate = is.candidate; vote = is.vote; held = is.held; hand = so }

    next_so : (b : ℕ) → IsOne b → IsRowSo ((on_next s b).0, promise_told (on_next s b).1)
    unfolding on_next
    next_so b one = cond_both (ltb s.promised b) _ _ (λ (r : VoteState × Option LastVote). IsRowSo (r.0, promise_told r.1))
        (λ _. (record { candidate = is.candidate; vote = is.vote; held = is.held; hand = is.hand }, (one, is.vote))) (λ _. (is, tt))

    begin_so : (b : ℕ) (d : List ℕ) → IsOne b × P d → IsRowSo ((on_begin s b d).0, vote_told b (on_begin s b d).1)
    unfolding on_begin
    begin_so b d so = cond_both (eqb b s.promised && is_older s.vote b) _ _ (λ (r : VoteState × Bool). IsRowSo (r.0, vote_told b r.1))
        (λ _. (record { candidate = is.candidate; vote = so; held = is.held; hand = is.hand }, so.0)) (λ _. (is, tt))

    begun_so : (b : ℕ) (h : Hand) (d : Option (List ℕ)) → IsOne b → IfSome h.greatest IsCastSo → IfSome d P → IsRowSo ((begun_with s h d).0, decree_begun b (begun_with s h d).1)
    begun_so b h None one greatest so = (with_hand _ (record { greatest = greatest; decree = tt }), tt)
    begun_so b h (Some d) one greatest so = (with_hand _ (record { greatest = greatest; decree = so }), (one, so))

    last_so : (from : ℕ) (l : LastVote) → IsOne l.ballot × IfSome l.vote IsCastSo → IsRowSo ((on_last s from l.ballot l.vote).0, decree_begun l.ballot (on_last s from l.ballot l.vote).1)
    unfolding on_last
    last_so from l so = by s.hand is.hand
      where
        by : (o : Option Hand) → IfSome o IsHandSo → IsRowSo ((on_last_of o s from l.ballot l.vote).0, decree_begun l.ballot (on_last_of o s from l.ballot l.vote).1)
        by None hand = (is, tt)
        by (Some h) hand =
            let greatest = greater h.greatest l.vote hand.greatest so.1 in
            cond_both (counts_last s.voters (Some h) from l.ballot) _ _ (λ (r : VoteState × Took). IsRowSo (r.0, decree_begun l.ballot r.1))
            (λ _. begun_so l.ballot (with_last h from l.vote) (decree_now s.voters s.candidate (with_last h from l.vote)) so.0 greatest
            (decree_now_is s.voters s.candidate (with_last h from l.vote) greatest is.candidate))
            (λ _. (is, tt))

    voted_so : (from b : ℕ) → IsRowSo ((on_voted s from b).0, decree_told (on_voted s from b).1)
    unfolding on_voted
    voted_so from b = by s.hand is.hand
      where
        for_by : (h : Hand) → IsHandSo h → (o : Option (List ℕ)) → IfSome o P → IsRowSo ((on_voted_for o h s from).0, decree_told (on_voted_for o h s from).1)
        for_by h hand None so = (is, tt)
        for_by h hand (Some d) so =
            let after : IsHandSo (with_voted h from) = record { greatest = hand.greatest; decree = hand.decree } in
            cond_both (completes s.voters h (with_voted h from)) _ _ (λ (r : VoteState × Took). IsRowSo (r.0, decree_told r.1))
            (λ _. (record { candidate = is.candidate; vote = is.vote; held = unwrapped s.held d is.held so; hand = after }, so))
            (λ _. (with_hand _ after, tt))

        by : (o : Option Hand) → IfSome o IsHandSo → IsRowSo ((on_voted_of o s from b).0, decree_told (on_voted_of o s from b).1)
        by None hand = (is, tt)
        by (Some h) hand = for_by h hand (voted_for s.voters (Some h) from b) (voted_for_is s.voters h from b hand.decree)

    success_so : (d : List ℕ) → P d → IsVoteSo (on_success s d).0
    unfolding on_success
    success_so d so = by s.held
      where
        by : (o : Option (List ℕ)) → IsVoteSo (on_success_of o s d).0
        by None = record { candidate = is.candidate; vote = is.vote; held = so; hand = is.hand }
        by (Some held) = is

    pub receive_so : (from : ℕ) (m : SynodMessage) → IsSaidSo m → IsRowSo (receive s from m)
    unfolding receive
    receive_so from (message.NextBallot b) so = next_so b so
    receive_so from (message.LastVote l) so = last_so from l so
    receive_so from (message.BeginBallot b d) so = begin_so b d so
    receive_so from (message.Voted b) so = voted_so from b
    receive_so from (message.Success d) so = (success_so d so, tt)

    pub seal_so : (candidate : List ℕ) → P candidate → IsVoteSo (seal s candidate)
    unfolding seal
    seal_so candidate so = by s.candidate
      where
        by : (o : Option (List ℕ)) → IsVoteSo (seal_of o s candidate)
        by None = record { candidate = so; vote = is.vote; held = is.held; hand = is.hand }
        by (Some sealed) = is

    pub try_so : IsVoteSo (try_ballot s).0
    unfolding try_ballot
    try_so = by s.candidate
      where
        by : (o : Option (List ℕ)) → IsVoteSo (try_ballot_of o s).0
        by None = is
        by (Some c) = cond_both (eqb (greater_round s) last_round) _ _ (λ (r : VoteState × Begun). IsVoteSo r.0) (λ _. is)
            (λ _. record { candidate = is.candidate; vote = is.vote; held = is.held; hand = record { greatest = tt; decree = tt } })

    pub restart_so : IsVoteSo (restarted s)
    restart_so = record { candidate = is.candidate; vote = is.vote; held = is.held; hand = tt }

  pub held_so : (o : Option (List ℕ)) → IfSome o P → IfSome (held_told o) IsSaidSo
  held_so None is = tt
  held_so (Some held) is = is

  pub tried_so : (s : VoteState) → IsSmall cores s → IfSome (ballot_told (try_ballot s).1) IsSaidSo
  tried_so s small = by (try_ballot s).1 (fine_try cores s small).1
    where
      by : (b : Begun) → OfCores cores (ballot_told b) → IfSome (ballot_told b) IsSaidSo
      by begun.Unsealed of = tt
      by begun.Last of = tt
      by (begun.Next b) of = of
