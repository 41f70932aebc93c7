-- Ballots stay ballots: what is tried and promised is below 2^36, and what is sent names a ballot of a core.
use Rattle.std.proofs.Common.{◌≡◌, ℕ, ◌+◌, ◌*◌, ◌^◌, ◌<◌, Bool, ◌&&◌, eqb, ltb, List, refl, arith, Option, Some, None}
use Rattle.std.proofs.lemmas.Bool.{cond_both, eqb-false}
use Rattle.ksi_synod.specs.declared.messages.LastVote.{LastVote}
use Rattle.ksi_synod.specs.declared.messages.SynodMessage.{SynodMessage}
use Rattle.ksi_synod.specs.declared.messages.SynodMessage.TheVariants as message
use Rattle.ksi_synod.specs.declared.messages.Took.{Took}
use Rattle.ksi_synod.specs.declared.messages.Begun.{Begun}
use Rattle.ksi_synod.specs.Ballots.{IsBallot, last_round}
use Rattle.ksi_synod.specs.VoteState.{VoteState, Hand}
use Rattle.ksi_synod.specs.Rows.{OfBallot, counts_last, decree_now, with_last, took_of, is_older, voted_for, with_voted, completes, on_next, on_begin, on_last, on_last_of, on_voted, on_voted_of, on_voted_for, on_success, on_success_of, try_ballot, try_ballot_of, greater_round, next_ballot, receive, promise_told, decree_begun, vote_told, decree_told, ballot_told, held_told}
use Rattle.ksi_corenode.specs.Owners.{IsOwned, NamesOwned}
use Rattle.ksi_world.specs.Sound.{IsSmall}

-- a message, if any, names a ballot of one of so many cores, if any
abbrev pub OfCores : (cores : ℕ) → Option SynodMessage → Type 0
OfCores cores None = Unit {0}
OfCores cores (Some m) = OfBallot m × NamesOwned cores m

abbrev pub Fine : (cores : ℕ) → VoteState × Option SynodMessage → Type 0
Fine cores r = IsSmall cores r.0 × OfCores cores r.1

next_owned : (cores round me : ℕ) → me < 16 → me < cores → IsOwned cores (16 * round + me)
next_owned cores round me few there = omega arith

module _ (cores : ℕ) (s : VoteState) (small : IsSmall cores s) where
  pub as_small : (t : VoteState) → t.tried ≡ s.tried → t.promised ≡ s.promised → t.me ≡ s.me → IsSmall cores t
  as_small t a b m = record { tried = omega (arith, a, small.tried); promised = omega (arith, b, small.promised); me = omega (arith, m, small.me); there = omega (arith, m, small.there) }

  -- a ballot of one of them
  abbrev IsOne : ℕ → Type 0
  IsOne b = IsBallot b × IsOwned cores b

  fine_next : (b : ℕ) → IsOne b → Fine cores ((on_next s b).0, promise_told (on_next s b).1)
  unfolding on_next
  fine_next b is = cond_both (ltb s.promised b) _ _ (λ (r : VoteState × Option LastVote). Fine cores (r.0, promise_told r.1))
      (λ _. (record { tried = small.tried; promised = is.0.1; me = small.me; there = small.there }, is)) (λ _. (small, tt))

  fine_begin : (b : ℕ) (d : List ℕ) → IsOne b → Fine cores ((on_begin s b d).0, vote_told b (on_begin s b d).1)
  unfolding on_begin
  fine_begin b d is = cond_both (eqb b s.promised && is_older s.vote b) _ _ (λ (r : VoteState × Bool). Fine cores (r.0, vote_told b r.1))
      (λ _. (as_small _ refl refl refl, is)) (λ _. (small, tt))

  fine_took : (b : ℕ) (d : Option (List ℕ)) → IsOne b → OfCores cores (decree_begun b (took_of d))
  fine_took b None is = tt
  fine_took b (Some d) is = is

  fine_last : (from : ℕ) (l : LastVote) → IsOne l.ballot → Fine cores ((on_last s from l.ballot l.vote).0, decree_begun l.ballot (on_last s from l.ballot l.vote).1)
  unfolding on_last
  fine_last from l is = by s.hand
    where
      by : (o : Option Hand) → Fine cores ((on_last_of o s from l.ballot l.vote).0, decree_begun l.ballot (on_last_of o s from l.ballot l.vote).1)
      by None = (small, tt)
      by (Some h) = cond_both (counts_last s.voters (Some h) from l.ballot) _ _ (λ (r : VoteState × Took). Fine cores (r.0, decree_begun l.ballot r.1))
          (λ _. (as_small _ refl refl refl, fine_took l.ballot (decree_now s.voters s.candidate (with_last h from l.vote)) is))
          (λ _. (small, tt))

  fine_voted : (from b : ℕ) → Fine cores ((on_voted s from b).0, decree_told (on_voted s from b).1)
  unfolding on_voted
  fine_voted from b = by s.hand
    where
      for_by : (h : Hand) (o : Option (List ℕ)) → Fine cores ((on_voted_for o h s from).0, decree_told (on_voted_for o h s from).1)
      for_by h None = (small, tt)
      for_by h (Some d) = cond_both (completes s.voters h (with_voted h from)) _ _ (λ (r : VoteState × Took). Fine cores (r.0, decree_told r.1))
          (λ _. (as_small _ refl refl refl, (tt, tt))) (λ _. (as_small _ refl refl refl, tt))

      by : (o : Option Hand) → Fine cores ((on_voted_of o s from b).0, decree_told (on_voted_of o s from b).1)
      by None = (small, tt)
      by (Some h) = for_by h (voted_for s.voters (Some h) from b)

  fine_success : (d : List ℕ) → Fine cores ((on_success s d).0, None)
  unfolding on_success
  fine_success d = by s.held
    where
      by : (o : Option (List ℕ)) → Fine cores ((on_success_of o s d).0, None)
      by None = (as_small _ refl refl refl, tt)
      by (Some h) = (small, tt)

  pub fine_receive : (from : ℕ) (m : SynodMessage) → OfBallot m × NamesOwned cores m → Fine cores (receive s from m)
  unfolding receive
  fine_receive from (message.NextBallot b) is = fine_next b is
  fine_receive from (message.LastVote l) is = fine_last from l is
  fine_receive from (message.BeginBallot b d) is = fine_begin b d is
  fine_receive from (message.Voted b) is = fine_voted from b
  fine_receive from (message.Success d) is = fine_success d

  pub fine_try : Fine cores ((try_ballot s).0, ballot_told (try_ballot s).1)
  unfolding try_ballot
  fine_try = by s.candidate
    where
      by : (o : Option (List ℕ)) → Fine cores ((try_ballot_of o s).0, ballot_told (try_ballot_of o s).1)
      by None = (small, tt)
      by (Some c) = cond_both (eqb (greater_round s) last_round) _ _ (λ (r : VoteState × Begun). Fine cores (r.0, ballot_told r.1))
          (λ _. (small, tt))
          (λ f.
          let few : s.me < 16 = small.me in
          let tried : s.tried < 2 ^ 36 = small.tried in
          let promised : s.promised < 2 ^ 36 = small.promised in
          let ne : greater_round s ≡ last_round → ⊥ = eqb-false _ _ f in
          let is : IsBallot (next_ballot s) = (omega arith, omega (arith, small.tried, small.promised, ne)) in
          (record { tried = is.1; promised = small.promised; me = small.me; there = small.there }, (is, next_owned cores (greater_round s + 1) s.me small.me small.there)))

pub fine_held : (cores : ℕ) (o : Option (List ℕ)) → OfCores cores (held_told o)
fine_held cores None = tt
fine_held cores (Some root) = (tt, tt)
