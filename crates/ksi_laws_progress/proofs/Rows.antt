-- What the rows of the vote make of a core that is in the state that they ask for.
use Rattle.std.proofs.Common.{◌≡◌, ◌≢◌, ℕ, ◌<◌, Bool, true, false, not, ◌&&◌, eqb, ltb, List, refl, sym, ap, ◌∙◌, arith, Option, Some, None}
use Rattle.std.specs.Prelude.{is_none, unwrap_or}
use Rattle.std.proofs.lemmas.Bool.{cond-true, cond-false, lt-ltb, eq-eqb, ne_eqb}
use Rattle.ksi_synod.specs.declared.messages.Vote.{Vote}
use Rattle.ksi_synod.specs.declared.messages.LastVote.{LastVote}
use Rattle.ksi_synod.specs.declared.messages.SynodMessage.{SynodMessage}
use Rattle.ksi_synod.specs.declared.messages.SynodMessage.TheVariants as message
use Rattle.ksi_synod.specs.declared.messages.Begun.TheVariants.{Last, Next}
use Rattle.ksi_synod.specs.declared.messages.Took.{Took}
use Rattle.ksi_synod.specs.declared.messages.Took.TheVariants.{Nothing}
use Rattle.ksi_synod.specs.Voters.{is_voter, is_flagged}
use Rattle.ksi_synod.specs.Ballots.{last_round}
use Rattle.ksi_synod.specs.VoteState.{VoteState, Hand, new_hand, IsVoteStateOf}
use Rattle.ksi_synod.specs.Rows.{on_next, on_last, on_last_of, counts_last, with_last, decree_now, begun_with, is_older, on_begin, on_voted, on_voted_of, on_voted_for, with_voted, voted_added, on_success, on_success_of, promise_told, decree_begun, vote_told, decree_told, receive, greater_round, next_ballot, try_ballot, try_ballot_of, seal, seal_of}

and_three : (a b c : Bool) → a ≡ true → b ≡ true → c ≡ true → (a && (b && c)) ≡ true
and_three true true true is is' is'' = refl
and_three true true false is is' is'' = is''
and_three true false c is is' is'' = is'
and_three false b c is is' is'' = is

and_two : (a b : Bool) → a ≡ true → b ≡ true → (a && b) ≡ true
and_two true b is is' = is'
and_two false b is is' = is

third_false : (a b c : Bool) → b ≡ false → (a && (b && c)) ≡ false
third_false true true c is = absurd (cc is)
third_false true false c is = refl
third_false false b c is = refl

abbrev silent : VoteState → VoteState × Option SynodMessage
silent s = (s, None)

abbrev begins : (ballot : ℕ) → VoteState × Took → VoteState × Option SynodMessage
begins b r = (r.0, decree_begun b r.1)

abbrev decides : VoteState × Took → VoteState × Option SynodMessage
decides r = (r.0, decree_told r.1)

module _ (s : VoteState) (from : ℕ) where
  -- a greater ballot is promised
  pub promises : (b : ℕ) → s.promised < b → receive s from (message.NextBallot b) ≡ (record s { promised = b }, Some (message.LastVote (record { ballot = b; vote = s.vote })))
  unfolding receive on_next
  promises b greater = ap (λ (r : VoteState × Option LastVote). (r.0, promise_told r.1))
      (cond-true (ltb s.promised b) (record s { promised = b }, Some (record { ballot = b; vote = s.vote })) (s, None) (lt-ltb s.promised b greater))

  -- a vote is cast in the promised ballot
  pub casts : (b : ℕ) (d : List ℕ) → s.promised ≡ b → is_older s.vote b ≡ true → receive s from (message.BeginBallot b d) ≡ (record s { vote = Some (record { ballot = b; imprint = d }) }, Some (message.Voted b))
  unfolding receive on_begin
  casts b d promised older = ap (λ (r : VoteState × Bool). (r.0, vote_told b r.1))
      (cond-true (eqb b s.promised && is_older s.vote b) (record s { vote = Some (record { ballot = b; imprint = d }) }, true) (s, false)
      (ap (λ x. x && is_older s.vote b) (eq-eqb b s.promised (sym promised)) ∙ older))

  -- what is told is held where nothing was
  pub learns : (d : List ℕ) → receive s from (message.Success d) ≡ (record s { held = Some (unwrap_or s.held d) }, None)
  unfolding receive on_success
  learns d = by s.held refl
    where
      by : (o : Option (List ℕ)) → s.held ≡ o → silent (on_success_of o s d).0 ≡ silent (record s { held = Some (unwrap_or o d) })
      by None is = refl
      by (Some held) is = ap (λ x. silent (record s { held = x })) is

  module _ (h : Hand) (hand : s.hand ≡ Some h) where
    -- a LastVote counts
    pub counts : (v : Option Vote) → h.decree ≡ None → is_voter s.voters from ≡ true → is_flagged h.last from ≡ false →
        receive s from (message.LastVote (record { ballot = h.ballot; vote = v })) ≡ (
          (begun_with s (with_last h from v) (decree_now s.voters s.candidate (with_last h from v))).0,
          decree_begun h.ballot (begun_with s (with_last h from v) (decree_now s.voters s.candidate (with_last h from v))).1,
        )
    unfolding receive on_last
    counts v unbegun votes new =
        ap (λ o. begins h.ballot (on_last_of o s from h.ballot v)) hand
        ∙ ap (begins h.ballot) (cond-true (counts_last s.voters (Some h) from h.ballot)
        (begun_with s (with_last h from v) (decree_now s.voters s.candidate (with_last h from v))) (s, Nothing)
        (and_two _ _ (eq-eqb h.ballot h.ballot refl) (and_three _ _ _ (ap is_none unbegun) votes (ap not new))))

    -- one that comes late does not
    pub counts_no_more : (b : ℕ) (v : Option Vote) (d : List ℕ) → h.decree ≡ Some d → receive s from (message.LastVote (record { ballot = b; vote = v })) ≡ (s, None)
    unfolding receive on_last
    counts_no_more b v d begun =
        ap (λ o. begins b (on_last_of o s from b v)) hand
        ∙ ap (begins b) (cond-false (counts_last s.voters (Some h) from b)
        (begun_with s (with_last h from v) (decree_now s.voters s.candidate (with_last h from v))) (s, Nothing)
        (third_false _ _ _ (ap is_none begun)))

    -- a Voted counts
    pub counts_voted : (d : List ℕ) → h.decree ≡ Some d → is_voter s.voters from ≡ true → is_flagged h.voted from ≡ false →
        receive s from (message.Voted h.ballot) ≡ ((voted_added s h (with_voted h from) d).0, decree_told (voted_added s h (with_voted h from) d).1)
    unfolding receive on_voted
    counts_voted d begun votes new =
        ap (λ o. decides (on_voted_of o s from h.ballot)) hand
        ∙ ap (λ o. decides (on_voted_for o h s from))
        (cond-true ((eqb h.ballot h.ballot) && (is_voter s.voters from && not (is_flagged h.voted from))) h.decree None
        (and_three _ _ _ (eq-eqb h.ballot h.ballot refl) votes (ap not new)) ∙ begun)

-- a vote is of a smaller ballot than one that is beyond the promise
pub is_older_vote : (voters : List ℕ) (k : ℕ) (s : VoteState) → IsVoteStateOf voters k s → (b : ℕ) → s.promised < b → is_older s.vote b ≡ true
is_older_vote voters k s own b behind = by s.vote refl
  where
    by : (o : Option Vote) → s.vote ≡ o → is_older o b ≡ true
    by None is = refl
    by (Some v) is = lt-ltb v.ballot b (omega (arith, own.promised v is, behind))

-- SEALS AND TRIES

-- a sealed core tries its next ballot
pub tries : (s : VoteState) (c : List ℕ) → s.candidate ≡ Some c → greater_round s ≢ last_round →
    try_ballot s ≡ (record s { tried = next_ballot s; hand = Some (new_hand (next_ballot s)) }, Next (next_ballot s))
unfolding try_ballot
tries s c is more = ap (λ o. try_ballot_of o s) is
    ∙ cond-false (eqb (greater_round s) last_round) (s, Last) (record s { tried = next_ballot s; hand = Some (new_hand (next_ballot s)) }, Next (next_ballot s)) (ne_eqb (greater_round s) last_round more)

-- it is sealed after a seal
pub sealed_after : (s : VoteState) (c : List ℕ) → (d : List ℕ) × ((seal s c).candidate ≡ Some d)
unfolding seal
sealed_after s c = by s.candidate refl
  where
    by : (o : Option (List ℕ)) → s.candidate ≡ o → (d : List ℕ) × ((seal_of o s c).candidate ≡ Some d)
    by None is = (c, refl)
    by (Some d) is = (d, is)

-- a seal leaves all else
pub seal_leaves : {X : Type 0} (f : VoteState → X) → ((s : VoteState) (o : Option (List ℕ)) → f (record s { candidate = o }) ≡ f s) → (s : VoteState) (c : List ℕ) → f (seal s c) ≡ f s
unfolding seal
seal_leaves f so s c = by s.candidate
  where
    by : (o : Option (List ℕ)) → f (seal_of o s c) ≡ f s
    by None = so s (Some c)
    by (Some d) = refl

-- what is sealed is the candidate where none was
pub seal_sets : (s : VoteState) (c : List ℕ) → s.candidate ≡ None → (seal s c).candidate ≡ Some c
unfolding seal
seal_sets s c none = by s.candidate none
  where
    by : (o : Option (List ℕ)) → o ≡ None → (seal_of o s c).candidate ≡ Some c
    by None is = refl
    by (Some old) is = absurd (cc is)
