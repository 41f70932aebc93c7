-- The stable part of a second after a step is the one before with the step's fact.
use Rattle.std.proofs.Common.{◌≡◌, ◌∙◌, ℕ, Bool, true, false, ◌&&◌, eqb, ltb, List, [], Option, Some, None, refl, sym, ap}
use Rattle.std.specs.Prelude.{◌==◌, if◌then◌else◌, is_some, option_map, unwrap_or}
use Rattle.std.proofs.lemmas.Bool.{cond_both, eqb-true}
use Rattle.ksi_aggtree.specs.declared.item.Item.{Item}
use Rattle.ksi_aggtree.specs.declared.entries.Entry.{Entry}
use Rattle.ksi_calendar.specs.Covered.{Roots, first_missing}
use Rattle.ksi_aggtree.specs.Entries.{candidate_of}
use Rattle.ksi_synod.specs.CorePlans.{CorePlanState}
use Rattle.ksi_synod.specs.declared.messages.Vote.{Vote}
use Rattle.ksi_synod.specs.declared.messages.LastVote.{LastVote}
use Rattle.ksi_synod.specs.declared.messages.SynodMessage.{SynodMessage}
use Rattle.ksi_synod.specs.declared.messages.SynodMessage.TheVariants as message
use Rattle.ksi_synod.specs.declared.messages.Begun.{Begun}
use Rattle.ksi_synod.specs.declared.messages.Took.{Took}
use Rattle.ksi_synod.specs.declared.messages.Took.TheVariants as took
use Rattle.ksi_synod.specs.VoteState.{VoteState, Hand}
use Rattle.ksi_synod.specs.Ballots.{last_round}
use Rattle.ksi_synod.specs.Rows.{seal, seal_of, greater_round, try_ballot, try_ballot_of, on_next, counts_last, on_last, on_last_of, is_older, on_begin, voted_for, with_voted, completes, on_voted, on_voted_of, on_voted_for, on_success, on_success_of, receive}
use Rattle.ksi_corenode.specs.declared.fact.What.{What}
use Rattle.ksi_corenode.specs.declared.fact.What.TheVariants as what
use Rattle.ksi_corenode.specs.declared.fact.Fact.{Fact}
use Rattle.ksi_corenode.specs.declared.step.Step.{Step}
use Rattle.ksi_corenode.specs.SecondState.{SecondState}
use Rattle.ksi_corenode.specs.Facts.{stable_state, with_what, with_stored, fact_of, with_fact, Stores}
use Rattle.ksi_corenode.specs.Turns.{Turn}
use Rattle.ksi_corenode.specs.Rows.{submission_row, seal_row, ballot_fact, ballot_row, where_news, decided_fact, receive_row, tell_row, is_mine, respond_where, respond_row}
use Rattle.ksi_corenode.specs.CoreState.{CoreState, state_of, IsTurn}

-- THE ROWS

pub submission_stores : (from : ℕ) (item : Item) (s : SecondState) → Stores s (submission_row from item s)
unfolding submission_row
submission_stores from item s = cond_both (is_some s.sealed) _ _ (λ (turn : Turn). Stores s turn) (λ _. refl) (λ _. refl)

pub seal_stores : (image : List ℕ → List ℕ) (s : SecondState) → Stores s (seal_row image s)
unfolding seal_row seal
seal_stores image s = cond_both (is_some s.sealed) _ _ (λ (turn : Turn). Stores s turn) (λ _. refl) (λ _. by s.vote.candidate)
  where
    by : (o : Option (List ℕ)) → stable_state (record { vote = seal_of o s.vote (candidate_of image s.open_items); open_items = []; sealed = Some s.open_items })
        ≡ record (stable_state s) { sealed = Some s.open_items }
    by None = refl
    by (Some candidate) = refl

-- THE VOTE

-- what is stored of the vote
abbrev Votes : SecondState → (after : VoteState) → Option What → Type 0
Votes s after fact = stable_state (record s { vote = after }) ≡ with_stored fact (stable_state s)

module _ (s : SecondState) where
  try_votes : Votes s (try_ballot s.vote).0 (ballot_fact (try_ballot s.vote).1)
  unfolding try_ballot
  try_votes = by s.vote.candidate
    where
      by : (o : Option (List ℕ)) → Votes s (try_ballot_of o s.vote).0 (ballot_fact (try_ballot_of o s.vote).1)
      by None = refl
      by (Some c) = cond_both (eqb (greater_round s.vote) last_round) _ _ (λ (r : VoteState × Begun). Votes s r.0 (ballot_fact r.1)) (λ _. refl) (λ _. refl)

  next_votes : (b : ℕ) → Votes s (on_next s.vote b).0 (where_news (is_some (on_next s.vote b).1) (what.Promised b))
  unfolding on_next
  next_votes b = cond_both (ltb s.vote.promised b) _ _ (λ (r : VoteState × Option LastVote). Votes s r.0 (where_news (is_some r.1) (what.Promised b))) (λ _. refl) (λ _. refl)

  last_votes : (from b : ℕ) (v : Option Vote) → Votes s (on_last s.vote from b v).0 None
  unfolding on_last
  last_votes from b v = by s.vote.hand
    where
      by : (o : Option Hand) → Votes s (on_last_of o s.vote from b v).0 None
      by None = refl
      by (Some h) = cond_both (counts_last s.vote.voters (Some h) from b) _ _ (λ (r : VoteState × Took). Votes s r.0 None) (λ _. refl) (λ _. refl)

  begin_votes : (b : ℕ) (d : List ℕ) → Votes s (on_begin s.vote b d).0 (where_news (on_begin s.vote b d).1 (what.Cast (record { ballot = b; imprint = d })))
  unfolding on_begin
  begin_votes b d = cond_both (eqb b s.vote.promised && is_older s.vote.vote b) _ _ (λ (r : VoteState × Bool). Votes s r.0 (where_news r.1 (what.Cast (record { ballot = b; imprint = d })))) (λ _. refl) (λ _. refl)

  voted_votes : (from b : ℕ) → Votes s (on_voted s.vote from b).0 (decided_fact s.vote.held (on_voted s.vote from b).1)
  unfolding on_voted
  voted_votes from b = by s.vote.hand
    where
      none : (o : Option (List ℕ)) → s.vote.held ≡ o → stable_state s ≡ with_stored (decided_fact o took.Nothing) (stable_state s)
      none None is = refl
      none (Some held) is = refl

      added : (h : Hand) (o : Option (List ℕ)) → Votes s (record s.vote { hand = Some h }) (decided_fact o took.Added)
      added h None = refl
      added h (Some held) = refl

      holds : (h : Hand) (d : List ℕ) (o : Option (List ℕ)) → s.vote.held ≡ o → Votes s (record s.vote { held = Some (unwrap_or o d); hand = Some h }) (decided_fact o (took.Decree d))
      holds h d None is = refl
      holds h d (Some held) is = ap (λ (o : Option (List ℕ)). record (stable_state s) { held = o }) (sym is)

      for_by : (h : Hand) (o : Option (List ℕ)) → Votes s (on_voted_for o h s.vote from).0 (decided_fact s.vote.held (on_voted_for o h s.vote from).1)
      for_by h None = none s.vote.held refl
      for_by h (Some d) = cond_both (completes s.vote.voters h (with_voted h from)) _ _ (λ (r : VoteState × Took). Votes s r.0 (decided_fact s.vote.held r.1))
          (λ _. holds (with_voted h from) d s.vote.held refl) (λ _. added (with_voted h from) s.vote.held)

      by : (o : Option Hand) → Votes s (on_voted_of o s.vote from b).0 (decided_fact s.vote.held (on_voted_of o s.vote from b).1)
      by None = none s.vote.held refl
      by (Some h) = for_by h (voted_for s.vote.voters (Some h) from b)

  success_votes : (d : List ℕ) → Votes s (on_success s.vote d).0 (where_news (on_success s.vote d).1 (what.Holds d))
  unfolding on_success
  success_votes d = by s.vote.held
    where
      by : (o : Option (List ℕ)) → Votes s (on_success_of o s.vote d).0 (where_news (on_success_of o s.vote d).1 (what.Holds d))
      by None = refl
      by (Some held) = refl

  pub ballot_stores : (plan : CorePlanState) (second me : ℕ) → Stores s (ballot_row plan second me s)
  unfolding ballot_row
  ballot_stores plan second me = try_votes

  pub receive_stores : (plan : CorePlanState) (second from : ℕ) (m : SynodMessage) → Stores s (receive_row plan second from m s)
  unfolding receive_row receive
  receive_stores plan second from (message.NextBallot b) = next_votes b
  receive_stores plan second from (message.LastVote l) = last_votes from l.ballot l.vote
  receive_stores plan second from (message.BeginBallot b d) = begin_votes b d
  receive_stores plan second from (message.Voted b) = voted_votes from b
  receive_stores plan second from (message.Success d) = success_votes d

  pub tell_stores : (plan : CorePlanState) (second me : ℕ) → Stores s (tell_row plan second me s)
  unfolding tell_row
  tell_stores plan second me = refl

  -- a response stores nothing
  pub respond_stores : (image : List ℕ → List ℕ) (held : Roots) (start second : ℕ) → Stores s (respond_row image held start second s)
  unfolding respond_row
  respond_stores image held start second = by s.sealed (first_missing held start second) (held second)
    where
      by : (sealed : Option (List Entry)) (missing : Option ℕ) (root : Option (List ℕ)) → Stores s (respond_where image held start second sealed missing root s)
      by None missing root = refl
      by (Some entries) (Some missing) root = refl
      by (Some entries) None None = refl
      by (Some entries) None (Some root) = cond_both (is_mine image entries root) _ _ (λ (turn : Turn). Stores s turn) (λ _. refl) (λ _. refl)

  pub no_fact : (image : List ℕ → List ℕ) (held : Roots) (start second : ℕ) → (respond_row image held start second s).fact ≡ None
  unfolding respond_row
  no_fact image held start second = by s.sealed (first_missing held start second) (held second)
    where
      by : (sealed : Option (List Entry)) (missing : Option ℕ) (root : Option (List ℕ)) → (respond_where image held start second sealed missing root s).fact ≡ None
      by None missing root = refl
      by (Some entries) (Some missing) root = refl
      by (Some entries) None None = refl
      by (Some entries) None (Some root) = cond_both (is_mine image entries root) _ _ (λ (turn : Turn). turn.fact ≡ None) (λ _. refl) (λ _. refl)

-- A STEP

-- what a turn stores, its step does, and no other second is another
pub turn_stores : (old new : CoreState) (second : ℕ) (turn : Turn) (step : Step) → IsTurn old new second turn step → Stores (state_of old second) turn →
    (t : ℕ) → stable_state (state_of new t) ≡ with_fact step.fact t (stable_state (state_of old t))
turn_stores old new second turn step is stores t =
    ap stable_state (is.seconds t) ∙ by turn.fact stores
    ∙ ap (λ (fact : Option Fact). with_fact fact t (stable_state (state_of old t))) (sym is.fact)
  where
    here : t == second ≡ true → stable_state (state_of old second) ≡ stable_state (state_of old t)
    here same = ap (λ (u : ℕ). stable_state (state_of old u)) (sym (eqb-true t second same))

    by : (o : Option What) → stable_state turn.after ≡ with_stored o (stable_state (state_of old second)) →
        stable_state (if t == second then turn.after else state_of old t) ≡ with_fact (option_map (fact_of second) o) t (stable_state (state_of old t))
    by None so = cond_both (t == second) turn.after (state_of old t) (λ (s : SecondState). stable_state s ≡ stable_state (state_of old t)) (λ same. so ∙ here same) (λ _. refl)
    by (Some w) so = both (t == second) refl
      where
        both : (b : Bool) → (t == second) ≡ b → stable_state (if b then turn.after else state_of old t) ≡ (if b then with_what w (stable_state (state_of old t)) else stable_state (state_of old t))
        both true same = so ∙ ap (with_what w) (here same)
        both false other = refl
