-- The facts that a row adds are what its turn stores: what is stored is new.
use Rattle.std.proofs.Common.{◌≡◌, ℕ, Bool, true, false, is_some, ◌&&◌, eqb, ltb, List, [], ◌∷◌, ◌++◌, refl, sym, ap, ◌∙◌, Option, Some, None}
use Rattle.std.specs.Prelude.{◌==◌, if◌then◌else◌, option_map}
use Rattle.std.proofs.lemmas.Bool.{cond_both, and_parts, eqb-true}
use Rattle.ksi_aggtree.specs.declared.item.Item.{Item}
use Rattle.ksi_aggtree.specs.declared.entries.Entry.{Entry}
use Rattle.ksi_aggtree.specs.Entries.{has_from, is_full}
use Rattle.ksi_calendar.specs.Covered.{Roots, first_missing}
use Rattle.ksi_synod.specs.declared.messages.LastVote.{LastVote}
use Rattle.ksi_synod.specs.declared.messages.SynodMessage.{SynodMessage}
use Rattle.ksi_synod.specs.declared.messages.SynodMessage.TheVariants as votes
use Rattle.ksi_synod.specs.declared.messages.Begun.{Begun}
use Rattle.ksi_synod.specs.declared.messages.Took.{Took}
use Rattle.ksi_synod.specs.declared.messages.Took.TheVariants as took
use Rattle.ksi_synod.specs.CorePlans.{CorePlanState}
use Rattle.ksi_synod.specs.Ballots.{last_round}
use Rattle.ksi_synod.specs.VoteState.{VoteState}
use Rattle.ksi_synod.specs.Rows.{try_ballot, try_ballot_of, greater_round, on_next, is_older, on_begin, on_voted, on_success, on_success_of}
use Rattle.ksi_signature.specs.declared.above.Above.{Above}
use Rattle.ksi_corenode.specs.declared.fact.What.{What}
use Rattle.ksi_corenode.specs.declared.fact.What.TheVariants as whats
use Rattle.ksi_corenode.specs.declared.fact.Fact as core
use Rattle.ksi_corenode.specs.declared.step.Step as core_step
use Rattle.ksi_corenode.specs.SecondState.{SecondState}
use Rattle.ksi_corenode.specs.Turns.{Turn}
use Rattle.ksi_corenode.specs.Rows.{submission_row, seal_row, ballot_fact, ballot_row, where_news, decided_fact, receive_row, tell_row, is_mine, respond_where, respond_row}
use Rattle.ksi_corenode.specs.Facts.{StableState, stable_state, with_stored}
use Rattle.ksi_corenode.specs.Facts as facts
use Rattle.ksi_corenode.specs.CoreState as cores
use Rattle.ksi_corenode.specs.CoreState.{CoreState, state_of}
use Rattle.ksi_aggregator.specs.declared.fact.RoundFact.{RoundFact}
use Rattle.ksi_aggregator.specs.declared.fact.Fact as round
use Rattle.ksi_aggregator.specs.declared.step.Step as round_step
use Rattle.ksi_aggregator.specs.Rows.{RoundState, RoundTurn, round_request, round_submission, round_close, response_where, round_response}
use Rattle.ksi_aggregator.specs.Rounds as rounds
use Rattle.ksi_laws_facts.specs.Deeds.{Sealed, Closed, Tried, Promised, Cast, Holds, Answered}
use Rattle.ksi_laws_facts.specs.Steps.{came, rose, voted_anew, new_facts, new_round_facts}
use Rattle.ksi_laws_facts.specs.Stored.{core_act, core_acts, round_act, round_acts, core_stores, round_stores, AddsStored, RoundAddsStored}
use Rattle.ksi_laws_facts.proofs.RoundRows.{none_is}
use Rattle.ksi_laws_facts.proofs.NewFacts.{parts, sealed_stays, tried_stays, promise_stays, vote_stays, root_stays, all_stays, same_adds, greater, came_none, round_stays}

-- A CORE'S ROWS

module _ (s : SecondState) where
  -- what is stored is new: the items where none were sealed, a greater ballot, a vote of a greater one, a root where none was held
  abbrev IsNewFact : Option What → Type 0
  IsNewFact None = Unit {0}
  IsNewFact (Some (whats.Sealed items)) = s.sealed ≡ None
  IsNewFact (Some (whats.Tried ballot)) = ltb s.vote.tried ballot ≡ true
  IsNewFact (Some (whats.Promised ballot)) = ltb s.vote.promised ballot ≡ true
  IsNewFact (Some (whats.Cast vote)) = is_older s.vote.vote vote.ballot ≡ true
  IsNewFact (Some (whats.Holds root)) = s.vote.held ≡ None

  -- a new fact is what is added
  adds_new : (s' : SecondState) (fact : Option What) → stable_state s' ≡ with_stored fact (stable_state s) → IsNewFact fact → new_facts s s' ≡ core_acts fact
  adds_new s' fact so is = by fact so is
    where
      by : (o : Option What) → stable_state s' ≡ with_stored o (stable_state s) → IsNewFact o → new_facts s s' ≡ core_acts o
      by None so is = all_stays s s' (ap (λ (z : StableState). z.sealed) so) (ap (λ (z : StableState). z.tried) so) (ap (λ (z : StableState). z.promised) so) (ap (λ (z : StableState). z.vote) so) (ap (λ (z : StableState). z.held) so)
      by (Some (whats.Sealed items)) so none = parts s s'
          (ap (λ (z : StableState). came Sealed s.sealed z.sealed) so ∙ ap (λ (o : Option (List Entry)). came Sealed o (Some items)) none)
          (ap (λ (z : StableState). rose Tried s.vote.tried z.tried) so ∙ tried_stays s) (ap (λ (z : StableState). rose Promised s.vote.promised z.promised) so ∙ promise_stays s)
          (ap (λ (z : StableState). voted_anew s.vote.vote z.vote) so ∙ vote_stays s) (ap (λ (z : StableState). came Holds s.vote.held z.held) so ∙ root_stays s)
      by (Some (whats.Tried ballot)) so more = parts s s'
          (ap (λ (z : StableState). came Sealed s.sealed z.sealed) so ∙ sealed_stays s)
          (ap (λ (z : StableState). rose Tried s.vote.tried z.tried) so ∙ ap (λ (b : Bool). if b then Tried ballot ∷ [] else []) more) (ap (λ (z : StableState). rose Promised s.vote.promised z.promised) so ∙ promise_stays s)
          (ap (λ (z : StableState). voted_anew s.vote.vote z.vote) so ∙ vote_stays s) (ap (λ (z : StableState). came Holds s.vote.held z.held) so ∙ root_stays s)
      by (Some (whats.Promised ballot)) so more = parts s s'
          (ap (λ (z : StableState). came Sealed s.sealed z.sealed) so ∙ sealed_stays s)
          (ap (λ (z : StableState). rose Tried s.vote.tried z.tried) so ∙ tried_stays s) (ap (λ (z : StableState). rose Promised s.vote.promised z.promised) so ∙ ap (λ (b : Bool). if b then Promised ballot ∷ [] else []) more)
          (ap (λ (z : StableState). voted_anew s.vote.vote z.vote) so ∙ vote_stays s) (ap (λ (z : StableState). came Holds s.vote.held z.held) so ∙ root_stays s)
      by (Some (whats.Cast vote)) so older = parts s s'
          (ap (λ (z : StableState). came Sealed s.sealed z.sealed) so ∙ sealed_stays s)
          (ap (λ (z : StableState). rose Tried s.vote.tried z.tried) so ∙ tried_stays s) (ap (λ (z : StableState). rose Promised s.vote.promised z.promised) so ∙ promise_stays s)
          (ap (λ (z : StableState). voted_anew s.vote.vote z.vote) so ∙ ap (λ (b : Bool). if b then Cast vote ∷ [] else []) older) (ap (λ (z : StableState). came Holds s.vote.held z.held) so ∙ root_stays s)
      by (Some (whats.Holds root)) so none = parts s s'
          (ap (λ (z : StableState). came Sealed s.sealed z.sealed) so ∙ sealed_stays s)
          (ap (λ (z : StableState). rose Tried s.vote.tried z.tried) so ∙ tried_stays s) (ap (λ (z : StableState). rose Promised s.vote.promised z.promised) so ∙ promise_stays s)
          (ap (λ (z : StableState). voted_anew s.vote.vote z.vote) so ∙ vote_stays s) (ap (λ (z : StableState). came Holds s.vote.held z.held) so ∙ ap (λ (o : Option (List ℕ)). came Holds o (Some root)) none)

  pub adds_stored : (turn : Turn) → facts.Stores s turn → IsNewFact turn.fact → AddsStored s turn
  adds_stored turn stores is = adds_new turn.after turn.fact stores is

  pub submission_new : (from : ℕ) (item : Item) → IsNewFact (submission_row from item s).fact
  unfolding submission_row
  submission_new from item = cond_both (is_some s.sealed) _ _ (λ (turn : Turn). IsNewFact turn.fact) (λ _. tt) (λ _. tt)

  pub seal_new : (image : List ℕ → List ℕ) → IsNewFact (seal_row image s).fact
  unfolding seal_row
  seal_new image = cond_both (is_some s.sealed) _ _ (λ (turn : Turn). IsNewFact turn.fact) (λ _. tt) (λ none. none_is s.sealed none)

  pub ballot_new : (plan : CorePlanState) (second me : ℕ) → IsNewFact (ballot_row plan second me s).fact
  unfolding ballot_row try_ballot
  ballot_new plan second me = by s.vote.candidate
    where
      by : (o : Option (List ℕ)) → IsNewFact (ballot_fact (try_ballot_of o s.vote).1)
      by None = tt
      by (Some own) = cond_both (eqb (greater_round s.vote) last_round) _ _ (λ (r : VoteState × Begun). IsNewFact (ballot_fact r.1)) (λ _. tt) (λ _. greater 0 s s.vote.tried s.vote.promised s.vote.me)

  next_new : (b : ℕ) → IsNewFact (where_news (is_some (on_next s.vote b).1) (whats.Promised b))
  unfolding on_next
  next_new b = cond_both (ltb s.vote.promised b) _ _ (λ (r : VoteState × Option LastVote). IsNewFact (where_news (is_some r.1) (whats.Promised b))) (λ lt. lt) (λ _. tt)

  begin_new : (b : ℕ) (d : List ℕ) → IsNewFact (where_news (on_begin s.vote b d).1 (whats.Cast (record { ballot = b; imprint = d })))
  unfolding on_begin
  begin_new b d = cond_both (eqb b s.vote.promised && is_older s.vote.vote b) _ _ (λ (r : VoteState × Bool). IsNewFact (where_news r.1 (whats.Cast (record { ballot = b; imprint = d })))) (λ met. (and_parts _ _ met).1) (λ _. tt)

  decided_new : (o : Option (List ℕ)) (k : Took) → s.vote.held ≡ o → IsNewFact (decided_fact o k)
  decided_new None took.Nothing none = tt
  decided_new None took.Added none = tt
  decided_new None (took.Decree d) none = none
  decided_new (Some held) took.Nothing is = tt
  decided_new (Some held) took.Added is = tt
  decided_new (Some held) (took.Decree d) is = tt

  success_new : (d : List ℕ) → IsNewFact (where_news (on_success s.vote d).1 (whats.Holds d))
  unfolding on_success
  success_new d = by s.vote.held refl
    where
      by : (o : Option (List ℕ)) → s.vote.held ≡ o → IsNewFact (where_news (on_success_of o s.vote d).1 (whats.Holds d))
      by None none = none
      by (Some held) is = tt

  pub receive_new : (plan : CorePlanState) (second from : ℕ) (m : SynodMessage) → IsNewFact (receive_row plan second from m s).fact
  unfolding receive_row
  receive_new plan second from (votes.NextBallot b) = next_new b
  receive_new plan second from (votes.LastVote l) = tt
  receive_new plan second from (votes.BeginBallot b d) = begin_new b d
  receive_new plan second from (votes.Voted b) = decided_new s.vote.held (on_voted s.vote from b).1 refl
  receive_new plan second from (votes.Success d) = success_new d

  pub tell_new : (plan : CorePlanState) (second me : ℕ) → IsNewFact (tell_row plan second me s).fact
  unfolding tell_row
  tell_new plan second me = tt

  pub respond_new : (image : List ℕ → List ℕ) (held : Roots) (start second : ℕ) → IsNewFact (respond_row image held start second s).fact
  unfolding respond_row
  respond_new image held start second = by s.sealed (first_missing held start second) (held second)
    where
      by : (sealed : Option (List Entry)) (missing : Option ℕ) (root : Option (List ℕ)) → IsNewFact (respond_where image held start second sealed missing root s).fact
      by None missing root = tt
      by (Some entries) (Some missing) root = tt
      by (Some entries) None None = tt
      by (Some entries) None (Some root) = cond_both (is_mine image entries root) _ _ (λ (turn : Turn). IsNewFact turn.fact) (λ _. tt) (λ _. tt)

-- a step of a core adds what it stores
pub core_steps_add : (old new : CoreState) (second : ℕ) (turn : Turn) (step : core_step.Step) → cores.IsTurn old new second turn step → AddsStored (state_of old second) turn →
    (t : ℕ) → new_facts (state_of old t) (state_of new t) ≡ core_stores step.fact t
core_steps_add old new second turn step is adds t =
    ap (λ (s : SecondState). new_facts (state_of old t) s) (is.seconds t) ∙ by turn.fact adds
    ∙ ap (λ (fact : Option core.Fact). core_stores fact t) (sym is.fact)
  where
    here : t == second ≡ true → new_facts (state_of old t) turn.after ≡ new_facts (state_of old second) turn.after
    here same = ap (λ (u : ℕ). new_facts (state_of old u) turn.after) (eqb-true t second same)

    by : (o : Option What) → new_facts (state_of old second) turn.after ≡ core_acts o →
        new_facts (state_of old t) (if t == second then turn.after else state_of old t) ≡ core_stores (option_map (facts.fact_of second) o) t
    by None so = cond_both (t == second) turn.after (state_of old t) (λ (s : SecondState). new_facts (state_of old t) s ≡ []) (λ same. here same ∙ so) (λ _. same_adds t (state_of old t))
    by (Some w) so = both (t == second) refl
      where
        both : (b : Bool) → (t == second) ≡ b → new_facts (state_of old t) (if b then turn.after else state_of old t) ≡ (if b then core_act w ∷ [] else [])
        both true same = here same ∙ so
        both false other = same_adds t (state_of old t)

-- AN AGGREGATOR'S ROWS

module _ (r : RoundState) where
  still_stored : new_round_facts r r ≡ []
  still_stored = round_stays 0 r

  pub request_stored : (number : ℕ) (imprint : List ℕ) (name : Option (List ℕ)) → RoundAddsStored r (round_request number imprint name r)
  unfolding round_request
  request_stored number imprint name =
      cond_both (is_some r.closed) _ _ (RoundAddsStored r) (λ _. still_stored) (λ _. cond_both (is_full r.open_items) _ _ (RoundAddsStored r) (λ _. still_stored) (λ _. still_stored))

  pub submission_stored : (from : ℕ) (item : Item) → RoundAddsStored r (round_submission from item r)
  unfolding round_submission
  submission_stored from item =
      cond_both (is_some r.closed) _ _ (RoundAddsStored r) (λ _. still_stored) (λ _. cond_both (has_from from r.open_items) _ _ (RoundAddsStored r) (λ _. still_stored)
      (λ _. cond_both (is_full r.open_items) _ _ (RoundAddsStored r) (λ _. still_stored) (λ _. still_stored)))

  pub close_stored : (image : List ℕ → List ℕ) → RoundAddsStored r (round_close image r)
  unfolding round_close
  close_stored image = cond_both (is_some r.closed) _ _ (RoundAddsStored r) (λ _. still_stored) (λ none. closes (none_is r.closed none))
    where
      closes : r.closed ≡ None → came Closed r.closed (Some r.open_items) ++ came Answered r.answered r.answered ≡ Closed r.open_items ∷ []
      closes none = λ i. came Closed (none i) (Some r.open_items) ++ came_none Answered r.answered i

  pub response_stored : (image : List ℕ → List ℕ) (above : Above) → RoundAddsStored r (round_response image above r)
  unfolding round_response
  response_stored image above = by r.closed r.answered refl
    where
      answers_first : r.answered ≡ None → came Closed r.closed r.closed ++ came Answered r.answered (Some above) ≡ Answered above ∷ []
      answers_first none = λ i. came_none Closed r.closed i ++ came Answered (none i) (Some above)

      by : (closed : Option (List Entry)) (answered : Option Above) → r.answered ≡ answered → RoundAddsStored r (response_where image above closed answered r)
      by None answered is = still_stored
      by (Some []) answered is = still_stored
      by (Some (e ∷ es)) (Some first) is = still_stored
      by (Some (e ∷ es)) None none = answers_first none

-- a step of an aggregator adds what it stores
pub round_steps_add : (old new : ℕ → RoundState) (second : ℕ) (turn : RoundTurn) (step : round_step.Step) → rounds.IsTurn old new second turn step → RoundAddsStored (old second) turn →
    (t : ℕ) → new_round_facts (old t) (new t) ≡ round_stores step.fact t
round_steps_add old new second turn step is adds t =
    ap (λ (r : RoundState). new_round_facts (old t) r) (is.after t) ∙ by turn.fact adds
    ∙ ap (λ (fact : Option round.Fact). round_stores fact t) (sym is.fact)
  where
    here : t == second ≡ true → new_round_facts (old t) turn.after ≡ new_round_facts (old second) turn.after
    here same = ap (λ (u : ℕ). new_round_facts (old u) turn.after) (eqb-true t second same)

    by : (o : Option RoundFact) → new_round_facts (old second) turn.after ≡ round_acts o →
        new_round_facts (old t) (if t == second then turn.after else old t) ≡ round_stores (option_map (rounds.fact_of second) o) t
    by None so = cond_both (t == second) turn.after (old t) (λ (r : RoundState). new_round_facts (old t) r ≡ []) (λ same. here same ∙ so) (λ _. round_stays 0 (old t))
    by (Some w) so = both (t == second) refl
      where
        both : (b : Bool) → (t == second) ≡ b → new_round_facts (old t) (if b then turn.after else old t) ≡ (if b then round_act w ∷ [] else [])
        both true same = here same ∙ so
        both false other = round_stays 0 (old t)
