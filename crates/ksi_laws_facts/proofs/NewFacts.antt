-- Each row's deeds have the facts that the row adds to what is kept.
use Rattle.std.proofs.Common.{◌<◌, length, ◌≡◌, ℕ, ◌+◌, ◌*◌, ◌/◌, ◌≤◌, Bool, true, false, cond, is_some, ◌&&◌, eqb, ltb, max, List, [], ◌∷◌, ◌++◌, map, refl, sym, ap, ◌∙◌, arith, Option, Some, None}
use Rattle.std.specs.Prelude.{unwrap_or}
use Rattle.std.proofs.lemmas.Bool.{cond_both, and_parts, le-ltb, lt-ltb, eqb-true, false≢true}
use Rattle.ksi_aggtree.specs.declared.item.Item.{Item}
use Rattle.ksi_aggtree.specs.declared.entries.Entry.{Entry}
use Rattle.ksi_aggtree.specs.Entries.{candidate_of, has_from, is_full}
use Rattle.ksi_synod.specs.declared.messages.Vote.{Vote}
use Rattle.ksi_synod.specs.declared.messages.LastVote.{LastVote}
use Rattle.ksi_synod.specs.declared.messages.SynodMessage.{SynodMessage}
use Rattle.ksi_synod.specs.declared.messages.SynodMessage.TheVariants as votes
use Rattle.ksi_synod.specs.declared.messages.Begun.{Begun}
use Rattle.ksi_synod.specs.declared.messages.Took.{Took}
use Rattle.ksi_synod.specs.declared.messages.Took.TheVariants as took
use Rattle.ksi_synod.specs.CorePlans.{CorePlanState, voters_of}
use Rattle.ksi_synod.specs.Voters.{cores_below}
use Rattle.ksi_synod.specs.Ballots.{last_round}
use Rattle.ksi_synod.specs.VoteState.{VoteState, Hand, new_hand}
use Rattle.ksi_synod.specs.Rows.{seal, seal_of, try_ballot, try_ballot_of, greater_round, next_ballot, ballot_told, on_next, on_last, on_last_of, counts_last, with_last, decree_now, is_older, on_begin, voted_for, with_voted, completes, on_voted, on_voted_of, on_voted_for, decree_told, on_success, on_success_of, receive}
use Rattle.ksi_signature.specs.declared.above.Above.{Above}
use Rattle.ksi_signature.specs.declared.answer.Answer.{Answer}
use Rattle.ksi_signature.specs.declared.answer.Answer.TheVariants as answers
use Rattle.ksi_corenode.specs.SecondState.{SecondState}
use Rattle.ksi_corenode.specs.Turns.{Turn, told, to_each}
use Rattle.ksi_corenode.specs.Rows.{submitted, submission_row, item_taken, seal_row, ballot_row, receive_row, news_answer}
use Rattle.ksi_aggregator.specs.Rows.{RoundState, RoundTurn, round_still, request_entry, round_request, round_submission, submitted_entry, round_close, closed_now, round_response, response_where}
use Rattle.ksi_schedule.specs.declared.actor.Actor.{Actor}
use Rattle.ksi_schedule.specs.declared.actor.Actor.TheVariants as actors
use Rattle.ksi_world.specs.declared.message.Content.TheVariants as contents
use Rattle.ksi_world.specs.Histories.{core_message}
use Rattle.ksi_laws_facts.specs.Deeds.{Act, Accepted, Sealed, Closed, Tried, Promised, Cast, Holds, Heard, Answered, facts_of, numbered, where_done, first, tries, decides, takes, is_actor, own}
use Rattle.ksi_laws_facts.specs.Steps.{came, rose, voted_anew, new_facts, new_round_facts}
use Rattle.ksi_laws_facts.proofs.Standing.{did}
use Rattle.ksi_laws_facts.proofs.CoreRows.{ballot_asked, held_now, root_sent}
use Rattle.ksi_laws_facts.proofs.RoundRows.{none_is}

-- WHAT STAYS ADDS NOTHING

not_below : (n : ℕ) → ltb n n ≡ false
not_below n = le-ltb n n (omega arith)

pub came_none : {A : Type 0} (fact : A → Act) (o : Option A) → came fact o o ≡ []
came_none fact None = refl
came_none fact (Some x) = refl

rose_none : (fact : ℕ → Act) (n : ℕ) → rose fact n n ≡ []
rose_none fact n = ap (λ (b : Bool). cond b (fact n ∷ []) []) (not_below n)

voted_none : (o : Option Vote) → voted_anew o o ≡ []
voted_none None = refl
voted_none (Some v) = ap (λ (b : Bool). cond b (Cast v ∷ []) []) (not_below v.ballot)

module _ (s : SecondState) where
  abbrev with_vote : VoteState → SecondState
  with_vote v = record { vote = v; open_items = s.open_items; sealed = s.sealed }

  -- the parts of what a row adds
  pub parts : (s' : SecondState) {a b c d e : List Act} → came Sealed s.sealed s'.sealed ≡ a → rose Tried s.vote.tried s'.vote.tried ≡ b → rose Promised s.vote.promised s'.vote.promised ≡ c
      → voted_anew s.vote.vote s'.vote.vote ≡ d → came Holds s.vote.held s'.vote.held ≡ e → new_facts s s' ≡ a ++ b ++ c ++ d ++ e
  parts s' e1 e2 e3 e4 e5 = λ i. e1 i ++ e2 i ++ e3 i ++ e4 i ++ e5 i

  pub sealed_stays : came Sealed s.sealed s.sealed ≡ []
  sealed_stays = came_none Sealed s.sealed

  pub tried_stays : rose Tried s.vote.tried s.vote.tried ≡ []
  tried_stays = rose_none Tried s.vote.tried

  pub promise_stays : rose Promised s.vote.promised s.vote.promised ≡ []
  promise_stays = rose_none Promised s.vote.promised

  pub vote_stays : voted_anew s.vote.vote s.vote.vote ≡ []
  vote_stays = voted_none s.vote.vote

  pub root_stays : came Holds s.vote.held s.vote.held ≡ []
  root_stays = came_none Holds s.vote.held

  -- all stays but the items that are open, and the ballot in hand
  pub all_stays : (s' : SecondState) → s'.sealed ≡ s.sealed → s'.vote.tried ≡ s.vote.tried → s'.vote.promised ≡ s.vote.promised → s'.vote.vote ≡ s.vote.vote → s'.vote.held ≡ s.vote.held → new_facts s s' ≡ []
  all_stays s' e1 e2 e3 e4 e5 = parts s' (ap (came Sealed s.sealed) e1 ∙ sealed_stays) (ap (rose Tried s.vote.tried) e2 ∙ tried_stays) (ap (rose Promised s.vote.promised) e3 ∙ promise_stays)
      (ap (voted_anew s.vote.vote) e4 ∙ vote_stays) (ap (came Holds s.vote.held) e5 ∙ root_stays)

-- A CORE'S ROWS

module _ (t : ℕ) (s : SecondState) where
  abbrev Adds : List Act → SecondState → Type 0
  Adds whats s' = facts_of (did t whats) ≡ did t (new_facts s s')

  added : (whats : List Act) (s' : SecondState) (news : List Act) → new_facts s s' ≡ news → facts_of (did t whats) ≡ did t news → Adds whats s'
  added whats s' news is same = same ∙ sym (ap (did t) is)

  still_adds : Adds [] s
  still_adds = added [] s [] (all_stays s s refl refl refl refl refl) refl

  pub submission_adds : (from : ℕ) (item : Item) → Adds (where_done (submission_row from item s).answer (Accepted (submitted from item))) (submission_row from item s).after
  unfolding submission_row
  submission_adds from item =
      cond_both (is_some s.sealed) _ _ P (λ _. still_adds)
      (λ _. cond_both (has_from from s.open_items) _ _ Q (λ _. same s.open_items [] refl)
      (λ _. cond_both (is_full s.open_items) _ _ Q (λ _. same s.open_items [] refl)
      (λ _. same (s.open_items ++ submitted from item ∷ []) (Accepted (submitted from item) ∷ []) refl)))
    where
      P : Turn → Type 0
      P turn = Adds (where_done turn.answer (Accepted (submitted from item))) turn.after

      Q : List Entry × Answer → Type 0
      Q row = P (item_taken s row)

      same : (items : List Entry) (whats : List Act) → facts_of (did t whats) ≡ [] → Adds whats (record s { open_items = items })
      same items whats none = added whats (record s { open_items = items }) [] (all_stays s (record s { open_items = items }) refl refl refl refl refl) none

  pub seal_adds : (image : List ℕ → List ℕ) → Adds (where_done (seal_row image s).answer (Sealed s.open_items)) (seal_row image s).after
  unfolding seal_row seal
  seal_adds image = cond_both (is_some s.sealed) _ _ P (λ _. still_adds) (λ none. now (none_is s.sealed none) s.vote.candidate)
    where
      P : Turn → Type 0
      P turn = Adds (where_done turn.answer (Sealed s.open_items)) turn.after

      now : s.sealed ≡ None → (o : Option (List ℕ)) → Adds (Sealed s.open_items ∷ []) (record { vote = seal_of o s.vote (candidate_of image s.open_items); open_items = []; sealed = Some s.open_items })
      now none None = added (Sealed s.open_items ∷ []) (record { vote = seal_of None s.vote (candidate_of image s.open_items); open_items = []; sealed = Some s.open_items }) (Sealed s.open_items ∷ [])
          (parts s (record { vote = seal_of None s.vote (candidate_of image s.open_items); open_items = []; sealed = Some s.open_items }) (ap (λ (o : Option (List Entry)). came Sealed o (Some s.open_items)) none) (tried_stays s) (promise_stays s) (vote_stays s) (root_stays s)) refl
      now none (Some c) = added (Sealed s.open_items ∷ []) (record { vote = s.vote; open_items = []; sealed = Some s.open_items }) (Sealed s.open_items ∷ [])
          (parts s (record { vote = s.vote; open_items = []; sealed = Some s.open_items }) (ap (λ (o : Option (List Entry)). came Sealed o (Some s.open_items)) none) (tried_stays s) (promise_stays s) (vote_stays s) (root_stays s)) refl

  -- a ballot of the next round is greater than the last one
  pub greater : (tried promised me : ℕ) → ltb tried (16 * (max (tried / 16) (promised / 16) + 1) + me) ≡ true
  greater tried promised me = lt-ltb tried (16 * (max (tried / 16) (promised / 16) + 1) + me) (omega arith)

  pub ballot_adds : (core_plan : CorePlanState) (i : ℕ) → 0 < length (voters_of core_plan t) → Adds (tries (first (map (core_message i t) (ballot_row core_plan t i s).sends))) (ballot_row core_plan t i s).after
  unfolding ballot_row try_ballot
  ballot_adds core_plan i some = by s.vote.candidate
    where
      P : VoteState × Begun → Type 0
      P r = Adds (tries (first (map (core_message i t) (told core_plan t i (ballot_told r.1))))) (with_vote s r.0)

      trying : VoteState
      trying = record s.vote { tried = next_ballot s.vote; hand = Some (new_hand (next_ballot s.vote)) }

      by : (o : Option (List ℕ)) → P (try_ballot_of o s.vote)
      by None = still_adds
      by (Some own) = cond_both (eqb (greater_round s.vote) last_round) _ _ P (λ _. still_adds)
          (λ _. added (tries (first (map (core_message i t) (to_each (voters_of core_plan t) (votes.NextBallot (next_ballot s.vote)))))) (with_vote s trying) (Tried (next_ballot s.vote) ∷ [])
          (parts s (with_vote s trying) (sealed_stays s) (ap (λ (b : Bool). cond b (Tried (next_ballot s.vote) ∷ []) []) (greater s.vote.tried s.vote.promised s.vote.me)) (promise_stays s) (vote_stays s) (root_stays s))
          (ap (λ (whats : List Act). facts_of (did t whats)) (ballot_asked (voters_of core_plan t) i t (next_ballot s.vote) some)))

  -- THE MESSAGES OF THE VOTE

  next_adds : (b : ℕ) → Adds (where_done (news_answer (is_some (on_next s.vote b).1)) (Promised b)) (with_vote s (on_next s.vote b).0)
  unfolding on_next
  next_adds b = cond_both (ltb s.vote.promised b) _ _ P
      (λ lt. added (Promised b ∷ []) (with_vote s (record s.vote { promised = b })) (Promised b ∷ [])
      (parts s (with_vote s (record s.vote { promised = b })) (sealed_stays s) (tried_stays s) (ap (λ (b' : Bool). cond b' (Promised b ∷ []) []) lt) (vote_stays s) (root_stays s)) refl)
      (λ _. still_adds)
    where
      P : VoteState × Option LastVote → Type 0
      P r = Adds (where_done (news_answer (is_some r.1)) (Promised b)) (with_vote s r.0)

  begin_adds : (b : ℕ) (d : List ℕ) → Adds (where_done (news_answer (on_begin s.vote b d).1) (Cast (record { ballot = b; imprint = d }))) (with_vote s (on_begin s.vote b d).0)
  unfolding on_begin
  begin_adds b d = cond_both (eqb b s.vote.promised && is_older s.vote.vote b) _ _ P
      (λ met. added (Cast (record { ballot = b; imprint = d }) ∷ []) (with_vote s voted) (Cast (record { ballot = b; imprint = d }) ∷ [])
      (parts s (with_vote s voted) (sealed_stays s) (tried_stays s) (promise_stays s) (ap (λ (b' : Bool). cond b' (Cast (record { ballot = b; imprint = d }) ∷ []) []) (and_parts _ _ met).1) (root_stays s)) refl)
      (λ _. still_adds)
    where
      voted : VoteState
      voted = record s.vote { vote = Some (record { ballot = b; imprint = d }) }

      P : VoteState × Bool → Type 0
      P r = Adds (where_done (news_answer r.1) (Cast (record { ballot = b; imprint = d }))) (with_vote s r.0)

  success_adds : (d : List ℕ) → Adds (where_done (news_answer (on_success s.vote d).1) (Holds d)) (with_vote s (on_success s.vote d).0)
  unfolding on_success
  success_adds d = by s.vote.held refl
    where
      by : (o : Option (List ℕ)) → s.vote.held ≡ o → Adds (where_done (news_answer (on_success_of o s.vote d).1) (Holds d)) (with_vote s (on_success_of o s.vote d).0)
      by None is = added (Holds d ∷ []) (with_vote s (record s.vote { held = Some d })) (Holds d ∷ [])
          (parts s (with_vote s (record s.vote { held = Some d })) (sealed_stays s) (tried_stays s) (promise_stays s) (vote_stays s) (ap (λ (o : Option (List ℕ)). came Holds o (Some d)) is)) refl
      by (Some held) is = still_adds

  -- a reply changes the ballot in hand alone
  abbrev in_hand : Hand → VoteState
  in_hand h = record s.vote { hand = Some h }

  heard_adds : (from : ℕ) (m : SynodMessage) (h : Hand) → Adds (Heard from m ∷ []) (with_vote s (in_hand h))
  heard_adds from m h = added (Heard from m ∷ []) (with_vote s (in_hand h)) [] (all_stays s (with_vote s (in_hand h)) refl refl refl refl refl) refl

  idle_adds : (from : ℕ) (m : SynodMessage) → Adds (Heard from m ∷ []) s
  idle_adds from m = added (Heard from m ∷ []) s [] (all_stays s s refl refl refl refl refl) refl

  last_adds : (from : ℕ) (l : LastVote) → Adds (Heard from (votes.LastVote l) ∷ []) (with_vote s (on_last s.vote from l.ballot l.vote).0)
  unfolding on_last
  last_adds from l = by s.vote.hand
    where
      P : VoteState × Took → Type 0
      P r = Adds (Heard from (votes.LastVote l) ∷ []) (with_vote s r.0)

      by : (o : Option Hand) → P (on_last_of o s.vote from l.ballot l.vote)
      by None = idle_adds from (votes.LastVote l)
      by (Some h) = cond_both (counts_last s.vote.voters (Some h) from l.ballot) _ _ P
          (λ _. heard_adds from (votes.LastVote l) (record (with_last h from l.vote) { decree = decree_now s.vote.voters s.vote.candidate (with_last h from l.vote) }))
          (λ _. idle_adds from (votes.LastVote l))

  module _ (core_plan : CorePlanState) (i : ℕ) (some : 1 ≤ core_plan.cores) where
    abbrev holding : List ℕ → Hand → VoteState
    holding d h = record s.vote { held = Some (unwrap_or s.vote.held d); hand = Some h }

    voted_adds : (from b : ℕ) → Adds (Heard from (votes.Voted b) ∷ decides (first (map (core_message i t) (told core_plan t from (decree_told (on_voted s.vote from b).1)))) s.vote.held) (with_vote s (on_voted s.vote from b).0)
    unfolding on_voted
    voted_adds from b = by s.vote.hand
      where
        P : VoteState × Took → Type 0
        P r = Adds (Heard from (votes.Voted b) ∷ decides (first (map (core_message i t) (told core_plan t from (decree_told r.1)))) s.vote.held) (with_vote s r.0)

        holds : (h : Hand) (d : List ℕ) (held : Option (List ℕ)) → s.vote.held ≡ held → came Holds s.vote.held (Some (unwrap_or s.vote.held d)) ≡ held_now d held
        holds h d None is = ap (λ (o : Option (List ℕ)). came Holds o (Some (unwrap_or o d))) is
        holds h d (Some root) is = ap (λ (o : Option (List ℕ)). came Holds o (Some (unwrap_or o d))) is

        heard_away : (d : List ℕ) (held : Option (List ℕ)) → facts_of (did t (Heard from (votes.Voted b) ∷ held_now d held)) ≡ did t (held_now d held)
        heard_away d None = refl
        heard_away d (Some root) = refl

        decided : (h : Hand) (d : List ℕ) → P (holding d h, took.Decree d)
        decided h d = added (Heard from (votes.Voted b) ∷ decides (first (map (core_message i t) (to_each (cores_below core_plan.cores) (votes.Success d)))) s.vote.held) (with_vote s (holding d h)) (held_now d s.vote.held)
            (parts s (with_vote s (holding d h)) (sealed_stays s) (tried_stays s) (promise_stays s) (vote_stays s) (holds h d s.vote.held refl))
            (ap (λ (whats : List Act). facts_of (did t (Heard from (votes.Voted b) ∷ whats))) (root_sent core_plan.cores i t d s.vote.held some) ∙ heard_away d s.vote.held)

        for_it : (h : Hand) (o : Option (List ℕ)) → P (on_voted_for o h s.vote from)
        for_it h None = idle_adds from (votes.Voted b)
        for_it h (Some d) = cond_both (completes s.vote.voters h (with_voted h from)) _ _ P (λ _. decided (with_voted h from) d) (λ _. heard_adds from (votes.Voted b) (with_voted h from))

        by : (o : Option Hand) → P (on_voted_of o s.vote from b)
        by None = idle_adds from (votes.Voted b)
        by (Some h) = for_it h (voted_for s.vote.voters (Some h) from b)

    pub receive_adds : (from : ℕ) (m : SynodMessage) → Adds (takes (actors.Core from) (contents.Synod m) (receive_row core_plan t from m s).answer (map (core_message i t) (receive_row core_plan t from m s).sends) s.vote.held) (receive_row core_plan t from m s).after
    unfolding receive_row receive
    receive_adds from (votes.NextBallot b) = next_adds b
    receive_adds from (votes.LastVote l) = last_adds from l
    receive_adds from (votes.BeginBallot b d) = begin_adds b d
    receive_adds from (votes.Voted b) = voted_adds from b
    receive_adds from (votes.Success d) = success_adds d

  pub same_adds : new_facts s s ≡ []
  same_adds = all_stays s s refl refl refl refl refl

-- AN AGGREGATOR'S ROWS

module _ (t : ℕ) (r : RoundState) where
  abbrev RoundAdds : List Act → RoundState → Type 0
  RoundAdds whats r' = facts_of (did t whats) ≡ did t (new_round_facts r r')

  pub round_stays : new_round_facts r r ≡ []
  round_stays = λ i. came_none Closed r.closed i ++ came_none Answered r.answered i

  still_round : (whats : List Act) → facts_of (did t whats) ≡ [] → RoundAdds whats r
  still_round whats none = none ∙ sym (ap (did t) round_stays)

  more : (new : Entry) → RoundAdds (Accepted new ∷ []) (record { open_items = r.open_items ++ new ∷ []; closed = r.closed; answered = r.answered })
  more new = sym (ap (did t) round_stays)

  pub request_adds : (number : ℕ) (imprint : List ℕ) (name : Option (List ℕ)) → RoundAdds (numbered imprint name (round_request number imprint name r).answer) (round_request number imprint name r).after
  unfolding round_request
  request_adds number imprint name =
      cond_both (is_some r.closed) _ _ P (λ _. still_round [] refl)
      (λ _. cond_both (is_full r.open_items) _ _ P (λ _. still_round [] refl)
      (λ _. more (request_entry number imprint name)))
    where
      P : RoundTurn → Type 0
      P turn = RoundAdds (numbered imprint name turn.answer) turn.after

  pub item_adds : (from : ℕ) (item : Item) → RoundAdds (where_done (round_submission from item r).answer (Accepted (submitted_entry from item))) (round_submission from item r).after
  unfolding round_submission
  item_adds from item =
      cond_both (is_some r.closed) _ _ P (λ _. still_round [] refl)
      (λ _. cond_both (has_from from r.open_items) _ _ P (λ _. still_round [] refl)
      (λ _. cond_both (is_full r.open_items) _ _ P (λ _. still_round [] refl)
      (λ _. more (submitted_entry from item))))
    where
      P : RoundTurn → Type 0
      P turn = RoundAdds (where_done turn.answer (Accepted (submitted_entry from item))) turn.after

  pub close_adds : (image : List ℕ → List ℕ) → RoundAdds (where_done (round_close image r).answer (Closed r.open_items)) (round_close image r).after
  unfolding round_close
  close_adds image = cond_both (is_some r.closed) (round_still r answers.Closed) (closed_now image r) P (λ _. still_round [] refl)
      (λ none. sym (ap (did t) (closes (none_is r.closed none))))
    where
      closes : r.closed ≡ None → came Closed r.closed (Some r.open_items) ++ came Answered r.answered r.answered ≡ Closed r.open_items ∷ []
      closes none = λ i. came Closed (none i) (Some r.open_items) ++ came_none Answered r.answered i

      P : RoundTurn → Type 0
      P turn = RoundAdds (where_done turn.answer (Closed r.open_items)) turn.after

  pub response_adds : (image : List ℕ → List ℕ) (above : Above) → RoundAdds (where_done (round_response image above r).answer (Answered above)) (round_response image above r).after
  unfolding round_response
  response_adds image above = by r.closed r.answered refl
    where
      P : RoundTurn → Type 0
      P turn = RoundAdds (where_done turn.answer (Answered above)) turn.after

      answers_first : r.answered ≡ None → came Closed r.closed r.closed ++ came Answered r.answered (Some above) ≡ Answered above ∷ []
      answers_first none = λ i. came_none Closed r.closed i ++ came Answered (none i) (Some above)

      by : (closed : Option (List Entry)) (answered : Option Above) → r.answered ≡ answered → P (response_where image above closed answered r)
      by None answered is = still_round [] refl
      by (Some []) answered is = still_round [] refl
      by (Some (e ∷ es)) (Some first) is = still_round [] refl
      by (Some (e ∷ es)) None is = sym (ap (did t) (answers_first is))

-- WHOSE THEY ARE

actor_is : (b a : Actor) → is_actor b a ≡ true → b ≡ a
actor_is (actors.Core j) (actors.Core i) e = ap (λ (k : ℕ). actors.Core k) (eqb-true j i e)
actor_is (actors.Aggregator j) (actors.Aggregator i) e = ap (λ (k : ℕ). actors.Aggregator k) (eqb-true j i e)
actor_is (actors.Core j) (actors.Aggregator i) e = absurd (false≢true e)
actor_is (actors.Aggregator j) (actors.Core i) e = absurd (false≢true e)

pub own_adds : (b a : Actor) (t : ℕ) (whats : Actor → List Act) (news : List Act) → facts_of (did t (whats a)) ≡ did t news → facts_of (own b a t (whats b)) ≡ own b a t news
own_adds b a t whats news same = by (is_actor b a) refl
  where
    by : (mine : Bool) → is_actor b a ≡ mine → facts_of (cond mine (did t (whats b)) []) ≡ cond mine (did t news) []
    by true e = ap (λ (c : Actor). facts_of (did t (whats c))) (actor_is b a e) ∙ same
    by false e = refl

pub none_adds : (b a : Actor) (t : ℕ) (news : List Act) → news ≡ [] → [] ≡ own b a t news
none_adds b a t news none = by (is_actor b a)
  where
    by : (mine : Bool) → [] ≡ cond mine (did t news) []
    by true = sym (ap (did t) none)
    by false = refl
