-- Whatever happens, what always holds of the world goes on to hold.
use Rattle.ksi_schedule.specs.Plans.{core_plan_of}
use Rattle.std.proofs.Common.{◌≡◌, ℕ, suc, ◌<◌, ◌≤◌, true, ◌&&◌, eqb, List, [], ◌∷◌, ◌++◌, length, refl, sym, subst, arith, is_some, Option, Some, None, length-append, lit<}
use Rattle.std.specs.Prelude.{slice_get, map}
use Rattle.std.proofs.lemmas.Bool.{cond_both, eqb-true, and_parts}
use Rattle.ksi_aggtree.specs.declared.item.Item.{Item}
use Rattle.ksi_aggtree.specs.declared.entries.Entry.{Entry}
use Rattle.ksi_aggtree.specs.Entries.{items_of, has_from, is_full, candidate_of}
use Rattle.ksi_synod.specs.declared.messages.SynodMessage.{SynodMessage}
use Rattle.ksi_synod.specs.VoteState.{VoteState, fresh_vote}
use Rattle.ksi_synod.specs.Rows.{seal, seal_of, sealed_with, try_ballot, ballot_told, receive, held_told, restarted}
use Rattle.ksi_signature.specs.declared.above.Above.{Above}
use Rattle.ksi_signature.specs.declared.answer.Answer.{Answer}
use Rattle.ksi_signature.specs.declared.answer.Answer.TheVariants as answers
use Rattle.ksi_corenode.specs.SecondState.{SecondState, fresh_second}
use Rattle.ksi_corenode.specs.Turns.{Turn, still}
use Rattle.ksi_calendar.specs.Covered.{Roots, first_missing, covered_seconds}
use Rattle.ksi_corenode.specs.Rows.{submission_row, submitted, item_taken, seal_row, sealed_now, ballot_row, receive_row, tell_row, respond_row, respond_where, responded, above_item, is_mine, restart_row}
use Rattle.ksi_aggregator.specs.Responses.{responses}
use Rattle.ksi_aggregator.specs.Rows.{RoundState, RoundTurn, fresh_round, round_still, round_added, closed_now, answered_now, request_entry, submitted_entry, round_request, round_submission, round_close, round_response, response_where, round_restarted, submission_of}
use Rattle.ksi_schedule.specs.declared.actor.Actor.{Actor}
use Rattle.ksi_schedule.specs.declared.actor.Actor.TheVariants as actors
use Rattle.ksi_world.specs.declared.outcome.Asked.{Asked}
use Rattle.ksi_schedule.specs.declared.event.Event.{Event}
use Rattle.ksi_schedule.specs.declared.event.Event.TheVariants as events
use Rattle.ksi_world.specs.declared.message.Content.{Content}
use Rattle.ksi_world.specs.declared.message.Content.TheVariants as contents
use Rattle.ksi_world.specs.declared.message.Message.{Message}
use Rattle.ksi_schedule.specs.Plans.{PlanState, IsPlan, InRange}
use Rattle.ksi_world.specs.Histories.{WorldState, core_message, round_message, at_core, at_round, accepted_where, delivered, happens, held_in, first_world}
use Rattle.ksi_schedule.specs.Events.{IsEvent}
use Rattle.ksi_world.specs.Histories as histories
use Rattle.ksi_world.specs.Sound.{depth_of, IsSmall, IsSent, AreOf, IsRoundAt, IsRoundState, IsSound}
use Rattle.ksi_world.proofs.Small.{fine_receive, fine_try, fine_held, as_small}
use Rattle.ksi_world.proofs.Depths.{core_parent, aggregator_parent}
use Rattle.ksi_world.proofs.Sending.{TreeRises, both_posts, FineSends, fine_told, core_posts, FineOuts, round_posts, are_more, are_push, round_more, no_round, round_push, request_push, tree_low, core_responses, round_responses}

module _ (image : List ℕ → List ℕ) (plan : PlanState) (is : IsPlan plan) (rises : TreeRises image) where
  -- A TURN OF A CORE

  -- what the second of a core always is
  record IsSecond (j accepted : ℕ) (s : SecondState) : Type 0 where
    small : IsSmall plan.cores s.vote
    open_items : AreOf plan (actors.Core j) accepted s.open_items
    sealed : (entries : List Entry) → s.sealed ≡ Some entries → AreOf plan (actors.Core j) accepted entries

  second_of : (w : WorldState) (j t : ℕ) → j < plan.cores → IsSound plan w → IsSecond j (length w.requests) (w.seconds j t)
  second_of w j t lt sound = record { small = sound.small j t lt; open_items = sound.open_items j t; sealed = sound.sealed j t }

  core_sound : (w : WorldState) (j t : ℕ) (turn : Turn) → j < plan.cores → InRange plan t → IsSecond j (length w.requests) turn.after → FineSends plan j turn.sends → IsSound plan w → IsSound plan (at_core w j t turn).world
  core_sound w j t turn lt range second fine sound = record {
    small = λ i u i_lt. cond_both (eqb i j && eqb u t) turn.after (w.seconds i u) (λ s. IsSmall plan.cores s.vote) (λ _. second.small) (λ _. sound.small i u i_lt);
    open_items = λ i u. cond_both (eqb i j && eqb u t) turn.after (w.seconds i u) (λ s. AreOf plan (actors.Core i) (length w.requests) s.open_items)
        (λ here. subst (λ i. AreOf plan (actors.Core i) (length w.requests) turn.after.open_items) (sym (same i u here)) second.open_items) (λ _. sound.open_items i u);
    sealed = λ i u. cond_both (eqb i j && eqb u t) turn.after (w.seconds i u) (λ s. (entries : List Entry) → s.sealed ≡ Some entries → AreOf plan (actors.Core i) (length w.requests) entries)
        (λ here. subst (λ i. (entries : List Entry) → turn.after.sealed ≡ Some entries → AreOf plan (actors.Core i) (length w.requests) entries) (sym (same i u here)) second.sealed) (λ _. sound.sealed i u);
    rounds = sound.rounds;
    wire = both_posts plan w.wire (map (core_message j t) turn.sends) sound.wire (core_posts plan j t turn.sends lt range fine);
  }
    where
      same : (i u : ℕ) → (eqb i j && eqb u t) ≡ true → i ≡ j
      same i u here = eqb-true i j (and_parts (eqb i j) (eqb u t) here).0

  -- nothing changes
  still_sound : (w : WorldState) (j t : ℕ) (answer : Answer) → j < plan.cores → InRange plan t → IsSound plan w → IsSound plan (at_core w j t (still (w.seconds j t) answer)).world
  still_sound w j t answer lt range sound = core_sound w j t (still (w.seconds j t) answer) lt range (second_of w j t lt sound) tt sound

  submission_sound : (w : WorldState) (j t from : ℕ) (item : Item) → j < plan.cores → InRange plan t → IsSent plan (actors.Aggregator from) (actors.Core j) (contents.Submission item) → IsSound plan w → IsSound plan (at_core w j t (submission_row from item (w.seconds j t))).world
  unfolding submission_row
  submission_sound w j t from item lt range sent sound =
      let s = w.seconds j t in
      let old = second_of w j t lt sound in
      cond_both (is_some s.sealed) _ _ (λ turn. IsSound plan (at_core w j t turn).world) (λ _. still_sound w j t answers.Late lt range sound)
      (λ _. cond_both (has_from from s.open_items) _ _ (λ row. IsSound plan (at_core w j t (item_taken s row)).world) (λ _. core_sound w j t (item_taken s (s.open_items, answers.Known)) lt range (record { small = old.small; open_items = old.open_items; sealed = old.sealed }) tt sound)
      (λ _. cond_both (is_full s.open_items) _ _ (λ row. IsSound plan (at_core w j t (item_taken s row)).world) (λ _. core_sound w j t (item_taken s (s.open_items, answers.Full)) lt range (record { small = old.small; open_items = old.open_items; sealed = old.sealed }) tt sound)
      (λ _. core_sound w j t (item_taken s (s.open_items ++ submitted from item ∷ [], answers.Done)) lt range (record { small = old.small; open_items = are_push plan (actors.Core j) (length w.requests) s.open_items (submitted from item) old.open_items sent; sealed = old.sealed }) tt sound)))

  seal_small : (v : VoteState) (d : List ℕ) → IsSmall plan.cores v → IsSmall plan.cores (seal v d)
  unfolding seal
  seal_small v d small = by v.candidate
    where
      by : (o : Option (List ℕ)) → IsSmall plan.cores (seal_of o v d)
      by None = as_small plan.cores v small (sealed_with v d) refl refl refl
      by (Some c) = small

  seal_sound : (w : WorldState) (j t : ℕ) → j < plan.cores → InRange plan t → IsSound plan w → IsSound plan (at_core w j t (seal_row image (w.seconds j t))).world
  unfolding seal_row
  seal_sound w j t lt range sound =
      let s = w.seconds j t in
      let old = second_of w j t lt sound in
      cond_both (is_some s.sealed) _ _ (λ turn. IsSound plan (at_core w j t turn).world) (λ _. still_sound w j t answers.Sealed lt range sound)
      (λ _. core_sound w j t (sealed_now image s) lt range (record { small = seal_small s.vote (candidate_of image s.open_items) old.small; open_items = tt; sealed = λ entries at. let same : s.open_items ≡ entries = cc at in subst (λ es. AreOf plan (actors.Core j) (length w.requests) es) same old.open_items }) tt sound)

  ballot_sound : (w : WorldState) (j t : ℕ) → j < plan.cores → InRange plan t → IsSound plan w → IsSound plan (at_core w j t (ballot_row (core_plan_of plan) t j (w.seconds j t))).world
  unfolding ballot_row
  ballot_sound w j t lt range sound =
      let s = w.seconds j t in
      let old = second_of w j t lt sound in
      let fine = fine_try plan.cores s.vote old.small in
      core_sound w j t (ballot_row (core_plan_of plan) t j s) lt range (record { small = fine.0; open_items = old.open_items; sealed = old.sealed }) (fine_told plan is.core_plan j t j (ballot_told (try_ballot s.vote).1) lt fine.1) sound

  receive_sound : (w : WorldState) (j t from : ℕ) (m : SynodMessage) → InRange plan t → IsSent plan (actors.Core from) (actors.Core j) (contents.Synod m) → IsSound plan w → IsSound plan (at_core w j t (receive_row (core_plan_of plan) t from m (w.seconds j t))).world
  unfolding receive_row
  receive_sound w j t from m range sent sound =
      let s = w.seconds j t in
      let old = second_of w j t sent.1 sound in
      let fine = fine_receive plan.cores s.vote old.small from m (sent.2, sent.3) in
      core_sound w j t (receive_row (core_plan_of plan) t from m s) sent.1 range (record { small = fine.0; open_items = old.open_items; sealed = old.sealed }) (fine_told plan is.core_plan j t from (receive s.vote from m).1 sent.0 fine.1) sound

  tell_sound : (w : WorldState) (j t : ℕ) → j < plan.cores → InRange plan t → IsSound plan w → IsSound plan (at_core w j t (tell_row (core_plan_of plan) t j (w.seconds j t))).world
  unfolding tell_row
  tell_sound w j t lt range sound =
      let s = w.seconds j t in
      let old = second_of w j t lt sound in
      core_sound w j t (tell_row (core_plan_of plan) t j s) lt range (record { small = old.small; open_items = old.open_items; sealed = old.sealed }) (fine_told plan is.core_plan j t j (held_told s.vote.held) lt (fine_held plan.cores s.vote.held)) sound

  respond_sound : (w : WorldState) (j t : ℕ) (held : Roots) → j < plan.cores → InRange plan t → IsSound plan w → IsSound plan (at_core w j t (respond_row image held plan.start t (w.seconds j t))).world
  unfolding respond_row
  respond_sound w j t held lt range sound = by s.sealed refl (first_missing held plan.start t) (held t)
    where
      s : SecondState
      s = w.seconds j t

      old : IsSecond j (length w.requests) s
      old = second_of w j t lt sound

      by : (sealed : Option (List Entry)) → s.sealed ≡ sealed → (missing : Option ℕ) (root : Option (List ℕ)) → IsSound plan (at_core w j t (respond_where image held plan.start t sealed missing root s)).world
      by None at missing root = still_sound w j t answers.Unsealed lt range sound
      by (Some entries) at (Some missing) root = still_sound w j t (answers.Undecided missing) lt range sound
      by (Some entries) at None None = still_sound w j t (answers.Undecided t) lt range sound
      by (Some entries) at None (Some root) = cond_both (is_mine image entries root) _ _ (λ turn. IsSound plan (at_core w j t turn).world)
          (λ _. core_sound w j t (responded image held plan.start t entries root s) lt range old (core_responses plan is j (length w.requests) 0 (above_item image (covered_seconds held plan.start t) t root (items_of entries)) entries (λ i. omega arith) (old.sealed entries at)) sound)
          (λ _. still_sound w j t answers.NotMine lt range sound)

  -- A TURN OF AN AGGREGATOR

  round_sound : (w : WorldState) (requests : List Asked) (k t : ℕ) (turn : RoundTurn) → length w.requests ≤ length requests → k < length plan.parents → InRange plan t →
      IsRoundState plan k (length requests) turn.after → FineOuts plan k turn.sends → IsSound plan w → IsSound plan (record (at_round plan w k t turn).world { requests = requests })
  round_sound w requests k t turn le lt range round fine sound = record {
    small = sound.small;
    open_items = λ j u. are_more plan (actors.Core j) (length w.requests) (length requests) (w.seconds j u).open_items le (sound.open_items j u);
    sealed = λ j u entries at. are_more plan (actors.Core j) (length w.requests) (length requests) entries le (sound.sealed j u entries at);
    rounds = λ i u. cond_both (eqb i k && eqb u t) turn.after (w.rounds i u) (λ r. IsRoundState plan i (length requests) r)
        (λ here. subst (λ i. IsRoundState plan i (length requests) turn.after) (sym (eqb-true i k (and_parts (eqb i k) (eqb u t) here).0)) round) (λ _. state_more i u);
    wire = both_posts plan w.wire (map (round_message plan k t) turn.sends) sound.wire (round_posts plan k t turn.sends lt range fine);
  }
    where
      state_more : (i u : ℕ) → IsRoundState plan i (length requests) (w.rounds i u)
      state_more i u = let r = sound.rounds i u in record {
        open_items = round_more plan (actors.Aggregator i) (length w.requests) (length requests) (w.rounds i u).open_items le r.open_items;
        closed = λ entries at. round_more plan (actors.Aggregator i) (length w.requests) (length requests) entries le (r.closed entries at);
      }

  -- a turn that accepts no request
  plain_sound : (w : WorldState) (k t : ℕ) (turn : RoundTurn) → k < length plan.parents → InRange plan t → IsRoundState plan k (length w.requests) turn.after → FineOuts plan k turn.sends → IsSound plan w → IsSound plan (at_round plan w k t turn).world
  plain_sound w k t turn lt range round fine sound = round_sound w w.requests k t turn (omega arith) lt range round fine sound

  -- nothing changes
  stays_sound : (w : WorldState) (k t : ℕ) (answer : Answer) → k < length plan.parents → InRange plan t → IsSound plan w → IsSound plan (at_round plan w k t (round_still (w.rounds k t) answer)).world
  stays_sound w k t answer lt range sound = plain_sound w k t (round_still (w.rounds k t) answer) lt range (sound.rounds k t) tt sound

  request_sound : (w : WorldState) (k t : ℕ) (imprint : List ℕ) (name : Option (List ℕ)) → k < length plan.parents → InRange plan t → IsSound plan w → IsSound plan (histories.request_happens plan w k t imprint name).world
  unfolding round_request
  request_sound w k t imprint name lt range sound = cond_both (is_some r.closed) _ _ (λ turn. Goes turn) (λ _. stays_sound w k t answers.Late lt range sound)
      (λ _. cond_both (is_full r.open_items) _ _ (λ turn. Goes turn) (λ _. stays_sound w k t answers.Full lt range sound)
      (λ room. round_sound w (w.requests ++ asked ∷ []) k t (round_added r (request_entry (length w.requests) imprint name) (answers.Number (length w.requests))) (omega (arith, more)) lt range (record {
        open_items = subst (λ n. IsRoundAt plan (actors.Aggregator k) n (r.open_items ++ request_entry (length w.requests) imprint name ∷ [])) (sym more) (request_push plan (actors.Aggregator k) (length w.requests) r.open_items imprint name old.open_items room);
        closed = λ entries at. round_more plan (actors.Aggregator k) (length w.requests) (length (w.requests ++ asked ∷ [])) entries (omega (arith, more)) (old.closed entries at);
      }) tt sound))
    where
      r : RoundState
      r = w.rounds k t

      old : IsRoundState plan k (length w.requests) r
      old = sound.rounds k t

      asked : Asked
      asked = record { aggregator = k; second = t; imprint = imprint }

      more : length (w.requests ++ asked ∷ []) ≡ suc (length w.requests)
      more = omega (arith, length-append w.requests (asked ∷ []))

      Goes : RoundTurn → Type 0
      Goes turn = IsSound plan (accepted_where asked (at_round plan w k t turn)).world

  take_sound : (w : WorldState) (k t from : ℕ) (item : Item) → k < length plan.parents → InRange plan t → IsSent plan (actors.Aggregator from) (actors.Aggregator k) (contents.Submission item) → IsSound plan w → IsSound plan (at_round plan w k t (round_submission from item (w.rounds k t))).world
  unfolding round_submission
  take_sound w k t from item lt range sent sound =
      let r = w.rounds k t in
      let old = sound.rounds k t in
      cond_both (is_some r.closed) _ _ (λ turn. IsSound plan (at_round plan w k t turn).world) (λ _. stays_sound w k t answers.Late lt range sound)
      (λ _. cond_both (has_from from r.open_items) _ _ (λ turn. IsSound plan (at_round plan w k t turn).world) (λ _. stays_sound w k t answers.Known lt range sound)
      (λ none. cond_both (is_full r.open_items) _ _ (λ turn. IsSound plan (at_round plan w k t turn).world) (λ _. stays_sound w k t answers.Full lt range sound)
      (λ room. plain_sound w k t (round_added r (submitted_entry from item) answers.Done) lt range (record { open_items = round_push plan (actors.Aggregator k) (length w.requests) r.open_items from item old.open_items none room sent; closed = old.closed }) tt sound)))

  close_sound : (w : WorldState) (k t : ℕ) → k < length plan.parents → InRange plan t → IsSound plan w → IsSound plan (at_round plan w k t (round_close image (w.rounds k t))).world
  unfolding round_close
  close_sound w k t lt range sound =
      let r = w.rounds k t in
      let old = sound.rounds k t in
      cond_both (is_some r.closed) _ _ (λ turn. IsSound plan (at_round plan w k t turn).world) (λ _. stays_sound w k t answers.Closed lt range sound)
      (λ _. plain_sound w k t (closed_now image r) lt range (record { open_items = no_round plan (actors.Aggregator k) (length w.requests); closed = λ entries at. let same : r.open_items ≡ entries = cc at in subst (λ es. IsRoundAt plan (actors.Aggregator k) (length w.requests) es) same old.open_items })
      (sends r.open_items old.open_items) sound)
    where
      sends : (es : List Entry) → IsRoundAt plan (actors.Aggregator k) (length w.requests) es → FineOuts plan k (submission_of image es)
      sends [] round = tt
      sends (e ∷ es) round = (tree_low plan is image rises (actors.Aggregator k) (length w.requests) (e ∷ es) round, tt)

  answer_sound : (w : WorldState) (k t : ℕ) (above : Above) → k < length plan.parents → length above.chains ≤ depth_of plan (actors.Aggregator k) → InRange plan t → IsSound plan w → IsSound plan (at_round plan w k t (round_response image above (w.rounds k t))).world
  unfolding round_response responses
  answer_sound w k t above lt few range sound = by r.closed refl r.answered
    where
      r : RoundState
      r = w.rounds k t

      old : IsRoundState plan k (length w.requests) r
      old = sound.rounds k t

      by : (closed : Option (List Entry)) → r.closed ≡ closed → (answered : Option Above) → IsSound plan (at_round plan w k t (response_where image above closed answered r)).world
      by None at answered = stays_sound w k t answers.Nothing lt range sound
      by (Some []) at answered = stays_sound w k t answers.Nothing lt range sound
      by (Some (e ∷ es)) at (Some first) = stays_sound w k t answers.Nothing lt range sound
      by (Some (e ∷ es)) at None = plain_sound w k t (answered_now image above (e ∷ es) r) lt range (record { open_items = old.open_items; closed = old.closed }) (round_responses plan is image k (length w.requests) above (items_of (e ∷ es)) few 0 (e ∷ es) (old.closed (e ∷ es) at).are) sound

  -- AN EVENT

  taken_sound : (w : WorldState) (sender addressee : Actor) (t : ℕ) (content : Content) → InRange plan t → IsSent plan sender addressee content → IsSound plan w → IsSound plan (histories.taken image plan w sender addressee t content).world
  taken_sound w (actors.Core from) (actors.Core j) t (contents.Synod m) range sent sound = receive_sound w j t from m range sent sound
  taken_sound w (actors.Core from) (actors.Aggregator k) t (contents.Synod m) range sent sound = absurd sent
  taken_sound w (actors.Aggregator from) (actors.Core j) t (contents.Synod m) range sent sound = absurd sent
  taken_sound w (actors.Aggregator from) (actors.Aggregator k) t (contents.Synod m) range sent sound = absurd sent
  taken_sound w (actors.Core from) (actors.Core j) t (contents.Submission item) range sent sound = absurd sent
  taken_sound w (actors.Core from) (actors.Aggregator k) t (contents.Submission item) range sent sound = absurd sent
  taken_sound w (actors.Aggregator from) (actors.Core j) t (contents.Submission item) range sent sound = submission_sound w j t from item (core_parent plan is from j sent.0 sent.1) range sent sound
  taken_sound w (actors.Aggregator from) (actors.Aggregator k) t (contents.Submission item) range sent sound = take_sound w k t from item (aggregator_parent plan is from k sent.0 sent.1) range sent sound
  taken_sound w (actors.Core from) (actors.Core j) t (contents.Response above) range sent sound = absurd sent
  taken_sound w (actors.Aggregator from) (actors.Core j) t (contents.Response above) range sent sound = absurd sent
  taken_sound w (actors.Core from) (actors.Aggregator k) t (contents.Response above) range sent sound = answer_sound w k t above sent.0 sent.1 range sound
  taken_sound w (actors.Aggregator from) (actors.Aggregator k) t (contents.Response above) range sent sound = answer_sound w k t above sent.0 sent.1 range sound

  delivered_sound : (w : WorldState) (number : ℕ) (found : Option Message) → slice_get w.wire number ≡ found → IsSound plan w → IsSound plan (delivered image plan w found).world
  delivered_sound w number None at sound = sound
  delivered_sound w number (Some m) at sound = let post = sound.wire number m at in taken_sound w m.sender m.addressee m.second m.content post.second post.sent sound

  pub happens_sound : (w : WorldState) (e : Event) → IsEvent plan e → IsSound plan w → IsSound plan (happens image plan w e).world
  unfolding happens
  happens_sound w (events.Request k t imprint name) at sound = request_sound w k t imprint name at.0 at.1 sound
  happens_sound w (events.Close k t) at sound = close_sound w k t at.0 at.1 sound
  happens_sound w (events.Seal j t) at sound = seal_sound w j t at.0 at.1 sound
  happens_sound w (events.Ballot j t) at sound = ballot_sound w j t at.0 at.1 sound
  happens_sound w (events.Deliver number) at sound = delivered_sound w number (slice_get w.wire number) refl sound
  happens_sound w (events.Tell j t) at sound = tell_sound w j t at.0 at.1 sound
  happens_sound w (events.Respond j t) at sound = respond_sound w j t (held_in w j) at.0 at.1 sound
  happens_sound w (events.Publish j p) at sound = record { small = sound.small; open_items = sound.open_items; sealed = sound.sealed; rounds = sound.rounds; wire = sound.wire }
  happens_sound w (events.RestartCore j) at sound = record {
    small = λ i u lt. cond_both (eqb i j) (restart_row (w.seconds i u)) (w.seconds i u) (λ s. IsSmall plan.cores s.vote) (λ _. as_small plan.cores (w.seconds i u).vote (sound.small i u lt) (restarted (w.seconds i u).vote) refl refl refl) (λ _. sound.small i u lt);
    open_items = λ i u. cond_both (eqb i j) (restart_row (w.seconds i u)) (w.seconds i u) (λ s. AreOf plan (actors.Core i) (length w.requests) s.open_items) (λ _. tt) (λ _. sound.open_items i u);
    sealed = λ i u. cond_both (eqb i j) (restart_row (w.seconds i u)) (w.seconds i u) (λ s. (entries : List Entry) → s.sealed ≡ Some entries → AreOf plan (actors.Core i) (length w.requests) entries) (λ _. sound.sealed i u) (λ _. sound.sealed i u);
    rounds = sound.rounds;
    wire = sound.wire;
  }
  happens_sound w (events.RestartAggregator k) at sound = record {
    small = sound.small;
    open_items = sound.open_items;
    sealed = sound.sealed;
    wire = sound.wire;
    rounds = λ i u. cond_both (eqb i k) (round_restarted (w.rounds i u)) (w.rounds i u) (λ r. IsRoundState plan i (length w.requests) r)
        (λ _. restarted_round i u) (λ _. sound.rounds i u);
  }
    where
      restarted_round : (i u : ℕ) → IsRoundState plan i (length w.requests) (round_restarted (w.rounds i u))
      restarted_round i u = cond_both (is_some (w.rounds i u).closed) (w.rounds i u) fresh_round (λ r. IsRoundState plan i (length w.requests) r)
          (λ _. sound.rounds i u) (λ _. record { open_items = no_round plan (actors.Aggregator i) (length w.requests); closed = λ entries at. absurd (cc at) })

pub first_sound : (plan : PlanState) → IsPlan plan → IsSound plan (first_world plan)
unfolding first_world fresh_second fresh_vote
first_sound plan is = record {
  small = λ j t lt. record { tried = lit< tt; promised = lit< tt; me = omega (arith, is.core_plan.few, lt); there = lt };
  open_items = λ j t. tt;
  sealed = λ j t entries at. absurd (cc at);
  rounds = λ k t. record { open_items = no_round plan (actors.Aggregator k) 0; closed = λ entries at. absurd (cc at) };
  wire = λ number m at. absurd (cc at);
}
