-- Each event keeps that what is told is so.
use Rattle.ksi_schedule.specs.Plans.{core_plan_of}
use Rattle.std.proofs.Common.{◌≡◌, ◌≢◌, ℕ, ◌-◌, ◌*◌, ◌<◌, ◌≤◌, arith, true, not, eqb, List, [], ◌∷◌, ◌++◌, length, refl, sym, ap, subst, ◌∙◌, is_some, Option, Some, None}
use Rattle.std.specs.Prelude.{slice_get}
use Rattle.std.specs.Str.{bytes_eq}
use Rattle.std.proofs.lemmas.Bool.{cond_both, and_parts, not-true}
use Rattle.std.proofs.lemmas.Slice.Eq.{bytes_eq-Decides}
use Rattle.ksi_imprint.specs.Imprints.{zero_imprint}
use Rattle.ksi_calendar.specs.Calendar.{calendar_path}
use Rattle.ksi_aggtree.specs.declared.chains.node.Node.{Node}
use Rattle.ksi_aggtree.specs.declared.item.Item.{Item}
use Rattle.ksi_aggtree.specs.declared.entries.Entry.{Entry}
use Rattle.ksi_aggtree.specs.Rounds.{IsRound, as_node, tree_of}
use Rattle.ksi_aggtree.specs.Entries.{items_of, has_from, is_full, candidate_of}
use Rattle.ksi_synod.specs.declared.messages.SynodMessage.{SynodMessage}
use Rattle.ksi_synod.specs.Rows.{try_ballot, ballot_told, receive, held_told}
use Rattle.ksi_signature.specs.declared.above.Above.{Above}
use Rattle.ksi_signature.specs.declared.answer.Answer.{Answer}
use Rattle.ksi_signature.specs.declared.answer.Answer.TheVariants as answers
use Rattle.ksi_corenode.specs.SecondState.{SecondState}
use Rattle.ksi_corenode.specs.Turns.{Turn, still}
use Rattle.ksi_calendar.specs.Covered.{first_missing, covered_seconds}
use Rattle.ksi_corenode.specs.Rows.{submission_row, submitted, item_taken, seal_row, sealed_now, ballot_row, receive_row, tell_row, respond_row, respond_where, responded, above_item, is_mine, restart_row}
use Rattle.ksi_aggregator.specs.Responses.{responses}
use Rattle.ksi_aggregator.specs.Rows.{RoundState, RoundTurn, round_still, round_added, closed_now, answered_now, request_entry, submitted_entry, round_request, round_submission, round_close, round_response, response_where, round_restarted, submission_of, fresh_round}
use Rattle.ksi_schedule.specs.declared.actor.Actor.{Actor}
use Rattle.ksi_schedule.specs.declared.actor.Actor.TheVariants as actors
use Rattle.ksi_schedule.specs.declared.event.Event.{Event}
use Rattle.ksi_schedule.specs.declared.event.Event.TheVariants as events
use Rattle.ksi_schedule.specs.Events.{IsEvent}
use Rattle.ksi_world.specs.declared.message.Content.{Content}
use Rattle.ksi_world.specs.declared.message.Content.TheVariants as contents
use Rattle.ksi_schedule.specs.Plans.{PlanState, IsPlan}
use Rattle.ksi_world.specs.declared.message.Message.{Message}
use Rattle.ksi_world.specs.Histories.{WorldState, at_core, at_round, held_in, delivered, happens}
use Rattle.ksi_world.specs.Histories as histories
use Rattle.ksi_world.specs.Sound.{depth_of, IsRoundAt, IsSound}
use Rattle.ksi_world.proofs.Covering.{none_missing}
use Rattle.ksi_world.proofs.Growing.{restart_keeps, Grew, Holds, core_grew, round_grew, ballot_holds, receive_holds}
use Rattle.ksi_world.proofs.Voting.{IsVoted, put_same}
use Rattle.ksi_world.proofs.JoinedTurns.{IsJoinedSecond, IsJoinedRound, AllJoined, second_later, round_later, joined_noted, core_joined, round_joined, nothing_sent, EachCoreSo, core_so, each_told, core_answers, EachRoundSo, round_so, round_answers, all_answered, fresh_joined}
use Rattle.ksi_world.proofs.Leaving.{seal_holds}
use Rattle.ksi_world.proofs.Sending.{TreeRises, are_low}
use Rattle.ksi_world.proofs.Joining.{ItemClimbs, IsClosedAs, Joins, IsAnswer, AreSubmitted, IsSo, all_later, none_submitted, submitted_push, requested_push, round_is}

module _ (image : List ℕ → List ℕ) (plan : PlanState) (is : IsPlan plan) (rises : TreeRises image) (climb : ItemClimbs image) (w : WorldState) (sound : IsSound plan w) (voted : IsVoted image plan w.seconds w.wire) (joined : AllJoined image plan w) where
  -- A CORE'S TURNS

  still_joined : (j t : ℕ) (answer : Answer) → AllJoined image plan (at_core w j t (still (w.seconds j t) answer)).world
  still_joined j t answer = core_joined image plan w j t (still (w.seconds j t) answer) (λ d held. held) (joined.seconds j t) (nothing_sent image plan (at_core w j t (still (w.seconds j t) answer)).world) joined

  -- a turn after which the same items are open and sealed
  same_items : (j t : ℕ) (turn : Turn) → Holds (w.seconds j t) turn.after → turn.after.open_items ≡ (w.seconds j t).open_items → turn.after.sealed ≡ (w.seconds j t).sealed →
      EachCoreSo image plan (at_core w j t turn).world j t turn.sends → AllJoined image plan (at_core w j t turn).world
  same_items j t turn holds open_are sealed_are sends = core_joined image plan w j t turn holds (record {
    open_items = subst (λ es. AreSubmitted image plan w t es) (sym open_are) (joined.seconds j t).open_items;
    sealed = λ entries at. (joined.seconds j t).sealed entries (sym sealed_are ∙ at);
  }) (core_so image plan (at_core w j t turn).world j t turn.sends sends) joined

  submission_joined : (j t from : ℕ) (item : Item) → IsClosedAs image plan w from t item → AllJoined image plan (at_core w j t (submission_row from item (w.seconds j t))).world
  unfolding submission_row
  submission_joined j t from item submitted_is =
      let s = w.seconds j t in
      cond_both (is_some s.sealed) _ _ (λ turn. AllJoined image plan (at_core w j t turn).world) (λ _. still_joined j t answers.Late)
      (λ _. cond_both (has_from from s.open_items) _ _ (λ row. AllJoined image plan (at_core w j t (item_taken s row)).world) (λ _. same_items j t (item_taken s (s.open_items, answers.Known)) (λ d held. held) refl refl tt)
      (λ _. cond_both (is_full s.open_items) _ _ (λ row. AllJoined image plan (at_core w j t (item_taken s row)).world) (λ _. same_items j t (item_taken s (s.open_items, answers.Full)) (λ d held. held) refl refl tt)
      (λ _. core_joined image plan w j t (item_taken s (s.open_items ++ submitted from item ∷ [], answers.Done)) (λ d held. held)
      (record { open_items = submitted_push image plan w t s.open_items from item (joined.seconds j t).open_items submitted_is; sealed = (joined.seconds j t).sealed })
      (nothing_sent image plan (at_core w j t (item_taken s (s.open_items ++ submitted from item ∷ [], answers.Done))).world) joined)))

  seal_joined : (j t : ℕ) → AllJoined image plan (at_core w j t (seal_row image (w.seconds j t))).world
  unfolding seal_row
  seal_joined j t = cond_both (is_some (w.seconds j t).sealed) _ _ (λ turn. AllJoined image plan (at_core w j t turn).world) (λ _. still_joined j t answers.Sealed)
      (λ _. core_joined image plan w j t (sealed_now image (w.seconds j t)) (λ d held. seal_holds (w.seconds j t).vote (candidate_of image (w.seconds j t).open_items) ∙ held)
      (record {
        open_items = none_submitted image plan w t;
        sealed = λ entries at. let same : (w.seconds j t).open_items ≡ entries = cc at in subst (λ es. AreSubmitted image plan w t es) same (joined.seconds j t).open_items;
      })
      (nothing_sent image plan (at_core w j t (sealed_now image (w.seconds j t))).world) joined)

  ballot_joined : (j t : ℕ) → AllJoined image plan (at_core w j t (ballot_row (core_plan_of plan) t j (w.seconds j t))).world
  unfolding ballot_row
  ballot_joined j t = same_items j t (ballot_row (core_plan_of plan) t j (w.seconds j t)) (ballot_holds (core_plan_of plan) t j (w.seconds j t)) refl refl
      (each_told image plan (at_core w j t (ballot_row (core_plan_of plan) t j (w.seconds j t))).world j t (core_plan_of plan) t j (ballot_told (try_ballot (w.seconds j t).vote).1))

  tell_joined : (j t : ℕ) → AllJoined image plan (at_core w j t (tell_row (core_plan_of plan) t j (w.seconds j t))).world
  unfolding tell_row
  tell_joined j t = same_items j t (tell_row (core_plan_of plan) t j (w.seconds j t)) (λ d held. held) refl refl
      (each_told image plan (at_core w j t (tell_row (core_plan_of plan) t j (w.seconds j t))).world j t (core_plan_of plan) t j (held_told (w.seconds j t).vote.held))

  receive_joined : (j t from : ℕ) (m : SynodMessage) → AllJoined image plan (at_core w j t (receive_row (core_plan_of plan) t from m (w.seconds j t))).world
  unfolding receive_row
  receive_joined j t from m = same_items j t (receive_row (core_plan_of plan) t from m (w.seconds j t)) (receive_holds (core_plan_of plan) t from m (w.seconds j t)) refl refl
      (each_told image plan (at_core w j t (receive_row (core_plan_of plan) t from m (w.seconds j t))).world j t (core_plan_of plan) t from (receive (w.seconds j t).vote from m).1)

  tree_root : (entries : List Entry) (root : List ℕ) → candidate_of image entries ≡ root → root ≢ zero_imprint → (tree_of image (items_of entries)).imprint ≡ root
  tree_root [] root same real = absurd (real (sym same))
  tree_root (e ∷ es) root same real = same

  -- a response goes out only where the held root is the candidate and no zero imprint
  responded_joined : (j t : ℕ) → j < plan.cores → plan.start ≤ t → (entries : List Entry) (root : List ℕ) → (w.seconds j t).sealed ≡ Some entries → first_missing (held_in w j) plan.start t ≡ None → held_in w j t ≡ Some root →
      is_mine image entries root ≡ true → AllJoined image plan (at_core w j t (responded image (held_in w j) plan.start t entries root (w.seconds j t))).world
  responded_joined j t lt from entries root sealed none held mine = core_joined image plan w j t turn (λ d is. is) (joined.seconds j t)
      (core_so image plan w' j t turn.sends (core_answers image plan w' j t (above_item image (covered_seconds (held_in w j) plan.start t) t root (items_of entries)) (λ k. (core_grew w j t turn (λ d is. is)).held j t root held) 0 entries
      (all_answered image plan climb w w' (core_grew w j t turn (λ d is. is)) t above entries round ((joined.seconds j t).sealed entries sealed) joins))) joined
    where
      turn : Turn
      turn = responded image (held_in w j) plan.start t entries root (w.seconds j t)

      w' : WorldState
      w' = (at_core w j t (responded image (held_in w j) plan.start t entries root (w.seconds j t))).world

      above : Above
      above = record { root = root; chains = []; calendar = calendar_path image (covered_seconds (held_in w j) plan.start t) t t }

      tests : (bytes_eq (candidate_of image entries) root ≡ true) × (not (bytes_eq root zero_imprint) ≡ true)
      tests = and_parts _ _ mine

      real : root ≢ zero_imprint
      real missed = absurd (cc (not-true _ tests.1, (bytes_eq-Decides root zero_imprint).1 missed))

      round : IsRound (items_of entries)
      round = round_is image plan is (actors.Core j) (length w.requests) entries (sound.sealed j t entries sealed) ((voted.sealed j t).few entries sealed)

      core_low : (tree_of image (items_of entries)).level ≤ 153
      core_low =
          let low = rises (items_of entries) (137 - 17 * depth_of plan (actors.Core j)) round.few (are_low plan is (actors.Core j) (length w.requests) entries (sound.sealed j t entries sealed)) in
          omega (arith, low)

      joins : Joins image plan w t (tree_of image (items_of entries)) (record { root = root; chains = []; calendar = calendar_path image (covered_seconds (held_in w j) plan.start t) t t })
      joins = record {
        top = tree_of image (items_of entries);
        climbs = refl;
        root_is = tree_root entries root ((bytes_eq-Decides _ _).0 tests.0) real;
        core = j;
        there = lt;
        from = from;
        held = held;
        all = none_missing (held_in w j) plan.start t none;
        calendar = refl;
        real = real;
        low = core_low;
      }

  respond_joined : (j t : ℕ) → j < plan.cores → plan.start ≤ t → AllJoined image plan (at_core w j t (respond_row image (held_in w j) plan.start t (w.seconds j t))).world
  unfolding respond_row
  respond_joined j t lt from = by (w.seconds j t).sealed refl (first_missing (held_in w j) plan.start t) refl (held_in w j t) refl
    where
      by : (sealed : Option (List Entry)) → (w.seconds j t).sealed ≡ sealed → (missing : Option ℕ) → first_missing (held_in w j) plan.start t ≡ missing → (root : Option (List ℕ)) → held_in w j t ≡ root →
          AllJoined image plan (at_core w j t (respond_where image (held_in w j) plan.start t sealed missing root (w.seconds j t))).world
      by None s missing m root h = still_joined j t answers.Unsealed
      by (Some entries) s (Some missing) m root h = still_joined j t (answers.Undecided missing)
      by (Some entries) s None m None h = still_joined j t (answers.Undecided t)
      by (Some entries) s None m (Some root) h = cond_both (is_mine image entries root) _ _ (λ turn. AllJoined image plan (at_core w j t turn).world)
          (λ mine. responded_joined j t lt from entries root s m h mine) (λ _. still_joined j t answers.NotMine)

  -- AN AGGREGATOR'S TURNS

  round_stays : (k t : ℕ) (answer : Answer) → AllJoined image plan (at_round plan w k t (round_still (w.rounds k t) answer)).world
  round_stays k t answer = round_joined image plan w k t (round_still (w.rounds k t) answer) (λ entries closed. closed) (joined.rounds k t) (nothing_sent image plan (at_round plan w k t (round_still (w.rounds k t) answer)).world) joined

  -- an item more
  added_joined : (k t : ℕ) (entry : Entry) (answer : Answer) → AreSubmitted image plan w t ((w.rounds k t).open_items ++ entry ∷ []) → AllJoined image plan (at_round plan w k t (round_added (w.rounds k t) entry answer)).world
  added_joined k t entry answer are = round_joined image plan w k t (round_added (w.rounds k t) entry answer) (λ entries closed. closed)
      (record { open_items = are; closed = (joined.rounds k t).closed; answered = (joined.rounds k t).answered })
      (nothing_sent image plan (at_round plan w k t (round_added (w.rounds k t) entry answer)).world) joined

  request_joined : (k t : ℕ) (imprint : List ℕ) (name : Option (List ℕ)) → AllJoined image plan (histories.request_happens plan w k t imprint name).world
  unfolding round_request
  request_joined k t imprint name = joined_noted image plan turned (histories.request_happens plan w k t imprint name).world (record { held = λ j u d at. at; closed = λ i u entries at. at }) refl refl refl turned_joined
    where
      turned : WorldState
      turned = (at_round plan w k t (round_request (length w.requests) imprint name (w.rounds k t))).world

      turned_joined : AllJoined image plan (at_round plan w k t (round_request (length w.requests) imprint name (w.rounds k t))).world
      turned_joined =
          let r = w.rounds k t in
          cond_both (is_some r.closed) _ _ (λ turn. AllJoined image plan (at_round plan w k t turn).world) (λ _. round_stays k t answers.Late)
          (λ _. cond_both (is_full r.open_items) _ _ (λ turn. AllJoined image plan (at_round plan w k t turn).world) (λ _. round_stays k t answers.Full)
          (λ _. added_joined k t (request_entry (length w.requests) imprint name) (answers.Number (length w.requests))
          (requested_push image plan w t r.open_items (length w.requests) (record { imprint = imprint; level = 0; name = name }) (joined.rounds k t).open_items)))

  take_joined : (k t from : ℕ) (item : Item) → IsClosedAs image plan w from t item → AllJoined image plan (at_round plan w k t (round_submission from item (w.rounds k t))).world
  unfolding round_submission
  take_joined k t from item submitted_is =
      let r = w.rounds k t in
      cond_both (is_some r.closed) _ _ (λ turn. AllJoined image plan (at_round plan w k t turn).world) (λ _. round_stays k t answers.Late)
      (λ _. cond_both (has_from from r.open_items) _ _ (λ turn. AllJoined image plan (at_round plan w k t turn).world) (λ _. round_stays k t answers.Known)
      (λ _. cond_both (is_full r.open_items) _ _ (λ turn. AllJoined image plan (at_round plan w k t turn).world) (λ _. round_stays k t answers.Full)
      (λ _. added_joined k t (submitted_entry from item) answers.Done (submitted_push image plan w t r.open_items from item (joined.rounds k t).open_items submitted_is))))

  close_joined : (k t : ℕ) → AllJoined image plan (at_round plan w k t (round_close image (w.rounds k t))).world
  unfolding round_close
  close_joined k t = cond_both (is_some (w.rounds k t).closed) _ _ (λ turn. AllJoined image plan (at_round plan w k t turn).world) (λ _. round_stays k t answers.Closed)
      (λ open_yet. round_joined image plan w k t turn (λ entries closed. absurd (cc (open_yet, ap (λ (o : Option (List Entry)). is_some o) closed)))
      (record {
        open_items = none_submitted image plan w t;
        closed = λ entries at. let same : (w.rounds k t).open_items ≡ entries = cc at in subst (λ es. AreSubmitted image plan w t es) same (joined.rounds k t).open_items;
        answered = (joined.rounds k t).answered;
      })
      (round_so image plan w' k t (submission_of image (w.rounds k t).open_items) (so (w.rounds k t).open_items refl)) joined)
    where
      turn : RoundTurn
      turn = closed_now image (w.rounds k t)

      w' : WorldState
      w' = (at_round plan w k t (closed_now image (w.rounds k t))).world

      so : (es : List Entry) → (w.rounds k t).open_items ≡ es → EachRoundSo image plan (at_round plan w k t (closed_now image (w.rounds k t))).world k t (submission_of image es)
      so [] same = tt
      so (e ∷ es) same = (
        record {
          entries = e ∷ es;
          closed = ap (λ (r : RoundState). r.closed) (put_same w.rounds k t (closed_now image (w.rounds k t)).after) ∙ ap Some same;
          item_is = refl;
        },
        tt,
      )

  response_joined : (k t : ℕ) (above : Above) → IsAnswer image plan w k t above → AllJoined image plan (at_round plan w k t (round_response image above (w.rounds k t))).world
  unfolding round_response responses
  response_joined k t above answer = by (w.rounds k t).closed refl (w.rounds k t).answered
    where
      answered_joined : (e : Entry) (es : List Entry) → (w.rounds k t).closed ≡ Some (e ∷ es) → AllJoined image plan (at_round plan w k t (answered_now image above (e ∷ es) (w.rounds k t))).world
      answered_joined e es closed = round_joined image plan w k t turn (λ entries at. at)
          (record {
            open_items = (joined.rounds k t).open_items;
            closed = (joined.rounds k t).closed;
            answered = λ other at. let same : above ≡ other = cc at in subst (λ (above : Above). IsAnswer image plan w k t above) same answer;
          })
          (round_so image plan w' k t turn.sends (round_answers image plan w' k t above (items_of (e ∷ es)) 0 (e ∷ es)
          (all_answered image plan climb w w' (round_grew plan w k t turn (λ entries at. at)) t above (e ∷ es)
          (round_is image plan is (actors.Aggregator k) (length w.requests) (e ∷ es) round.are round.few)
          ((joined.rounds k t).closed (e ∷ es) closed)
          (subst (λ (node : Node). Joins image plan w t node above) (sym tree_is) answer.joins)))) joined
        where
          turn : RoundTurn
          turn = answered_now image above (e ∷ es) (w.rounds k t)

          w' : WorldState
          w' = (at_round plan w k t (answered_now image above (e ∷ es) (w.rounds k t))).world

          round : IsRoundAt plan (actors.Aggregator k) (length w.requests) (e ∷ es)
          round = (sound.rounds k t).closed (e ∷ es) closed

          tree_is : tree_of image (items_of (e ∷ es)) ≡ as_node answer.item
          tree_is =
              let both : Some (e ∷ es) ≡ Some answer.closed.entries = sym closed ∙ answer.closed.closed in
              let same : e ∷ es ≡ answer.closed.entries = cc both in
              ap (λ es. tree_of image (items_of es)) same ∙ ap as_node answer.closed.item_is

      by : (closed : Option (List Entry)) → (w.rounds k t).closed ≡ closed → (answered : Option Above) → AllJoined image plan (at_round plan w k t (response_where image above closed answered (w.rounds k t))).world
      by None at answered = round_stays k t answers.Nothing
      by (Some []) at answered = round_stays k t answers.Nothing
      by (Some (e ∷ es)) at (Some first) = round_stays k t answers.Nothing
      by (Some (e ∷ es)) at None = answered_joined e es at

  -- AN EVENT

  taken_joined : (sender addressee : Actor) (t : ℕ) (content : Content) → IsSo image plan w sender addressee t content → AllJoined image plan (histories.taken image plan w sender addressee t content).world
  taken_joined (actors.Core from) (actors.Core j) t (contents.Synod m) so = receive_joined j t from m
  taken_joined (actors.Core from) (actors.Core j) t (contents.Submission item) so = joined
  taken_joined (actors.Core from) (actors.Core j) t (contents.Response above) so = joined
  taken_joined (actors.Core from) (actors.Aggregator k) t (contents.Synod m) so = joined
  taken_joined (actors.Core from) (actors.Aggregator k) t (contents.Submission item) so = joined
  taken_joined (actors.Core from) (actors.Aggregator k) t (contents.Response above) so = response_joined k t above so.1
  taken_joined (actors.Aggregator from) (actors.Core j) t (contents.Synod m) so = joined
  taken_joined (actors.Aggregator from) (actors.Core j) t (contents.Submission item) so = submission_joined j t from item so
  taken_joined (actors.Aggregator from) (actors.Core j) t (contents.Response above) so = joined
  taken_joined (actors.Aggregator from) (actors.Aggregator k) t (contents.Synod m) so = joined
  taken_joined (actors.Aggregator from) (actors.Aggregator k) t (contents.Submission item) so = take_joined k t from item so
  taken_joined (actors.Aggregator from) (actors.Aggregator k) t (contents.Response above) so = response_joined k t above so.1

  delivered_joined : (number : ℕ) (found : Option Message) → slice_get w.wire number ≡ found → AllJoined image plan (delivered image plan w found).world
  delivered_joined number None at = joined
  delivered_joined number (Some m) at = taken_joined m.sender m.addressee m.second m.content (joined.wire number m at)

  core_restart_joined : (j : ℕ) → AllJoined image plan (histories.core_restarts w j).world
  core_restart_joined j = record {
    wire = all_later image plan w w' grew w.wire joined.wire;
    seconds = λ i u. cond_both (eqb i j) (restart_row (w.seconds i u)) (w.seconds i u) (λ (s : SecondState). IsJoinedSecond image plan w' u s)
        (λ _. record { open_items = none_submitted image plan w' u; sealed = (second_later image plan w w' grew u (w.seconds i u) (joined.seconds i u)).sealed })
        (λ _. second_later image plan w w' grew u (w.seconds i u) (joined.seconds i u));
    rounds = λ k u. round_later image plan w w' grew k u (w.rounds k u) (joined.rounds k u);
  }
    where
      w' : WorldState
      w' = (histories.core_restarts w j).world

      grew : Grew w (histories.core_restarts w j).world
      grew = record { held = λ i u d at. cond_both (eqb i j) (restart_row (w.seconds i u)) (w.seconds i u) (λ (s : SecondState). s.vote.held ≡ Some d) (λ _. at) (λ _. at); closed = λ k t entries at. at }

  aggregator_restart_joined : (k : ℕ) → AllJoined image plan (histories.aggregator_restarts w k).world
  aggregator_restart_joined k = record {
    wire = all_later image plan w w' grew w.wire joined.wire;
    seconds = λ j u. second_later image plan w w' grew u (w.seconds j u) (joined.seconds j u);
    rounds = λ i u. cond_both (eqb i k) (round_restarted (w.rounds i u)) (w.rounds i u) (λ (r : RoundState). IsJoinedRound image plan w' i u r)
        (λ _. cond_both (is_some (w.rounds i u).closed) (w.rounds i u) fresh_round (λ (r : RoundState). IsJoinedRound image plan w' i u r)
        (λ _. round_later image plan w w' grew i u (w.rounds i u) (joined.rounds i u)) (λ _. fresh_joined image plan w' i u))
        (λ _. round_later image plan w w' grew i u (w.rounds i u) (joined.rounds i u));
  }
    where
      w' : WorldState
      w' = (histories.aggregator_restarts w k).world

      grew : Grew w (histories.aggregator_restarts w k).world
      grew = record { held = λ j t d at. at; closed = λ i u entries at. cond_both (eqb i k) (round_restarted (w.rounds i u)) (w.rounds i u) (λ (r : RoundState). r.closed ≡ Some entries) (λ _. restart_keeps (w.rounds i u) entries at) (λ _. at) }

  pub happens_joined : (e : Event) → IsEvent plan e → AllJoined image plan (happens image plan w e).world
  unfolding happens
  happens_joined (events.Request k t imprint name) at = request_joined k t imprint name
  happens_joined (events.Close k t) at = close_joined k t
  happens_joined (events.Seal j t) at = seal_joined j t
  happens_joined (events.Ballot j t) at = ballot_joined j t
  happens_joined (events.Deliver number) at = delivered_joined number (slice_get w.wire number) refl
  happens_joined (events.Tell j t) at = tell_joined j t
  happens_joined (events.Respond j t) at = respond_joined j t at.0 at.1.0
  happens_joined (events.Publish j p) at = joined_noted image plan w (happens image plan w (events.Publish j p)).world (record { held = λ j t d at. at; closed = λ k t entries at. at }) refl refl refl joined
  happens_joined (events.RestartCore j) at = core_restart_joined j
  happens_joined (events.RestartAggregator k) at = aggregator_restart_joined k
