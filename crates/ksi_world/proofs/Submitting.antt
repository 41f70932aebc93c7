-- Each closed round that has items was submitted to its parent.
use Rattle.std.proofs.Common.{◌≡◌, ℕ, ◌<◌, Bool, true, false, cond, eqb, List, [], ◌∷◌, ◌++◌, length, map, refl, sym, ap, subst, ◌∙◌, arith, Option, Some, None}
use Rattle.std.specs.Prelude.{slice_get, is_some}
use Rattle.std.proofs.lemmas.Bool.{cond_both, cond-true, cond-false}
use Rattle.ksi_aggtree.specs.declared.item.Item.{Item}
use Rattle.ksi_aggtree.specs.declared.entries.Entry.{Entry}
use Rattle.ksi_aggtree.specs.Rounds.{as_item, tree_of, with_name}
use Rattle.ksi_aggtree.specs.Entries.{items_of, has_from, is_full}
use Rattle.ksi_signature.specs.declared.above.Above.{Above}
use Rattle.ksi_signature.specs.declared.answer.Answer.TheVariants as answers
use Rattle.ksi_corenode.specs.Turns.{Turn}
use Rattle.ksi_corenode.specs.Rows.{submission_row, seal_row, ballot_row, receive_row, tell_row, respond_row}
use Rattle.ksi_aggregator.specs.declared.step.Send.TheVariants as round_sends
use Rattle.ksi_aggregator.specs.Rows.{RoundState, RoundTurn, fresh_round, round_still, round_request, round_submission, round_close, closed_now, submission_of, round_response, response_where, round_restarted}
use Rattle.ksi_schedule.specs.declared.actor.Actor.{Actor}
use Rattle.ksi_schedule.specs.declared.actor.Actor.TheVariants as actors
use Rattle.ksi_schedule.specs.declared.event.Event.{Event}
use Rattle.ksi_schedule.specs.declared.event.Event.TheVariants as events
use Rattle.ksi_schedule.specs.Plans.{PlanState, core_plan_of, name_of}
use Rattle.ksi_world.specs.declared.message.Content.{Content}
use Rattle.ksi_world.specs.declared.message.Content.TheVariants as contents
use Rattle.ksi_world.specs.declared.message.Message.{Message}
use Rattle.ksi_world.specs.Histories.{WorldState, held_in, core_message, round_message, at_core, at_round, taken, delivered, happens, run, first_world, after}
use Rattle.ksi_world.proofs.Growing.{put_cases}
use Rattle.ksi_world.proofs.Voting.{get_before}
use Rattle.ksi_world.specs.Lasting.{IsSubmitted, AreSubmitted}

get_last : {A : Type 0} (xs : List A) (x : A) → slice_get (xs ++ x ∷ []) (length xs) ≡ Some x
get_last [] x = refl
get_last (y ∷ ys) x = get_last ys x

-- THE ROWS LEAVE WHAT IS CLOSED

request_leaves : (number : ℕ) (imprint : List ℕ) (name : Option (List ℕ)) (r : RoundState) → (round_request number imprint name r).after.closed ≡ r.closed
unfolding round_request
request_leaves number imprint name r = cond_both (is_some r.closed) _ _ (λ (turn : RoundTurn). turn.after.closed ≡ r.closed) (λ _. refl)
    (λ _. cond_both (is_full r.open_items) _ _ (λ (turn : RoundTurn). turn.after.closed ≡ r.closed) (λ _. refl) (λ _. refl))

submission_leaves : (from : ℕ) (item : Item) (r : RoundState) → (round_submission from item r).after.closed ≡ r.closed
unfolding round_submission
submission_leaves from item r = cond_both (is_some r.closed) _ _ (λ (turn : RoundTurn). turn.after.closed ≡ r.closed) (λ _. refl)
    (λ _. cond_both (has_from from r.open_items) _ _ (λ (turn : RoundTurn). turn.after.closed ≡ r.closed) (λ _. refl)
    (λ _. cond_both (is_full r.open_items) _ _ (λ (turn : RoundTurn). turn.after.closed ≡ r.closed) (λ _. refl) (λ _. refl)))

response_leaves : (image : List ℕ → List ℕ) (above : Above) (r : RoundState) → (round_response image above r).after.closed ≡ r.closed
unfolding round_response
response_leaves image above r = by r.closed r.answered
  where
    by : (closed : Option (List Entry)) (answered : Option Above) → (response_where image above closed answered r).after.closed ≡ r.closed
    by None answered = refl
    by (Some []) answered = refl
    by (Some (entry ∷ entries)) (Some first) = refl
    by (Some (entry ∷ entries)) None = refl

module _ (image : List ℕ → List ℕ) (plan : PlanState) where
  wire_more : (k t : ℕ) (wire more : List Message) → IsSubmitted plan k t wire → IsSubmitted plan k t (wire ++ more)
  wire_more k t wire more is = record { number = is.number; item = is.item; at = get_before wire more is.number _ is.at }

  core_submitted : (w : WorldState) (j t : ℕ) (turn : Turn) → AreSubmitted plan w → AreSubmitted plan (at_core w j t turn).world
  core_submitted w j t turn are k u entries closed some = wire_more k u w.wire (map (core_message j t) turn.sends) (are k u entries closed some)

  round_submitted : (w : WorldState) (i t : ℕ) (turn : RoundTurn) → AreSubmitted plan w →
      ((entries : List Entry) → turn.after.closed ≡ Some entries → 0 < length entries → IsSubmitted plan i t (at_round plan w i t turn).world.wire) → AreSubmitted plan (at_round plan w i t turn).world
  round_submitted w i t turn are mine k u entries closed some =
      let new = (at_round plan w i t turn).world in
      put_cases w.rounds i t turn.after (λ (r : RoundState). r.closed ≡ Some entries → IsSubmitted plan k u new.wire) k u
      (λ k_is u_is at. subst (λ u. IsSubmitted plan k u new.wire) (sym u_is) (subst (λ k. IsSubmitted plan k t new.wire) (sym k_is) (mine entries at some)))
      (λ at. wire_more k u w.wire _ (are k u entries at some)) closed

  -- a turn that leaves what is closed
  left_submitted : (w : WorldState) (i t : ℕ) (turn : RoundTurn) → AreSubmitted plan w → turn.after.closed ≡ (w.rounds i t).closed → AreSubmitted plan (at_round plan w i t turn).world
  left_submitted w i t turn are same = round_submitted w i t turn are (λ entries closed some. wire_more i t w.wire (map (round_message plan i t) turn.sends) (are i t entries (sym same ∙ closed) some))

  -- what a round that is closed now sends
  submits : (entries : List Entry) → 0 < length entries → (item : Item) × (submission_of image entries ≡ round_sends.Submission item ∷ [])
  submits [] none = absurd (omega arith)
  submits (entry ∷ entries) some = (as_item (tree_of image (items_of (entry ∷ entries))), refl)

  is_posted : (k t : ℕ) (wire : List Message) (entries : List Entry) → 0 < length entries → IsSubmitted plan k t (wire ++ map (round_message plan k t) (submission_of image entries))
  is_posted k t wire entries some =
      let sent = submits entries some in
      record {
        number = length wire;
        item = with_name (name_of plan k) sent.0;
        at = ap (λ sends. slice_get (wire ++ map (round_message plan k t) sends) (length wire)) sent.1
            ∙ get_last wire (round_message plan k t (round_sends.Submission sent.0));
      }

  closing_submitted : (w : WorldState) (i t : ℕ) → AreSubmitted plan w → AreSubmitted plan (at_round plan w i t (round_close image (w.rounds i t))).world
  unfolding round_close
  closing_submitted w i t are = by (w.rounds i t).closed refl
    where
      r : RoundState
      r = w.rounds i t

      Of : RoundTurn → Type 0
      Of turn = AreSubmitted plan (at_round plan w i t turn).world

      longer : (xs ys : List Entry) → ys ≡ xs → 0 < length xs → 0 < length ys
      longer xs ys same some = omega (arith, ap length same, some)

      by : (o : Option (List Entry)) → r.closed ≡ o → Of (round_close image r)
      by (Some entries) at = subst Of (sym (cond-true (is_some r.closed) (round_still r answers.Closed) (closed_now image r) (ap is_some at))) (left_submitted w i t (round_still r answers.Closed) are refl)
      by None at = subst Of (sym (cond-false (is_some r.closed) (round_still r answers.Closed) (closed_now image r) (ap is_some at)))
          (round_submitted w i t (closed_now image r) are (λ entries closed some. is_posted i t w.wire r.open_items (longer entries r.open_items (cc closed) some)))

  taken_submitted : (w : WorldState) (sender addressee : Actor) (t : ℕ) (c : Content) → AreSubmitted plan w → AreSubmitted plan (taken image plan w sender addressee t c).world
  taken_submitted w (actors.Core from) (actors.Core j) t (contents.Synod m) are = core_submitted w j t (receive_row (core_plan_of plan) t from m (w.seconds j t)) are
  taken_submitted w (actors.Aggregator from) (actors.Core j) t (contents.Submission item) are = core_submitted w j t (submission_row from item (w.seconds j t)) are
  taken_submitted w (actors.Aggregator from) (actors.Aggregator k) t (contents.Submission item) are = left_submitted w k t (round_submission from item (w.rounds k t)) are (submission_leaves from item (w.rounds k t))
  taken_submitted w (actors.Core from) (actors.Aggregator k) t (contents.Response above) are = left_submitted w k t (round_response image above (w.rounds k t)) are (response_leaves image above (w.rounds k t))
  taken_submitted w (actors.Aggregator from) (actors.Aggregator k) t (contents.Response above) are = left_submitted w k t (round_response image above (w.rounds k t)) are (response_leaves image above (w.rounds k t))
  taken_submitted w (actors.Core from) (actors.Core j) t (contents.Submission item) are = are
  taken_submitted w (actors.Core from) (actors.Core j) t (contents.Response above) are = are
  taken_submitted w (actors.Aggregator from) (actors.Core j) t (contents.Synod m) are = are
  taken_submitted w (actors.Aggregator from) (actors.Core j) t (contents.Response above) are = are
  taken_submitted w (actors.Core from) (actors.Aggregator k) t (contents.Synod m) are = are
  taken_submitted w (actors.Core from) (actors.Aggregator k) t (contents.Submission item) are = are
  taken_submitted w (actors.Aggregator from) (actors.Aggregator k) t (contents.Synod m) are = are

  delivered_submitted : (w : WorldState) (o : Option Message) → AreSubmitted plan w → AreSubmitted plan (delivered image plan w o).world
  delivered_submitted w None are = are
  delivered_submitted w (Some m) are = taken_submitted w m.sender m.addressee m.second m.content are

  restart_submitted : (w : WorldState) (i k t : ℕ) (entries : List Entry) → AreSubmitted plan w →
      (cond (eqb k i) (round_restarted (w.rounds k t)) (w.rounds k t)).closed ≡ Some entries → 0 < length entries → IsSubmitted plan k t w.wire
  restart_submitted w i k t entries are closed some = are k t entries (sym (kept (w.rounds k t) (eqb k i) closed) ∙ closed) some
    where
      kept : (r : RoundState) (b : Bool) → (cond b (round_restarted r) r).closed ≡ Some entries → (cond b (round_restarted r) r).closed ≡ r.closed
      kept r false at = refl
      kept r true at = cond_both (is_some r.closed) r fresh_round (λ (x : RoundState). x.closed ≡ Some entries → x.closed ≡ r.closed) (λ _ _. refl) (λ _ at. absurd (cc at)) at

  pub happens_submitted : (w : WorldState) (e : Event) → AreSubmitted plan w → AreSubmitted plan (happens image plan w e).world
  unfolding happens
  happens_submitted w (events.Request k t imprint name) are = left_submitted w k t (round_request (length w.requests) imprint name (w.rounds k t)) are (request_leaves (length w.requests) imprint name (w.rounds k t))
  happens_submitted w (events.Close k t) are = closing_submitted w k t are
  happens_submitted w (events.Seal j t) are = core_submitted w j t (seal_row image (w.seconds j t)) are
  happens_submitted w (events.Ballot j t) are = core_submitted w j t (ballot_row (core_plan_of plan) t j (w.seconds j t)) are
  happens_submitted w (events.Deliver number) are = delivered_submitted w (slice_get w.wire number) are
  happens_submitted w (events.Tell j t) are = core_submitted w j t (tell_row (core_plan_of plan) t j (w.seconds j t)) are
  happens_submitted w (events.Respond j t) are = core_submitted w j t (respond_row image (held_in w j) plan.start t (w.seconds j t)) are
  happens_submitted w (events.Publish j p) are = are
  happens_submitted w (events.RestartCore j) are = are
  happens_submitted w (events.RestartAggregator i) are = λ k t entries closed some. restart_submitted w i k t entries are closed some

  run_submitted : (es : List Event) (w : WorldState) → AreSubmitted plan w → AreSubmitted plan (run image plan w es)
  run_submitted [] w are = are
  run_submitted (e ∷ es) w are = run_submitted es (happens image plan w e).world (happens_submitted w e are)

  pub after_submitted : (es : List Event) → AreSubmitted plan (after image plan es)
  unfolding after first_world
  after_submitted es = run_submitted es (first_world plan) (λ k t entries closed some. absurd (cc closed))
