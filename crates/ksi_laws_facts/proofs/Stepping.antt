-- Each step is the one of the table over what was seen.
use Rattle.ksi_schedule.specs.Plans.{core_plan_of}
use Rattle.std.proofs.Common.{◌≡◌, ℕ, Bool, true, false, cond, List, [], ◌∷◌, ◌++◌, map, length, drop, refl, sym, ap, subst, ◌∙◌, Option, Some, None}
use Rattle.std.specs.Prelude.{slice_get}
use Rattle.std.proofs.Math.Seq.{drop-append_seam}
use Rattle.std.proofs.lemmas.Bool.{cond_both}
use Rattle.std.proofs.lemmas.List.{append-nil, length-map}
use Rattle.ksi_aggtree.specs.declared.item.Item.{Item}
use Rattle.ksi_synod.specs.declared.messages.SynodMessage.{SynodMessage}
use Rattle.ksi_synod.specs.declared.messages.SynodMessage.TheVariants as votes
use Rattle.ksi_signature.specs.declared.above.Above.{Above}
use Rattle.ksi_signature.specs.declared.answer.Answer.TheVariants as answers
use Rattle.ksi_synod.specs.CorePlans.{CorePlanState}
use Rattle.ksi_corenode.specs.SecondState.{SecondState}
use Rattle.ksi_corenode.specs.Turns.{Turn}
use Rattle.ksi_corenode.specs.Rows.{submitted, submission_row, seal_row, ballot_row, receive_row, tell_row, respond_row, respond_where, is_mine}
use Rattle.ksi_calendar.specs.Covered.{Roots, first_missing}
use Rattle.ksi_aggtree.specs.declared.entries.Entry.{Entry}
use Rattle.ksi_aggregator.specs.Rows.{RoundState, RoundTurn, submitted_entry, round_request, round_submission, round_close, round_response}
use Rattle.ksi_schedule.specs.declared.actor.Actor.{Actor}
use Rattle.ksi_schedule.specs.declared.actor.Actor.TheVariants as actors
use Rattle.ksi_schedule.specs.declared.event.Event.{Event}
use Rattle.ksi_schedule.specs.declared.event.Event.TheVariants as events
use Rattle.ksi_schedule.specs.Plans.{PlanState}
use Rattle.ksi_world.specs.declared.message.Content.{Content}
use Rattle.ksi_world.specs.declared.message.Content.TheVariants as contents
use Rattle.ksi_world.specs.declared.message.Message.{Message}
use Rattle.ksi_world.specs.Histories.{WorldState, Happening, outcome_of, core_message, round_message, at_core, at_round, unchanged, delivered, happens, first_world, after}
use Rattle.ksi_world.specs.Histories as histories
use Rattle.ksi_laws_facts.specs.Seen.{Seen, taken_from, seen_of, seen}
use Rattle.ksi_laws_facts.specs.Deeds.{Act, Deed, Accepted, Sealed, Closed, Answered, Restarted, of_second, facts_of, facts, open_items, held_root, numbered, where_done, first, tries, takes, is_actor, own, receives, does, deeds}
use Rattle.ksi_laws_facts.specs.State.{second_seen, held_seen, round_seen, wire_seen, requests_seen, world_seen}
use Rattle.ksi_laws_facts.specs.Steps.{new_facts, new_round_facts, Step, idle, by_core, by_round, by_message, by_delivery, step_by_facts, IsStepByFacts}
use Rattle.ksi_laws_facts.proofs.Voters.{IsPlanned}
use Rattle.ksi_laws_facts.proofs.Standing.{facts_for, did}
use Rattle.ksi_laws_facts.proofs.Growing as growing
use Rattle.ksi_laws_facts.proofs.NewFacts.{submission_adds, seal_adds, ballot_adds, receive_adds, same_adds, request_adds, item_adds, close_adds, response_adds, own_adds, none_adds}
use Rattle.ksi_laws_facts.proofs.ReadOff.{world_is}

-- deeds that are no facts
no_facts : (b a : Actor) (t : ℕ) (whats : List Act) → facts_of (did t whats) ≡ [] → facts_of (own b a t whats) ≡ []
no_facts b a t whats none = by (is_actor b a)
  where
    by : (mine : Bool) → facts_of (cond mine (did t whats) []) ≡ []
    by true = none
    by false = refl

restart_adds : (mine : Bool) → facts_of (cond mine (Restarted ∷ []) []) ≡ []
restart_adds true = refl
restart_adds false = refl

told_after : (core_plan : CorePlanState) (t j : ℕ) (s : SecondState) → (tell_row core_plan t j s).after ≡ s
unfolding tell_row
told_after core_plan t j s = refl

responded_after : (image : List ℕ → List ℕ) (held : Roots) (start t : ℕ) (s : SecondState) → (respond_row image held start t s).after ≡ s
unfolding respond_row
responded_after image held start t s = by s.sealed (first_missing held start t) (held t)
  where
    by : (items : Option (List Entry)) (missing : Option ℕ) (root : Option (List ℕ)) → (respond_where image held start t items missing root s).after ≡ s
    by None missing root = refl
    by (Some items) (Some u) root = refl
    by (Some items) None None = refl
    by (Some items) None (Some root) = cond_both (is_mine image items root) _ _ (λ (turn : Turn). turn.after ≡ s) (λ _. refl) (λ _. refl)

module _ (image : List ℕ → List ℕ) (plan : PlanState) (is : IsPlanned plan) where
  module _ (past : List Seen) where
    abbrev w : WorldState
    w = world_seen image plan past

    abbrev At : (j t : ℕ) → SecondState
    At j t = second_seen image plan past j t

    -- what happens has the answer and the messages of a step
    record IsTold (h : Happening) (s : Step) : Type 0 where
      answer : h.outcome ≡ outcome_of s.answer (length s.sends)
      sends : h.world.wire ≡ wire_seen past ++ s.sends

    core_told : (j t : ℕ) (row : SecondState → Turn) → IsTold (at_core w j t (row (At j t))) (by_core image plan past j t row)
    core_told j t row = record { answer = ap (outcome_of (row (At j t)).answer) (sym (length-map (row (At j t)).sends (core_message j t))); sends = refl }

    round_told : (k t : ℕ) (row : RoundState → RoundTurn) → IsTold (at_round plan w k t (row (round_seen past k t))) (by_round image plan past k t row)
    round_told k t row = record { answer = ap (outcome_of (row (round_seen past k t)).answer) (sym (length-map (row (round_seen past k t)).sends (round_message plan k t))); sends = refl }

    none_told : IsTold (unchanged w answers.Nothing) (idle answers.Nothing)
    none_told = record { answer = refl; sends = sym (append-nil (wire_seen past)) }

    taken_told : (s a : Actor) (t : ℕ) (c : Content) → IsTold (histories.taken image plan w s a t c) (by_message image plan past s a t c)
    taken_told (actors.Core from) (actors.Core j) t (contents.Synod m) = core_told j t (receive_row (core_plan_of plan) t from m)
    taken_told (actors.Aggregator from) (actors.Core j) t (contents.Submission item) = core_told j t (submission_row from item)
    taken_told (actors.Aggregator from) (actors.Aggregator k) t (contents.Submission item) = round_told k t (round_submission from item)
    taken_told (actors.Core from) (actors.Aggregator k) t (contents.Response above) = round_told k t (round_response image above)
    taken_told (actors.Aggregator from) (actors.Aggregator k) t (contents.Response above) = round_told k t (round_response image above)
    taken_told (actors.Core from) (actors.Core j) t (contents.Submission item) = none_told
    taken_told (actors.Core from) (actors.Core j) t (contents.Response above) = none_told
    taken_told (actors.Aggregator from) (actors.Core j) t (contents.Synod m) = none_told
    taken_told (actors.Aggregator from) (actors.Core j) t (contents.Response above) = none_told
    taken_told (actors.Core from) (actors.Aggregator k) t (contents.Synod m) = none_told
    taken_told (actors.Core from) (actors.Aggregator k) t (contents.Submission item) = none_told
    taken_told (actors.Aggregator from) (actors.Aggregator k) t (contents.Synod m) = none_told

    delivery_told : (o : Option Message) → IsTold (delivered image plan w o) (by_delivery image plan past o)
    delivery_told None = none_told
    delivery_told (Some m) = taken_told m.sender m.addressee m.second m.content

    table_told : (e : Event) → IsTold (happens image plan w e) (step_by_facts image plan past e)
    unfolding happens step_by_facts
    table_told (events.Request k t imprint name) = let told = round_told k t (round_request (length (requests_seen past)) imprint name) in record { answer = told.answer; sends = told.sends }
    table_told (events.Close k t) = round_told k t (round_close image)
    table_told (events.Seal j t) = core_told j t (seal_row image)
    table_told (events.Ballot j t) = core_told j t (ballot_row (core_plan_of plan) t j)
    table_told (events.Deliver number) = delivery_told (slice_get (wire_seen past) number)
    table_told (events.Tell j t) = core_told j t (tell_row (core_plan_of plan) t j)
    table_told (events.Respond j t) = core_told j t (respond_row image (held_seen past j) plan.start t)
    table_told (events.Publish j p) = record { answer = refl; sends = sym (append-nil (wire_seen past)) }
    table_told (events.RestartCore j) = record { answer = refl; sends = sym (append-nil (wire_seen past)) }
    table_told (events.RestartAggregator k) = record { answer = refl; sends = sym (append-nil (wire_seen past)) }

    -- NEW FACTS

    module _ (b : Actor) where
      -- the root that the addressee held
      abbrev Old : (addressee : Actor) (t : ℕ) → Option (List ℕ)
      Old addressee t = held_root (facts_of (of_second t (deeds addressee past)))

      old_is : (j t : ℕ) → (At j t).vote.held ≡ Old (actors.Core j) t
      old_is j t = ap held_root (facts_for t (deeds (actors.Core j) past))

      abbrev Takes : (s a : Actor) (t : ℕ) (c : Content) → Step → Type 0
      Takes s a t c step = facts_of (own b a t (takes s c step.answer step.sends (Old b t))) ≡ step.facts b

      vote_added : (from j t : ℕ) (m : SynodMessage) → Takes (actors.Core from) (actors.Core j) t (contents.Synod m) (by_core image plan past j t (receive_row (core_plan_of plan) t from m))
      vote_added from j t m =
          let turn = receive_row (core_plan_of plan) t from m (At j t) in
          let sent : List Message = map (core_message j t) turn.sends in
          own_adds b (actors.Core j) t (λ b. takes (actors.Core from) (contents.Synod m) turn.answer sent (Old b t)) (new_facts (At j t) turn.after)
          (subst (λ (o : Option (List ℕ)). facts_of (did t (takes (actors.Core from) (contents.Synod m) turn.answer sent o)) ≡ did t (new_facts (At j t) turn.after)) (old_is j t) (receive_adds t (At j t) (core_plan_of plan) j is.core_plan.some from m))

      item_added : (from j t : ℕ) (item : Item) → Takes (actors.Aggregator from) (actors.Core j) t (contents.Submission item) (by_core image plan past j t (submission_row from item))
      item_added from j t item =
          let turn = submission_row from item (At j t) in
          own_adds b (actors.Core j) t (λ b. where_done turn.answer (Accepted (submitted from item))) (new_facts (At j t) turn.after) (submission_adds t (At j t) from item)

      lower_item_added : (from k t : ℕ) (item : Item) → Takes (actors.Aggregator from) (actors.Aggregator k) t (contents.Submission item) (by_round image plan past k t (round_submission from item))
      lower_item_added from k t item =
          let turn = round_submission from item (round_seen past k t) in
          own_adds b (actors.Aggregator k) t (λ b. where_done turn.answer (Accepted (submitted_entry from item))) (new_round_facts (round_seen past k t) turn.after) (item_adds t (round_seen past k t) from item)

      response_added : (k t : ℕ) (above : Above) → facts_of (own b (actors.Aggregator k) t (where_done (round_response image above (round_seen past k t)).answer (Answered above))) ≡ (by_round image plan past k t (round_response image above)).facts b
      response_added k t above =
          let turn = round_response image above (round_seen past k t) in
          own_adds b (actors.Aggregator k) t (λ b. where_done turn.answer (Answered above)) (new_round_facts (round_seen past k t) turn.after) (response_adds t (round_seen past k t) image above)

      stray : (from t : ℕ) (m : SynodMessage) (old : Option (List ℕ)) → facts_of (did t (takes (actors.Core from) (contents.Synod m) answers.Nothing [] old)) ≡ []
      stray from t (votes.NextBallot n) old = refl
      stray from t (votes.LastVote l) old = refl
      stray from t (votes.BeginBallot n d) old = refl
      stray from t (votes.Voted n) old = refl
      stray from t (votes.Success d) old = refl

      taken_added : (s a : Actor) (t : ℕ) (c : Content) → Takes s a t c (by_message image plan past s a t c)
      taken_added (actors.Core from) (actors.Core j) t (contents.Synod m) = vote_added from j t m
      taken_added (actors.Aggregator from) (actors.Core j) t (contents.Submission item) = item_added from j t item
      taken_added (actors.Aggregator from) (actors.Aggregator k) t (contents.Submission item) = lower_item_added from k t item
      taken_added (actors.Core from) (actors.Aggregator k) t (contents.Response above) = response_added k t above
      taken_added (actors.Aggregator from) (actors.Aggregator k) t (contents.Response above) = response_added k t above
      taken_added (actors.Core from) (actors.Core j) t (contents.Submission item) = no_facts b (actors.Core j) t [] refl
      taken_added (actors.Core from) (actors.Core j) t (contents.Response above) = no_facts b (actors.Core j) t [] refl
      taken_added (actors.Aggregator from) (actors.Core j) t (contents.Synod m) = no_facts b (actors.Core j) t [] refl
      taken_added (actors.Aggregator from) (actors.Core j) t (contents.Response above) = no_facts b (actors.Core j) t [] refl
      taken_added (actors.Core from) (actors.Aggregator k) t (contents.Synod m) = no_facts b (actors.Aggregator k) t (takes (actors.Core from) (contents.Synod m) answers.Nothing [] (Old b t)) (stray from t m (Old b t))
      taken_added (actors.Core from) (actors.Aggregator k) t (contents.Submission item) = no_facts b (actors.Aggregator k) t [] refl
      taken_added (actors.Aggregator from) (actors.Aggregator k) t (contents.Synod m) = no_facts b (actors.Aggregator k) t [] refl

      delivery_added : (o : Option Message) → facts_of (receives b o (by_delivery image plan past o).answer (by_delivery image plan past o).sends (deeds b past)) ≡ (by_delivery image plan past o).facts b
      delivery_added None = refl
      delivery_added (Some m) = taken_added m.sender m.addressee m.second m.content

      nothing_added : (j t : ℕ) (row : SecondState → Turn) → (row (At j t)).after ≡ At j t → [] ≡ (by_core image plan past j t row).facts b
      nothing_added j t row same = none_adds b (actors.Core j) t (new_facts (At j t) (row (At j t)).after) (ap (new_facts (At j t)) same ∙ same_adds t (At j t))

      table_added : (e : Event) → facts_of (does b e (taken_from (wire_seen past) e) (step_by_facts image plan past e).answer (step_by_facts image plan past e).sends (deeds b past)) ≡ (step_by_facts image plan past e).facts b
      unfolding step_by_facts
      table_added (events.Request k t imprint name) =
          let turn = round_request (length (requests_seen past)) imprint name (round_seen past k t) in
          own_adds b (actors.Aggregator k) t (λ b. numbered imprint name turn.answer) (new_round_facts (round_seen past k t) turn.after) (request_adds t (round_seen past k t) (length (requests_seen past)) imprint name)
      table_added (events.Close k t) =
          let turn = round_close image (round_seen past k t) in
          own_adds b (actors.Aggregator k) t (λ b. where_done turn.answer (Closed (open_items (of_second t (deeds b past))))) (new_round_facts (round_seen past k t) turn.after) (close_adds t (round_seen past k t) image)
      table_added (events.Seal j t) =
          let turn = seal_row image (At j t) in
          own_adds b (actors.Core j) t (λ b. where_done turn.answer (Sealed (open_items (of_second t (deeds b past))))) (new_facts (At j t) turn.after) (seal_adds t (At j t) image)
      table_added (events.Ballot j t) =
          let turn = ballot_row (core_plan_of plan) t j (At j t) in
          own_adds b (actors.Core j) t (λ b. tries (first (map (core_message j t) turn.sends))) (new_facts (At j t) turn.after) (ballot_adds t (At j t) (core_plan_of plan) j (is.voters t).some)
      table_added (events.Deliver number) = delivery_added (slice_get (wire_seen past) number)
      table_added (events.Tell j t) = nothing_added j t (tell_row (core_plan_of plan) t j) (told_after (core_plan_of plan) t j (At j t))
      table_added (events.Respond j t) = nothing_added j t (respond_row image (held_seen past j) plan.start t) (responded_after image (held_seen past j) plan.start t (At j t))
      table_added (events.Publish j p) = refl
      table_added (events.RestartCore j) = restart_adds (is_actor b (actors.Core j))
      table_added (events.RestartAggregator k) = restart_adds (is_actor b (actors.Aggregator k))

  -- AFTER ANY EVENTS

  next : (es : List Event) (e : Event) → seen image plan (es ++ e ∷ []) ≡ seen_of image plan (after image plan es) e ∷ seen image plan es
  unfolding seen after
  next es e = growing.parts image plan (actors.Core 0) es (e ∷ []) (first_world plan) []

  seen_next : (es : List Event) (e : Event) → seen_of image plan (after image plan es) e ≡ record {
    event = e;
    taken = taken_from (wire_seen (seen image plan es)) e;
    answer = (step_by_facts image plan (seen image plan es) e).answer;
    sent = (step_by_facts image plan (seen image plan es) e).sends;
  }
  seen_next es e =
      ap (λ (w : WorldState). seen_of image plan w e) (world_is image plan is es) ∙ by (seen image plan es)
    where
      by : (past : List Seen) → seen_of image plan (world_seen image plan past) e ≡ record {
        event = e;
        taken = taken_from (wire_seen past) e;
        answer = (step_by_facts image plan past e).answer;
        sent = (step_by_facts image plan past e).sends;
      }
      by past = let told = table_told past e in λ i. record {
        event = e;
        taken = taken_from (wire_seen past) e;
        answer = (told.answer i).answer;
        sent = (ap (drop (length (wire_seen past))) told.sends ∙ drop-append_seam (wire_seen past) (step_by_facts image plan past e).sends) i;
      }

  pub by_facts : (es : List Event) (e : Event) → IsStepByFacts image plan es e
  by_facts es e =
      let past = seen image plan es in
      let world = world_is image plan is es in
      let told = table_told past e in
      record {
        outcome = ap (λ (w : WorldState). (happens image plan w e).outcome) world ∙ told.answer;
        facts = λ actor. ap (facts actor) (next es e) ∙ growing.now image plan actor (seen_of image plan (after image plan es) e) past
            ∙ ap (λ (x : Seen). facts_of (does actor x.event x.taken x.answer x.sent (deeds actor past)) ++ facts actor past) (seen_next es e)
            ∙ ap (λ (ds : List Deed). ds ++ facts actor past) (table_added past actor e);
        sends = ap (λ (w : WorldState). (happens image plan w e).world.wire) world ∙ told.sends
            ∙ sym (ap (λ (w : WorldState). w.wire ++ (step_by_facts image plan past e).sends) world);
      }
