-- Whatever happens, what always holds of the vote on each second goes on to hold.
use Rattle.ksi_schedule.specs.Plans.{core_plan_of}
use Rattle.std.proofs.Common.{◌≡◌, ℕ, ◌<◌, ◌≤◌, false, cond, eqb, is_some, List, [], ◌∷◌, ◌++◌, length, refl, sym, ap, subst, ◌∙◌, arith, inl, inr, Option, Some, None, length-append}
use Rattle.std.specs.Prelude.{slice_get, option_map}
use Rattle.std.proofs.lemmas.Bool.{cond_both, cond-true, cond-false, eq-eqb, eqb-false, ne_eqb}
use Rattle.ksi_aggtree.specs.declared.item.Item.{Item}
use Rattle.ksi_aggtree.specs.declared.entries.Entry.{Entry}
use Rattle.ksi_aggtree.specs.Entries.{items_of, has_from, is_full, candidate_of}
use Rattle.ksi_synod.specs.declared.messages.SynodMessage.{SynodMessage}
use Rattle.ksi_synod.specs.VoteState.{fresh_vote}
use Rattle.ksi_synod.specs.Rows.{seal, try_ballot, ballot_told, receive, held_told, restarted}
use Rattle.ksi_synod.specs.Reached.{seals, tries, tells, takes, restarts, start, step}
use Rattle.ksi_signature.specs.declared.answer.Answer.TheVariants as answers
use Rattle.ksi_corenode.specs.SecondState.{SecondState, fresh_second}
use Rattle.ksi_calendar.specs.Covered.{Roots, first_missing, covered_seconds}
use Rattle.ksi_corenode.specs.Rows.{submission_row, submitted, item_taken, seal_row, sealed_now, ballot_row, receive_row, tell_row, respond_row, respond_where, responded, above_item, is_mine, restart_row}
use Rattle.ksi_aggregator.specs.Rows.{round_request, round_submission, round_close, round_response}
use Rattle.ksi_schedule.specs.declared.actor.Actor.{Actor}
use Rattle.ksi_schedule.specs.declared.actor.Actor.TheVariants as actors
use Rattle.ksi_schedule.specs.declared.event.Event.{Event}
use Rattle.ksi_schedule.specs.declared.event.Event.TheVariants as events
use Rattle.ksi_schedule.specs.Plans.{PlanState, IsPlan}
use Rattle.ksi_schedule.specs.Events.{IsEvent, AreEvents}
use Rattle.ksi_world.specs.declared.message.Content.{Content}
use Rattle.ksi_world.specs.declared.message.Content.TheVariants as contents
use Rattle.ksi_world.specs.declared.message.Message.{Message}
use Rattle.ksi_world.specs.Histories.{WorldState, at_core, delivered, happens, held_in, first_world, run, after}
use Rattle.ksi_world.specs.Histories as histories
use Rattle.ksi_world.specs.Deciding.{decides, IsTold}
use Rattle.ksi_world.proofs.Leaving.{receive_leaves, try_leaves, seal_sets, seal_holds}
use Rattle.ksi_world.proofs.Voting.{only_told, only_responses, IsSealedSo, IsVoted, turn_voted, quiet_voted, still_voted, round_voted}

none_sealed : {A : Type 0} (o : Option A) → is_some o ≡ false → o ≡ None
none_sealed None is = refl
none_sealed (Some x) is = absurd (cc is)

module _ (image : List ℕ → List ℕ) (plan : PlanState) where
  abbrev pub Voted : WorldState → Type 0
  Voted w = IsVoted image plan w.seconds w.wire

  module _ (w : WorldState) (voted : Voted w) where
    -- A TURN OF A CORE

    submission_voted : (j u from : ℕ) (item : Item) → Voted (at_core w j u (submission_row from item (w.seconds j u))).world
    unfolding submission_row
    submission_voted j u from item =
        let s = w.seconds j u in
        let old = voted.sealed j u in
        cond_both (is_some s.sealed) _ _ (λ turn. Voted (at_core w j u turn).world) (λ _. still_voted image plan w.seconds w.wire voted j u answers.Late)
        (λ _. cond_both (has_from from s.open_items) _ _ (λ row. Voted (at_core w j u (item_taken s row)).world) (λ _. quiet_voted image plan w.seconds w.wire voted j u (item_taken s (s.open_items, answers.Known)) refl refl old.open_few tt)
        (λ _. cond_both (is_full s.open_items) _ _ (λ row. Voted (at_core w j u (item_taken s row)).world) (λ _. quiet_voted image plan w.seconds w.wire voted j u (item_taken s (s.open_items, answers.Full)) refl refl old.open_few tt)
        (λ room.
        let ne : length s.open_items ≡ 65536 → ⊥ = eqb-false (length s.open_items) 65536 room in
        quiet_voted image plan w.seconds w.wire voted j u (item_taken s (s.open_items ++ submitted from item ∷ [], answers.Done)) refl refl (omega (arith, length-append s.open_items (submitted from item ∷ []), old.open_few, ne)) tt)))

    seal_voted : (j u : ℕ) → j < plan.cores → Voted (at_core w j u (seal_row image (w.seconds j u))).world
    unfolding seal_row
    seal_voted j u lt =
        let s = w.seconds j u in
        let old = voted.sealed j u in
        cond_both (is_some s.sealed) _ _ (λ turn. Voted (at_core w j u turn).world) (λ _. still_voted image plan w.seconds w.wire voted j u answers.Sealed)
        (λ free. turn_voted image plan w.seconds w.wire voted j u (sealed_now image s) (seal s.vote (candidate_of image s.open_items), None) (record {
          state = refl;
          only = tt;
          moves = λ said heard. inl (seals (candidate_of image s.open_items) refl);
          sealed = record {
            candidate = seal_sets s.vote (candidate_of image s.open_items) (old.candidate ∙ ap (option_map (candidate_of image)) (none_sealed s.sealed free));
            mine = λ entries at. lt;
            few = λ entries at. let same : s.open_items ≡ entries = cc at in subst (λ es. length es ≤ 65536) same old.open_few;
            open_few = omega arith;
          };
          told = λ d is. inl (sym (seal_holds s.vote (candidate_of image s.open_items)) ∙ is);
        }))

    ballot_voted : (j u : ℕ) → j < 16 → Voted (at_core w j u (ballot_row (core_plan_of plan) u j (w.seconds j u))).world
    unfolding ballot_row
    ballot_voted j u lt =
        let s = w.seconds j u in
        let old = voted.sealed j u in
        let quiet = try_leaves s.vote in
        turn_voted image plan w.seconds w.wire voted j u (ballot_row (core_plan_of plan) u j s) ((try_ballot s.vote).0, ballot_told (try_ballot s.vote).1) (record {
          state = refl;
          only = only_told (core_plan_of plan) u j (ballot_told (try_ballot s.vote).1);
          moves = λ said heard. inl (tries lt refl);
          sealed = record { candidate = quiet.candidate ∙ old.candidate; mine = old.mine; few = old.few; open_few = old.open_few };
          told = λ d is. inl (sym quiet.held ∙ is);
        })

    tell_voted : (j u : ℕ) → Voted (at_core w j u (tell_row (core_plan_of plan) u j (w.seconds j u))).world
    unfolding tell_row
    tell_voted j u =
        let s = w.seconds j u in
        let old = voted.sealed j u in
        turn_voted image plan w.seconds w.wire voted j u (tell_row (core_plan_of plan) u j s) (s.vote, held_told s.vote.held) (record {
          state = refl;
          only = only_told (core_plan_of plan) u j (held_told s.vote.held);
          moves = λ said heard. inl (tells refl);
          sealed = record { candidate = old.candidate; mine = old.mine; few = old.few; open_few = old.open_few };
          told = λ d is. inl is;
        })

    respond_voted : (j u : ℕ) (held : Roots) → Voted (at_core w j u (respond_row image held plan.start u (w.seconds j u))).world
    unfolding respond_row
    respond_voted j u held = by s.sealed (first_missing held plan.start u) (held u)
      where
        s : SecondState
        s = w.seconds j u

        by : (sealed : Option (List Entry)) (missing : Option ℕ) (root : Option (List ℕ)) → Voted (at_core w j u (respond_where image held plan.start u sealed missing root s)).world
        by None missing root = still_voted image plan w.seconds w.wire voted j u answers.Unsealed
        by (Some entries) (Some missing) root = still_voted image plan w.seconds w.wire voted j u (answers.Undecided missing)
        by (Some entries) None None = still_voted image plan w.seconds w.wire voted j u (answers.Undecided u)
        by (Some entries) None (Some root) = cond_both (is_mine image entries root) _ _ (λ turn. Voted (at_core w j u turn).world)
            (λ _. quiet_voted image plan w.seconds w.wire voted j u (responded image held plan.start u entries root s) refl refl (voted.sealed j u).open_few
            (only_responses (above_item image (covered_seconds held plan.start u) u root (items_of entries)) 0 entries None))
            (λ _. still_voted image plan w.seconds w.wire voted j u answers.NotMine)

    -- a message of the vote that is in the wire
    receive_voted : (j u from : ℕ) (m : SynodMessage) (number : ℕ) (x : Message) → slice_get w.wire number ≡ Some x → x.second ≡ u → x.sender ≡ actors.Core from → x.content ≡ contents.Synod m →
        Voted (at_core w j u (receive_row (core_plan_of plan) u from m (w.seconds j u))).world
    unfolding receive_row
    receive_voted j u from m number x at second sender content =
        let s = w.seconds j u in
        let old = voted.sealed j u in
        let leaves = receive_leaves s.vote from m in
        turn_voted image plan w.seconds w.wire voted j u (receive_row (core_plan_of plan) u from m s) (receive s.vote from m) (record {
          state = refl;
          only = only_told (core_plan_of plan) u from (receive s.vote from m).1;
          moves = λ said heard. inl (takes from m (heard number x at second from sender m content) refl);
          sealed = record { candidate = leaves.candidate ∙ old.candidate; mine = old.mine; few = old.few; open_few = old.open_few };
          told = λ d is. elim (leaves.held d is) [
            | inl held ↦ inl held
            | inr decides_it ↦ inr (record { number = number; message = x; at = at; about = second; decisive = ap decides content ∙ decides_it })
          ];
        })

    -- AN EVENT

    delivered_voted : (number : ℕ) (found : Option Message) → slice_get w.wire number ≡ found → Voted (delivered image plan w found).world
    delivered_voted number None at = voted
    delivered_voted number (Some x) at = to x.sender x.addressee x.content refl refl
      where
        to : (sender addressee : Actor) (content : Content) → x.sender ≡ sender → x.content ≡ content → Voted (histories.taken image plan w sender addressee x.second content).world
        to (actors.Core from) (actors.Core j) (contents.Synod m) by is = receive_voted j x.second from m number x at refl by is
        to (actors.Aggregator from) (actors.Core j) (contents.Submission item) by is = submission_voted j x.second from item
        to (actors.Aggregator from) (actors.Aggregator k) (contents.Submission item) by is = round_voted image plan w.seconds w.wire voted k x.second (round_submission from item (w.rounds k x.second)).sends
        to (actors.Core from) (actors.Aggregator k) (contents.Response above) by is = round_voted image plan w.seconds w.wire voted k x.second (round_response image above (w.rounds k x.second)).sends
        to (actors.Aggregator from) (actors.Aggregator k) (contents.Response above) by is = round_voted image plan w.seconds w.wire voted k x.second (round_response image above (w.rounds k x.second)).sends
        to (actors.Core from) (actors.Aggregator k) (contents.Submission item) by is = voted
        to (actors.Core from) (actors.Core j) (contents.Submission item) by is = voted
        to (actors.Core from) (actors.Aggregator k) (contents.Synod m) by is = voted
        to (actors.Aggregator from) (actors.Aggregator k) (contents.Synod m) by is = voted
        to (actors.Aggregator from) (actors.Core j) (contents.Synod m) by is = voted
        to (actors.Core from) (actors.Core j) (contents.Response above) by is = voted
        to (actors.Aggregator from) (actors.Core j) (contents.Response above) by is = voted

    restart_voted : (j : ℕ) → IsVoted image plan (λ i t. cond (eqb i j) (restart_row (w.seconds i t)) (w.seconds i t)) w.wire
    restart_voted j = record {
      vote = λ t. let vote = voted.vote t in record {
        said = vote.said;
        reached = step {states' = λ k. (cond (eqb k j) (restart_row (w.seconds k t)) (w.seconds k t)).vote} {r = (restarted (w.seconds j t).vote, None)} j vote.reached (restarts refl)
            (λ k ne. ap (λ (s : SecondState). s.vote) (cond-false (eqb k j) (restart_row (w.seconds k t)) (w.seconds k t) (ne_eqb k j ne)))
            (ap (λ (s : SecondState). s.vote) (cond-true (eqb j j) (restart_row (w.seconds j t)) (w.seconds j t) (eq-eqb j j refl)));
        heard = vote.heard;
      };
      sealed = λ i t. let old = voted.sealed i t in cond_both (eqb i j) (restart_row (w.seconds i t)) (w.seconds i t) (λ s. IsSealedSo image plan i s)
          (λ _. record { candidate = old.candidate; mine = old.mine; few = old.few; open_few = omega arith }) (λ _. old);
      told = λ i t d. cond_both (eqb i j) (restart_row (w.seconds i t)) (w.seconds i t) (λ s. s.vote.held ≡ Some d → IsTold w.wire t) (λ _. voted.told i t d) (λ _. voted.told i t d);
    }

    pub happens_voted : (e : Event) → plan.cores ≤ 9 → IsEvent plan e → Voted (happens image plan w e).world
    unfolding happens
    happens_voted (events.Request k u imprint name) few at = round_voted image plan w.seconds w.wire voted k u (round_request (length w.requests) imprint name (w.rounds k u)).sends
    happens_voted (events.Close k u) few at = round_voted image plan w.seconds w.wire voted k u (round_close image (w.rounds k u)).sends
    happens_voted (events.Seal j u) few at = seal_voted j u at.0
    happens_voted (events.Ballot j u) few at = ballot_voted j u (omega (arith, at.0, few))
    happens_voted (events.Deliver number) few at = delivered_voted number (slice_get w.wire number) refl
    happens_voted (events.Tell j u) few at = tell_voted j u
    happens_voted (events.Respond j u) few at = respond_voted j u (held_in w j)
    happens_voted (events.Publish j p) few at = voted
    happens_voted (events.RestartCore j) few at = restart_voted j
    happens_voted (events.RestartAggregator k) few at = voted

  -- A HISTORY

  run_voted : plan.cores ≤ 9 → (es : List Event) (w : WorldState) → AreEvents plan es → Voted w → Voted (run image plan w es)
  run_voted few [] w are voted = voted
  run_voted few (e ∷ es) w are voted = run_voted few es (happens image plan w e).world are.1 (happens_voted w voted e few are.0)

  pub first_voted : Voted (first_world plan)
  unfolding first_world fresh_second fresh_vote
  first_voted = record {
    vote = λ t. record { said = []; reached = start (λ k. refl); heard = λ k x at second from sender m content. absurd (cc at) };
    sealed = λ j t. record { candidate = refl; mine = λ entries at. absurd (cc at); few = λ entries at. absurd (cc at); open_few = omega arith };
    told = λ j t d is. absurd (cc is);
  }

  pub after_voted : IsPlan plan → (es : List Event) → AreEvents plan es → Voted (after image plan es)
  unfolding after
  after_voted is es are = run_voted is.core_plan.few es (first_world plan) are first_voted
