-- After every history, every second and every round is what was seen of it.
use Rattle.ksi_schedule.specs.Plans.{core_plan_of}
use Rattle.std.proofs.Common.{◌≡◌, ℕ, ◌<◌, Bool, true, false, cond, ◌&&◌, eqb, List, [], ◌∷◌, ◌++◌, map, length, drop, refl, sym, ap, subst, ◌∙◌, arith, Option, Some, None}
use Rattle.std.specs.Prelude.{slice_get}
use Rattle.std.proofs.Math.Seq.{drop-append_seam}
use Rattle.std.proofs.lemmas.Bool.{eqb-true, and_parts, false≢true}
use Rattle.std.proofs.lemmas.List.{append-nil}
use Rattle.ksi_aggtree.specs.declared.item.Item.{Item}
use Rattle.ksi_synod.specs.declared.messages.SynodMessage.{SynodMessage}
use Rattle.ksi_synod.specs.declared.messages.SynodMessage.TheVariants as votes
use Rattle.ksi_synod.specs.Voters.{is_voter}
use Rattle.ksi_synod.specs.VoteState.{Hand, fresh_vote}
use Rattle.ksi_signature.specs.declared.above.Above.{Above}
use Rattle.ksi_signature.specs.declared.answer.Answer.{Answer}
use Rattle.ksi_signature.specs.declared.answer.Answer.TheVariants as answers
use Rattle.ksi_synod.specs.CorePlans.{voters_of}
use Rattle.ksi_corenode.specs.SecondState.{SecondState, fresh_second}
use Rattle.ksi_corenode.specs.Turns.{Turn}
use Rattle.ksi_corenode.specs.Rows.{submitted, submission_row, seal_row, ballot_row, receive_row, tell_row, respond_row, restart_row, publish_answer}
use Rattle.ksi_aggregator.specs.Rows.{RoundState, RoundTurn, round_still, submitted_entry, round_request, round_submission, round_close, round_response, round_restarted}
use Rattle.ksi_schedule.specs.declared.actor.Actor.{Actor}
use Rattle.ksi_schedule.specs.declared.actor.Actor.TheVariants as actors
use Rattle.ksi_schedule.specs.declared.event.Event.{Event}
use Rattle.ksi_schedule.specs.declared.event.Event.TheVariants as events
use Rattle.ksi_schedule.specs.Plans.{PlanState}
use Rattle.ksi_world.specs.declared.message.Content.{Content}
use Rattle.ksi_world.specs.declared.message.Content.TheVariants as contents
use Rattle.ksi_world.specs.declared.message.Message.{Message}
use Rattle.ksi_world.specs.Histories.{WorldState, Happening, held_in, core_message, round_message, message_of, at_core, at_round, unchanged, request_happens, publish_happens, core_restarts, aggregator_restarts, delivered, happens, first_world, run, after}
use Rattle.ksi_world.specs.Histories as histories
use Rattle.ksi_laws_facts.specs.Seen.{Seen, seen_of, seen_from, seen}
use Rattle.ksi_laws_facts.specs.Deeds.{Act, Deed, Accepted, Sealed, Closed, Answered, Restarted, of_second, facts_of, open_items, tried_ballot, held_root, numbered, where_done, first, tries, takes, is_actor, own, does, deeds}
use Rattle.ksi_laws_facts.specs.Since.{Since, since}
use Rattle.ksi_laws_facts.specs.State.{own_candidate}
use Rattle.ksi_laws_facts.specs.Recalled.{IsStableState, IsStableRound, IsInHand, IsRecalledSecond, IsRecalledRound}
use Rattle.ksi_laws_facts.proofs.Voters.{IsPlanned, below_is}
use Rattle.ksi_laws_facts.proofs.Standing.{IsInHandSo, IsSo, IsRoundSo, facts_for, since_tried, did, observed, round_observed}
use Rattle.ksi_laws_facts.proofs.CoreRows.{submission_so, seal_so, ballot_so, receive_so, tell_so, respond_so, restart_so}
use Rattle.ksi_laws_facts.proofs.RoundRows as rows

cond_same : {A : Type 0} (b : Bool) (x : A) → cond b x x ≡ x
cond_same true x = refl
cond_same false x = refl

put_same : {A : Type 0} (f : ℕ → ℕ → A) (k t i u : ℕ) → cond (eqb i k && eqb u t) (f k t) (f i u) ≡ f i u
put_same {A} f k t i u = by (eqb i k && eqb u t) refl
  where
    by : (b : Bool) → (eqb i k && eqb u t) ≡ b → cond b (f k t) (f i u) ≡ f i u
    by true e = let parts = and_parts _ _ e in ap (λ (k : ℕ). f k t) (sym (eqb-true i k parts.0)) ∙ ap (f i) (sym (eqb-true u t parts.1))
    by false e = refl

-- an event that takes no message, and a message that is delivered
abbrev plain : Event → Answer → List Message → Seen
plain e answer sent = record { event = e; taken = None; answer = answer; sent = sent }

abbrev post : (number : ℕ) → (sender addressee : Actor) (second : ℕ) → Content → Answer → List Message → Seen
post number s a t c answer sent = record { event = events.Deliver number; taken = Some (message_of s a t c); answer = answer; sent = sent }

module _ (image : List ℕ → List ℕ) (plan : PlanState) (is : IsPlanned plan) where
  abbrev pub Ds : (past : List Seen) (a : Actor) (t : ℕ) → List Deed
  Ds past a t = of_second t (deeds a past)

  abbrev pub SoAt : (past : List Seen) (j t : ℕ) → SecondState → Type 0
  SoAt past j t s = IsSo image (voters_of (core_plan_of plan) t) j (Ds past (actors.Core j) t) s

  abbrev pub RoundAt : (past : List Seen) (k t : ℕ) → RoundState → Type 0
  RoundAt past k t r = IsRoundSo (Ds past (actors.Aggregator k) t) r

  pub record All (w : WorldState) (past : List Seen) : Type 0 where
    pub seconds : (j t : ℕ) → SoAt past j t (w.seconds j t)
    pub rounds : (k t : ℕ) → RoundAt past k t (w.rounds k t)

  small : (t y : ℕ) → is_voter (voters_of (core_plan_of plan) t) y ≡ true → y < 9
  small t y e = let lt = below_is plan.cores (voters_of (core_plan_of plan) t) y (is.voters t).there e in let few = is.core_plan.few in omega (arith, lt, few)

  -- A TURN OF ONE ACTOR'S SECOND

  module _ (w : WorldState) (past : List Seen) (all : All w past) where
    abbrev Does : Seen → (a : Actor) (u : ℕ) → (Actor → List Act) → Type 0
    Does x a u whats = (b : Actor) → does b x.event x.taken x.answer x.sent (deeds b past) ≡ own b a u (whats b)

    abbrev CoreAfter : (i u : ℕ) → List Act → SecondState → Type 0
    CoreAfter i u whats s = IsSo image (voters_of (core_plan_of plan) u) i (did u whats ++ Ds past (actors.Core i) u) s

    abbrev RoundAfter : (k u : ℕ) → List Act → RoundState → Type 0
    RoundAfter k u whats r = IsRoundSo (did u whats ++ Ds past (actors.Aggregator k) u) r

    module _ (x : Seen) (i u : ℕ) (whats : Actor → List Act) where
      core_turned : Does x (actors.Core i) u whats → (turn : Turn) → CoreAfter i u (whats (actors.Core i)) turn.after → All (at_core w i u turn).world (x ∷ past)
      core_turned does_it turn row = record {
        seconds = λ j t. observed past x (actors.Core i) u whats does_it image (voters_of (core_plan_of plan) t) j t (w.seconds j t) turn.after (eqb j i && eqb t u) refl
            (λ e. let parts = and_parts _ _ e in
            subst (λ (j : ℕ). IsSo image (voters_of (core_plan_of plan) t) j (did u (whats (actors.Core j)) ++ Ds past (actors.Core j) t) turn.after) (sym (eqb-true j i parts.0))
            (subst (λ (t : ℕ). IsSo image (voters_of (core_plan_of plan) t) i (did u (whats (actors.Core i)) ++ Ds past (actors.Core i) t) turn.after) (sym (eqb-true t u parts.1)) row))
            (all.seconds j t);
        rounds = λ k t. round_observed past x (actors.Core i) u whats does_it k t (w.rounds k t) (w.rounds k t) false refl (λ e. absurd (false≢true e)) (all.rounds k t);
      }

      round_turned : Does x (actors.Aggregator i) u whats → (turn : RoundTurn) → RoundAfter i u (whats (actors.Aggregator i)) turn.after → All (at_round plan w i u turn).world (x ∷ past)
      round_turned does_it turn row = record {
        seconds = λ j t. observed past x (actors.Aggregator i) u whats does_it image (voters_of (core_plan_of plan) t) j t (w.seconds j t) (w.seconds j t) false refl (λ e. absurd (false≢true e)) (all.seconds j t);
        rounds = λ k t. round_observed past x (actors.Aggregator i) u whats does_it k t (w.rounds k t) turn.after (eqb k i && eqb t u) refl
            (λ e. let parts = and_parts _ _ e in
            subst (λ (k : ℕ). IsRoundSo (did u (whats (actors.Aggregator k)) ++ Ds past (actors.Aggregator k) t) turn.after) (sym (eqb-true k i parts.0))
            (subst (λ (t : ℕ). IsRoundSo (did u (whats (actors.Aggregator i)) ++ Ds past (actors.Aggregator i) t) turn.after) (sym (eqb-true t u parts.1)) row))
            (all.rounds k t);
      }

    -- the same, where no one does anything
    module _ (x : Seen) (none : (b : Actor) → does b x.event x.taken x.answer x.sent (deeds b past) ≡ []) where
      same_deeds : (b : Actor) (t : ℕ) → Ds past b t ≡ Ds (x ∷ past) b t
      unfolding deeds
      same_deeds b t = ap (λ (ds : List Deed). of_second t (ds ++ deeds b past)) (sym (none b))

      nothing_done : (w' : WorldState) → ((j t : ℕ) → SoAt past j t (w'.seconds j t)) → w'.rounds ≡ w.rounds → All w' (x ∷ past)
      nothing_done w' seconds rounds = record {
        seconds = λ j t. subst (λ (ds : List Deed). IsSo image (voters_of (core_plan_of plan) t) j ds (w'.seconds j t)) (same_deeds (actors.Core j) t) (seconds j t);
        rounds = λ k t. subst (λ (f : ℕ → ℕ → RoundState). RoundAt (x ∷ past) k t (f k t)) (sym rounds) (subst (λ (ds : List Deed). IsRoundSo ds (w.rounds k t)) (same_deeds (actors.Aggregator k) t) (all.rounds k t));
      }

      still_turned : (i u : ℕ) (turn : Turn) → SoAt past i u turn.after → All (at_core w i u turn).world (x ∷ past)
      still_turned i u turn row = nothing_done (at_core w i u turn).world (λ j t. by j t (eqb j i && eqb t u) refl) refl
        where
          by : (j t : ℕ) (b : Bool) → (eqb j i && eqb t u) ≡ b → SoAt past j t (cond b turn.after (w.seconds j t))
          by j t true e = let parts = and_parts _ _ e in
              subst (λ (j : ℕ). SoAt past j t turn.after) (sym (eqb-true j i parts.0)) (subst (λ (t : ℕ). SoAt past i t turn.after) (sym (eqb-true t u parts.1)) row)
          by j t false e = all.seconds j t

    -- EACH EVENT

    abbrev behind : List Message → List Message
    behind wire = drop (length w.wire) wire

    behind_is : (sends : List Message) → behind (w.wire ++ sends) ≡ sends
    behind_is sends = drop-append_seam w.wire sends

    behind_none : behind w.wire ≡ []
    behind_none = ap (drop (length w.wire)) (sym (append-nil w.wire)) ∙ drop-append_seam w.wire []

    seal_step : (i u : ℕ) (sent : List Message) → All (at_core w i u (seal_row image (w.seconds i u))).world (plain (events.Seal i u) (seal_row image (w.seconds i u)).answer sent ∷ past)
    seal_step i u sent =
        let turn = seal_row image (w.seconds i u) in
        let so = all.seconds i u in
        core_turned (plain (events.Seal i u) turn.answer sent) i u (λ b. where_done turn.answer (Sealed (open_items (Ds past b u)))) (λ b. refl) turn
        (seal_so image (voters_of (core_plan_of plan) u) (small u) u (Ds past (actors.Core i) u) (w.seconds i u) so (open_items (Ds past (actors.Core i) u)) so.open_is)

    ballot_step : (i u : ℕ) → All (at_core w i u (ballot_row (core_plan_of plan) u i (w.seconds i u))).world (plain (events.Ballot i u) (ballot_row (core_plan_of plan) u i (w.seconds i u)).answer (behind (w.wire ++ map (core_message i u) (ballot_row (core_plan_of plan) u i (w.seconds i u)).sends)) ∷ past)
    ballot_step i u =
        let turn = ballot_row (core_plan_of plan) u i (w.seconds i u) in
        let sent : List Message = map (core_message i u) turn.sends in
        subst (λ (sent : List Message). All (at_core w i u (ballot_row (core_plan_of plan) u i (w.seconds i u))).world (plain (events.Ballot i u) (ballot_row (core_plan_of plan) u i (w.seconds i u)).answer sent ∷ past)) (sym (behind_is sent))
        (core_turned (plain (events.Ballot i u) turn.answer sent) i u (λ b. tries (first sent)) (λ b. refl) turn
        (ballot_so image (voters_of (core_plan_of plan) u) (small u) u (Ds past (actors.Core i) u) (w.seconds i u) (all.seconds i u) (core_plan_of plan) i (is.voters u).some))

    request_step : (k u : ℕ) (imprint : List ℕ) (name : Option (List ℕ)) (sent : List Message) → All (request_happens plan w k u imprint name).world (plain (events.Request k u imprint name) (round_request (length w.requests) imprint name (w.rounds k u)).answer sent ∷ past)
    request_step k u imprint name sent =
        let turn = round_request (length w.requests) imprint name (w.rounds k u) in
        let now : All (at_round plan w k u turn).world (plain (events.Request k u imprint name) turn.answer sent ∷ past) = round_turned (plain (events.Request k u imprint name) turn.answer sent) k u (λ b. numbered imprint name turn.answer) (λ b. refl) turn
        (rows.request_so u (Ds past (actors.Aggregator k) u) (w.rounds k u) (all.rounds k u) (length w.requests) imprint name) in
        record { seconds = now.seconds; rounds = now.rounds }

    close_step : (k u : ℕ) (sent : List Message) → All (at_round plan w k u (round_close image (w.rounds k u))).world (plain (events.Close k u) (round_close image (w.rounds k u)).answer sent ∷ past)
    close_step k u sent =
        let turn = round_close image (w.rounds k u) in
        let so = all.rounds k u in
        round_turned (plain (events.Close k u) turn.answer sent) k u (λ b. where_done turn.answer (Closed (open_items (Ds past b u)))) (λ b. refl) turn
        (rows.close_so u (Ds past (actors.Aggregator k) u) (w.rounds k u) so image (open_items (Ds past (actors.Aggregator k) u)) so.open_is)

    -- A MESSAGE

    module _ (number : ℕ) where
      abbrev Posts : (s a : Actor) (t : ℕ) (c : Content) → Happening → Type 0
      Posts s a t c happened = All happened.world (post number s a t c happened.outcome.answer (behind happened.world.wire) ∷ past)

      -- the root that the addressee held
      abbrev Old : (b : Actor) (t : ℕ) → Option (List ℕ)
      Old b t = held_root (facts_of (Ds past b t))

      vote_step : (from i t : ℕ) (m : SynodMessage) → Posts (actors.Core from) (actors.Core i) t (contents.Synod m) (at_core w i t (receive_row (core_plan_of plan) t from m (w.seconds i t)))
      vote_step from i t m =
          let turn = receive_row (core_plan_of plan) t from m (w.seconds i t) in
          let sent : List Message = map (core_message i t) turn.sends in
          let row = receive_so image (voters_of (core_plan_of plan) t) (small t) t (Ds past (actors.Core i) t) (w.seconds i t) (all.seconds i t) (core_plan_of plan) i is.core_plan.some from m in
          subst (λ (sent : List Message). All (at_core w i t (receive_row (core_plan_of plan) t from m (w.seconds i t))).world (post number (actors.Core from) (actors.Core i) t (contents.Synod m) (receive_row (core_plan_of plan) t from m (w.seconds i t)).answer sent ∷ past)) (sym (behind_is sent))
          (core_turned (post number (actors.Core from) (actors.Core i) t (contents.Synod m) turn.answer sent) i t (λ b. takes (actors.Core from) (contents.Synod m) turn.answer sent (Old b t)) (λ b. refl) turn
          row)

      item_step : (from i t : ℕ) (item : Item) → Posts (actors.Aggregator from) (actors.Core i) t (contents.Submission item) (at_core w i t (submission_row from item (w.seconds i t)))
      item_step from i t item =
          let turn = submission_row from item (w.seconds i t) in
          let sent : List Message = behind (w.wire ++ map (core_message i t) turn.sends) in
          core_turned (post number (actors.Aggregator from) (actors.Core i) t (contents.Submission item) turn.answer sent) i t (λ b. where_done turn.answer (Accepted (submitted from item))) (λ b. refl) turn
          (submission_so image (voters_of (core_plan_of plan) t) (small t) t (Ds past (actors.Core i) t) (w.seconds i t) (all.seconds i t) from item)

      lower_item_step : (from k t : ℕ) (item : Item) → Posts (actors.Aggregator from) (actors.Aggregator k) t (contents.Submission item) (at_round plan w k t (round_submission from item (w.rounds k t)))
      lower_item_step from k t item =
          let turn = round_submission from item (w.rounds k t) in
          let sent : List Message = behind (w.wire ++ map (round_message plan k t) turn.sends) in
          round_turned (post number (actors.Aggregator from) (actors.Aggregator k) t (contents.Submission item) turn.answer sent) k t (λ b. where_done turn.answer (Accepted (submitted_entry from item))) (λ b. refl) turn
          (rows.submission_so t (Ds past (actors.Aggregator k) t) (w.rounds k t) (all.rounds k t) from item)

      response_step : (s : Actor) (k t : ℕ) (above : Above) → ((answer : Answer) (sent : List Message) (old : Option (List ℕ)) → takes s (contents.Response above) answer sent old ≡ where_done answer (Answered above))
          → Posts s (actors.Aggregator k) t (contents.Response above) (at_round plan w k t (round_response image above (w.rounds k t)))
      response_step s k t above is_taken =
          let turn = round_response image above (w.rounds k t) in
          let sent : List Message = behind (w.wire ++ map (round_message plan k t) turn.sends) in
          round_turned (post number s (actors.Aggregator k) t (contents.Response above) turn.answer sent) k t (λ b. where_done turn.answer (Answered above)) (λ b. ap (own b (actors.Aggregator k) t) (is_taken turn.answer sent (Old b t))) turn
          (rows.response_so t (Ds past (actors.Aggregator k) t) (w.rounds k t) (all.rounds k t) image above)

      -- no one takes it
      unread : (s a : Actor) (t : ℕ) (c : Content) → ((b : Actor) → own b a t (takes s c answers.Nothing (behind w.wire) (Old b t)) ≡ []) → Posts s a t c (unchanged w answers.Nothing)
      unread s a t c none = nothing_done (post number s a t c answers.Nothing (behind w.wire)) none w all.seconds refl

      none_own : (b a : Actor) (t : ℕ) → own b a t [] ≡ []
      none_own b a t = cond_same _ []

      -- an aggregator hears nothing of the vote
      heard_round : (from k t : ℕ) (m : SynodMessage) (ds : List Deed) (r : RoundState) → IsRoundSo ds r → IsRoundSo (did t (takes (actors.Core from) (contents.Synod m) answers.Nothing [] (Old (actors.Aggregator k) t)) ++ ds) r
      heard_round from k t (votes.NextBallot b) ds r so = so
      heard_round from k t (votes.LastVote l) ds r so = record { kept = so.kept; open_is = so.open_is; blank = so.blank; shut = so.shut }
      heard_round from k t (votes.BeginBallot b d) ds r so = so
      heard_round from k t (votes.Voted b) ds r so = record { kept = so.kept; open_is = so.open_is; blank = so.blank; shut = so.shut }
      heard_round from k t (votes.Success d) ds r so = so

      stray_vote : (from k t : ℕ) (m : SynodMessage) → Posts (actors.Core from) (actors.Aggregator k) t (contents.Synod m) (unchanged w answers.Nothing)
      stray_vote from k t m =
          let now = round_turned (post number (actors.Core from) (actors.Aggregator k) t (contents.Synod m) answers.Nothing (behind w.wire)) k t (λ b. takes (actors.Core from) (contents.Synod m) answers.Nothing (behind w.wire) (Old b t)) (λ b. refl)
          (round_still (w.rounds k t) answers.Nothing)
          (subst (λ (sent : List Message). RoundAfter k t (takes (actors.Core from) (contents.Synod m) answers.Nothing sent (Old (actors.Aggregator k) t)) (w.rounds k t)) (sym behind_none)
          (heard_round from k t m (Ds past (actors.Aggregator k) t) (w.rounds k t) (all.rounds k t))) in
          record {
            seconds = now.seconds;
            rounds = λ i u. subst (RoundAt (post number (actors.Core from) (actors.Aggregator k) t (contents.Synod m) answers.Nothing (behind w.wire) ∷ past) i u) (put_same w.rounds k t i u) (now.rounds i u);
          }

      taken_step : (s a : Actor) (t : ℕ) (c : Content) → Posts s a t c (histories.taken image plan w s a t c)
      taken_step (actors.Core from) (actors.Core i) t (contents.Synod m) = vote_step from i t m
      taken_step (actors.Core from) (actors.Core i) t (contents.Submission item) = unread (actors.Core from) (actors.Core i) t (contents.Submission item) (λ b. none_own b (actors.Core i) t)
      taken_step (actors.Core from) (actors.Core i) t (contents.Response above) = unread (actors.Core from) (actors.Core i) t (contents.Response above) (λ b. none_own b (actors.Core i) t)
      taken_step (actors.Aggregator from) (actors.Core i) t (contents.Synod m) = unread (actors.Aggregator from) (actors.Core i) t (contents.Synod m) (λ b. none_own b (actors.Core i) t)
      taken_step (actors.Aggregator from) (actors.Core i) t (contents.Submission item) = item_step from i t item
      taken_step (actors.Aggregator from) (actors.Core i) t (contents.Response above) = unread (actors.Aggregator from) (actors.Core i) t (contents.Response above) (λ b. none_own b (actors.Core i) t)
      taken_step (actors.Core from) (actors.Aggregator k) t (contents.Synod m) = stray_vote from k t m
      taken_step (actors.Core from) (actors.Aggregator k) t (contents.Submission item) = unread (actors.Core from) (actors.Aggregator k) t (contents.Submission item) (λ b. none_own b (actors.Aggregator k) t)
      taken_step (actors.Core from) (actors.Aggregator k) t (contents.Response above) = response_step (actors.Core from) k t above (λ answer sent old. refl)
      taken_step (actors.Aggregator from) (actors.Aggregator k) t (contents.Synod m) = unread (actors.Aggregator from) (actors.Aggregator k) t (contents.Synod m) (λ b. none_own b (actors.Aggregator k) t)
      taken_step (actors.Aggregator from) (actors.Aggregator k) t (contents.Submission item) = lower_item_step from k t item
      taken_step (actors.Aggregator from) (actors.Aggregator k) t (contents.Response above) = response_step (actors.Aggregator from) k t above (λ answer sent old. refl)

      delivered_step : (o : Option Message) → All (delivered image plan w o).world (record { event = events.Deliver number; taken = o; answer = (delivered image plan w o).outcome.answer; sent = behind (delivered image plan w o).world.wire } ∷ past)
      delivered_step None = nothing_done (plain (events.Deliver number) answers.Nothing (behind w.wire)) (λ b. refl) w all.seconds refl
      delivered_step (Some m) = taken_step m.sender m.addressee m.second m.content

    -- A RESTART

    module _ (x : Seen) (a : Actor) (does_it : (b : Actor) → does b x.event x.taken x.answer x.sent (deeds b past) ≡ cond (is_actor b a) (Restarted ∷ []) []) where
      deeds_now : (b : Actor) (t : ℕ) (mine : Bool) → is_actor b a ≡ mine → Ds (x ∷ past) b t ≡ cond mine (Restarted ∷ Ds past b t) (Ds past b t)
      unfolding deeds
      deeds_now b t mine is_mine = ap (λ (ds : List Deed). of_second t (ds ++ deeds b past)) (does_it b ∙ ap (λ (m : Bool). cond m (Restarted ∷ []) []) is_mine) ∙ by mine
        where
          by : (mine : Bool) → of_second t (cond mine (Restarted ∷ []) [] ++ deeds b past) ≡ cond mine (Restarted ∷ Ds past b t) (Ds past b t)
          by true = refl
          by false = refl

      core_restarted : (j t : ℕ) (mine : Bool) → is_actor (actors.Core j) a ≡ mine → SoAt (x ∷ past) j t (cond mine (restart_row (w.seconds j t)) (w.seconds j t))
      core_restarted j t mine is_mine = subst (λ (ds : List Deed). IsSo image (voters_of (core_plan_of plan) t) j ds (cond mine (restart_row (w.seconds j t)) (w.seconds j t))) (sym (deeds_now (actors.Core j) t mine is_mine)) (by mine)
        where
          by : (mine : Bool) → IsSo image (voters_of (core_plan_of plan) t) j (cond mine (Restarted ∷ Ds past (actors.Core j) t) (Ds past (actors.Core j) t)) (cond mine (restart_row (w.seconds j t)) (w.seconds j t))
          by true = restart_so image (voters_of (core_plan_of plan) t) (small t) t (Ds past (actors.Core j) t) (w.seconds j t) (all.seconds j t)
          by false = all.seconds j t

      round_restarted_so : (k t : ℕ) (mine : Bool) → is_actor (actors.Aggregator k) a ≡ mine → RoundAt (x ∷ past) k t (cond mine (round_restarted (w.rounds k t)) (w.rounds k t))
      round_restarted_so k t mine is_mine = subst (λ (ds : List Deed). IsRoundSo ds (cond mine (round_restarted (w.rounds k t)) (w.rounds k t))) (sym (deeds_now (actors.Aggregator k) t mine is_mine)) (by mine)
        where
          by : (mine : Bool) → IsRoundSo (cond mine (Restarted ∷ Ds past (actors.Aggregator k) t) (Ds past (actors.Aggregator k) t)) (cond mine (round_restarted (w.rounds k t)) (w.rounds k t))
          by true = rows.restart_so t (Ds past (actors.Aggregator k) t) (w.rounds k t) (all.rounds k t)
          by false = all.rounds k t

    core_restart_step : (i : ℕ) (sent : List Message) → All (core_restarts w i).world (plain (events.RestartCore i) answers.Done sent ∷ past)
    core_restart_step i sent = record {
      seconds = λ j t. core_restarted (plain (events.RestartCore i) answers.Done sent) (actors.Core i) (λ b. refl) j t (eqb j i) refl;
      rounds = λ k t. round_restarted_so (plain (events.RestartCore i) answers.Done sent) (actors.Core i) (λ b. refl) k t false refl;
    }

    aggregator_restart_step : (i : ℕ) (sent : List Message) → All (aggregator_restarts w i).world (plain (events.RestartAggregator i) answers.Done sent ∷ past)
    aggregator_restart_step i sent = record {
      seconds = λ j t. core_restarted (plain (events.RestartAggregator i) answers.Done sent) (actors.Aggregator i) (λ b. refl) j t false refl;
      rounds = λ k t. round_restarted_so (plain (events.RestartAggregator i) answers.Done sent) (actors.Aggregator i) (λ b. refl) k t (eqb k i) refl;
    }

    step : (e : Event) → All (happens image plan w e).world (seen_of image plan w e ∷ past)
    unfolding happens
    step (events.Request k u imprint name) = request_step k u imprint name (behind (w.wire ++ map (round_message plan k u) (round_request (length w.requests) imprint name (w.rounds k u)).sends))
    step (events.Close k u) = close_step k u (behind (w.wire ++ map (round_message plan k u) (round_close image (w.rounds k u)).sends))
    step (events.Seal i u) = seal_step i u (behind (w.wire ++ map (core_message i u) (seal_row image (w.seconds i u)).sends))
    step (events.Ballot i u) = ballot_step i u
    step (events.Deliver number) = delivered_step number (slice_get w.wire number)
    step (events.Tell i u) = still_turned (plain (events.Tell i u) (tell_row (core_plan_of plan) u i (w.seconds i u)).answer (behind (w.wire ++ map (core_message i u) (tell_row (core_plan_of plan) u i (w.seconds i u)).sends))) (λ b. refl) i u (tell_row (core_plan_of plan) u i (w.seconds i u))
        (tell_so image (voters_of (core_plan_of plan) u) (small u) u (Ds past (actors.Core i) u) (w.seconds i u) (all.seconds i u) (core_plan_of plan) u i)
    step (events.Respond i u) = still_turned (plain (events.Respond i u) (respond_row image (held_in w i) plan.start u (w.seconds i u)).answer (behind (w.wire ++ map (core_message i u) (respond_row image (held_in w i) plan.start u (w.seconds i u)).sends))) (λ b. refl) i u (respond_row image (held_in w i) plan.start u (w.seconds i u))
        (respond_so image (voters_of (core_plan_of plan) u) (small u) u (Ds past (actors.Core i) u) (w.seconds i u) (all.seconds i u) (held_in w i) plan.start u)
    step (events.Publish i p) = nothing_done (plain (events.Publish i p) (publish_answer image (held_in w i) plan.start p) (behind w.wire)) (λ b. refl) (publish_happens w p (publish_answer image (held_in w i) plan.start p)).world all.seconds refl
    step (events.RestartCore i) = core_restart_step i (behind w.wire)
    step (events.RestartAggregator i) = aggregator_restart_step i (behind w.wire)

  -- ANY HISTORY

  run_all : (es : List Event) (w : WorldState) (past : List Seen) → All w past → All (run image plan w es) (seen_from image plan w past es)
  run_all [] w past all = all
  run_all (e ∷ es) w past all = run_all es (happens image plan w e).world (seen_of image plan w e ∷ past) (step w past all e)

  first_all : All (first_world plan) []
  unfolding first_world fresh_second fresh_vote deeds
  first_all = record {
    seconds = λ j t. record {
      kept = record { sealed = refl; candidate = refl; tried = refl; promised = refl; vote = refl; held = refl };
      open_is = refl;
      shut = λ items is. refl;
      voters_are = refl;
      me_is = refl;
      hand = tt;
    };
    rounds = λ k t. record {
      kept = record { closed = refl; answered = refl };
      open_is = refl;
      blank = λ _. refl;
      shut = λ items is. absurd (cc is);
    };
  }

  after_all : (es : List Event) → All (after image plan es) (seen image plan es)
  unfolding after seen
  after_all es = run_all es (first_world plan) [] first_all

  -- IN THE WORDS OF THE LAWS

  in_words : (voters voters' : List ℕ) (candidate candidate' : Option (List ℕ)) → voters' ≡ voters → candidate' ≡ candidate → (sn : Option Since) (h : Option Hand) → IsInHandSo voters' candidate' sn h → IsInHand voters candidate sn h
  in_words voters voters' candidate candidate' e1 e2 sn h so = by sn h (subst (λ (c : Option (List ℕ)). IsInHandSo voters c sn h) e2 (subst (λ (vs : List ℕ). IsInHandSo vs candidate' sn h) e1 so))
    where
      by : (sn : Option Since) (h : Option Hand) → IsInHandSo voters candidate sn h → IsInHand voters candidate sn h
      by None None so = tt
      by (Some s) (Some h) so = so.is
      by None (Some h) so = so
      by (Some s) None so = so

  -- the ballot in hand is the last that was tried
  ballot_is : (voters : List ℕ) (candidate : Option (List ℕ)) (ds : List Deed) (sn : Option Since) → since ds ≡ sn → (hand : Option Hand) → IsInHand voters candidate sn hand → (h : Hand) → hand ≡ Some h → h.ballot ≡ tried_ballot (facts_of ds)
  ballot_is voters candidate ds None e None so h is = absurd (cc is)
  ballot_is voters candidate ds None e (Some g) so h is = absurd so
  ballot_is voters candidate ds (Some s) e None so h is = absurd so
  ballot_is voters candidate ds (Some s) e (Some g) so h is = let same : g ≡ h = cc is in ap (λ (h : Hand). h.ballot) (sym same) ∙ so.ballot ∙ since_tried ds s e

  pub after_seconds : (es : List Event) (j t : ℕ) → IsRecalledSecond image (seen image plan es) (core_plan_of plan) j t ((after image plan es).seconds j t)
  after_seconds es j t =
      let so = (after_all es).seconds j t in
      let s = (after image plan es).seconds j t in
      let kept : IsStableState image (of_second t (facts_of (deeds (actors.Core j) (seen image plan es)))) s = subst (λ (ds : List Deed). IsStableState image ds s) (sym (facts_for t (deeds (actors.Core j) (seen image plan es)))) so.kept in
      record {
        me = so.me_is;
        voters = so.voters_are;
        kept = kept;
        open_items = so.open_is;
        shut = so.shut;
        ballot = λ h is. ballot_is (voters_of (core_plan_of plan) t) (own_candidate image (of_second t (facts_of (deeds (actors.Core j) (seen image plan es))))) (Ds (seen image plan es) (actors.Core j) t) (since (Ds (seen image plan es) (actors.Core j) t)) refl s.vote.hand
            (in_words (voters_of (core_plan_of plan) t) s.vote.voters _ s.vote.candidate so.voters_are kept.candidate (since (Ds (seen image plan es) (actors.Core j) t)) s.vote.hand so.hand) h is ∙ sym so.kept.tried;
        hand = in_words (voters_of (core_plan_of plan) t) s.vote.voters _ s.vote.candidate so.voters_are kept.candidate (since (Ds (seen image plan es) (actors.Core j) t)) s.vote.hand so.hand;
      }

  pub after_rounds : (es : List Event) (k t : ℕ) → IsRecalledRound (seen image plan es) k t ((after image plan es).rounds k t)
  after_rounds es k t =
      let so = (after_all es).rounds k t in
      let r = (after image plan es).rounds k t in
      record {
        kept = subst (λ (ds : List Deed). IsStableRound ds r) (sym (facts_for t (deeds (actors.Aggregator k) (seen image plan es)))) so.kept;
        open_items = so.open_is;
        shut = so.shut;
      }
