-- Whatever happens, what is held stays held, and what is closed stays closed.
use Rattle.ksi_schedule.specs.Plans.{core_plan_of}
use Rattle.std.proofs.Common.{◌≡◌, ℕ, ◌&&◌, eqb, List, [], ◌∷◌, ◌++◌, length, refl, sym, ap, subst, ◌∙◌, is_some, Option, Some, None}
use Rattle.std.specs.Prelude.{slice_get}
use Rattle.std.proofs.lemmas.Bool.{cond_both, eqb-true, and_parts}
use Rattle.ksi_aggtree.specs.declared.item.Item.{Item}
use Rattle.ksi_aggtree.specs.declared.entries.Entry.{Entry}
use Rattle.ksi_aggtree.specs.Entries.{has_from, is_full, candidate_of}
use Rattle.ksi_synod.specs.declared.messages.SynodMessage.{SynodMessage}
use Rattle.ksi_signature.specs.declared.above.Above.{Above}
use Rattle.ksi_corenode.specs.SecondState.{SecondState}
use Rattle.ksi_corenode.specs.Turns.{Turn}
use Rattle.ksi_calendar.specs.Covered.{Roots, first_missing}
use Rattle.ksi_synod.specs.CorePlans.{CorePlanState}
use Rattle.ksi_corenode.specs.Rows.{submission_row, seal_row, ballot_row, receive_row, tell_row, respond_row, respond_where, is_mine, restart_row}
use Rattle.ksi_aggregator.specs.Rows.{RoundState, RoundTurn, fresh_round, round_request, round_submission, round_close, round_response, response_where, round_restarted}
use Rattle.ksi_schedule.specs.declared.actor.Actor.{Actor}
use Rattle.ksi_schedule.specs.declared.actor.Actor.TheVariants as actors
use Rattle.ksi_schedule.specs.declared.event.Event.{Event}
use Rattle.ksi_schedule.specs.declared.event.Event.TheVariants as events
use Rattle.ksi_schedule.specs.Plans.{PlanState}
use Rattle.ksi_world.specs.declared.message.Content.{Content}
use Rattle.ksi_world.specs.declared.message.Content.TheVariants as contents
use Rattle.ksi_world.specs.declared.message.Message.{Message}
use Rattle.ksi_world.specs.Histories.{WorldState, put_at, held_in, at_core, at_round, delivered, happens, first_world, run, after}
use Rattle.ksi_world.specs.Histories as histories
use Rattle.ksi_world.proofs.Leaving.{receive_leaves, try_leaves, seal_holds}

pub record Grew (w w' : WorldState) : Type 0 where
  pub held : (j t : ℕ) (d : List ℕ) → held_in w j t ≡ Some d → held_in w' j t ≡ Some d
  pub closed : (k t : ℕ) (entries : List Entry) → (w.rounds k t).closed ≡ Some entries → (w'.rounds k t).closed ≡ Some entries

pub grew_same : (w : WorldState) → Grew w w
grew_same w = record { held = λ j t d is. is; closed = λ k t entries is. is }

pub grew_both : (one two three : WorldState) → Grew one two → Grew two three → Grew one three
grew_both one two three first then = record { held = λ j t d is. then.held j t d (first.held j t d is); closed = λ k t entries is. then.closed k t entries (first.closed k t entries is) }

-- what holds of a value that was put, and of the old ones
pub put_cases : {A : Type 0} (f : ℕ → ℕ → A) (j t : ℕ) (new : A) (P : A → Type 0) (i u : ℕ) → (i ≡ j → u ≡ t → P new) → P (f i u) → P (put_at f j t new i u)
put_cases f j t new P i u here there = cond_both (eqb i j && eqb u t) new (f i u) P
    (λ both. let same = and_parts (eqb i j) (eqb u t) both in here (eqb-true i j same.0) (eqb-true u t same.1)) (λ _. there)

-- A TURN

abbrev pub Holds : (s after : SecondState) → Type 0
Holds s after = (d : List ℕ) → s.vote.held ≡ Some d → after.vote.held ≡ Some d

abbrev pub Keeps : (r after : RoundState) → Type 0
Keeps r after = (entries : List Entry) → r.closed ≡ Some entries → after.closed ≡ Some entries

pub core_grew : (w : WorldState) (j t : ℕ) (turn : Turn) → Holds (w.seconds j t) turn.after → Grew w (at_core w j t turn).world
core_grew w j t turn holds = record {
  held = λ i u d is. put_cases w.seconds j t turn.after (λ (s : SecondState). s.vote.held ≡ Some d) i u
      (λ i_is u_is. holds d (subst (λ i. (w.seconds i t).vote.held ≡ Some d) i_is (subst (λ u. (w.seconds i u).vote.held ≡ Some d) u_is is))) is;
  closed = λ k u entries is. is;
}

pub round_grew : (plan : PlanState) (w : WorldState) (k t : ℕ) (turn : RoundTurn) → Keeps (w.rounds k t) turn.after → Grew w (at_round plan w k t turn).world
round_grew plan w k t turn keeps = record {
  held = λ j u d is. is;
  closed = λ i u entries is. put_cases w.rounds k t turn.after (λ (r : RoundState). r.closed ≡ Some entries) i u
      (λ i_is u_is. keeps entries (subst (λ i. (w.rounds i t).closed ≡ Some entries) i_is (subst (λ u. (w.rounds i u).closed ≡ Some entries) u_is is))) is;
}

-- THE ROWS OF A CORE

pub submission_holds : (from : ℕ) (item : Item) (s : SecondState) → Holds s (submission_row from item s).after
unfolding submission_row
submission_holds from item s d is =
    cond_both (is_some s.sealed) _ _ (λ (turn : Turn). turn.after.vote.held ≡ Some d) (λ _. is)
    (λ _. is)

pub seal_row_holds : (image : List ℕ → List ℕ) (s : SecondState) → Holds s (seal_row image s).after
unfolding seal_row
seal_row_holds image s d is = cond_both (is_some s.sealed) _ _ (λ (turn : Turn). turn.after.vote.held ≡ Some d) (λ _. is) (λ _. seal_holds s.vote (candidate_of image s.open_items) ∙ is)

pub ballot_holds : (core_plan : CorePlanState) (t j : ℕ) (s : SecondState) → Holds s (ballot_row core_plan t j s).after
unfolding ballot_row
ballot_holds core_plan t j s d is = (try_leaves s.vote).held ∙ is

pub receive_holds : (core_plan : CorePlanState) (t from : ℕ) (m : SynodMessage) (s : SecondState) → Holds s (receive_row core_plan t from m s).after
unfolding receive_row
receive_holds core_plan t from m s d is = (receive_leaves s.vote from m).stays d is

pub tell_holds : (core_plan : CorePlanState) (t j : ℕ) (s : SecondState) → Holds s (tell_row core_plan t j s).after
unfolding tell_row
tell_holds core_plan t j s d is = is

pub respond_after : (image : List ℕ → List ℕ) (held : Roots) (start t : ℕ) (s : SecondState) → (respond_row image held start t s).after ≡ s
unfolding respond_row
respond_after image held start t s = by s.sealed (first_missing held start t) (held t)
  where
    by : (sealed : Option (List Entry)) (missing : Option ℕ) (root : Option (List ℕ)) → (respond_where image held start t sealed missing root s).after ≡ s
    by None missing root = refl
    by (Some entries) (Some missing) root = refl
    by (Some entries) None None = refl
    by (Some entries) None (Some root) = cond_both (is_mine image entries root) _ _ (λ (turn : Turn). turn.after ≡ s) (λ _. refl) (λ _. refl)

pub respond_holds : (image : List ℕ → List ℕ) (held : Roots) (start t : ℕ) (s : SecondState) → Holds s (respond_row image held start t s).after
respond_holds image held start t s d is = ap (λ (s : SecondState). s.vote.held) (respond_after image held start t s) ∙ is

-- THE ROWS OF AN AGGREGATOR

pub request_keeps : (number : ℕ) (imprint : List ℕ) (name : Option (List ℕ)) (r : RoundState) → Keeps r (round_request number imprint name r).after
unfolding round_request
request_keeps number imprint name r entries is =
    cond_both (is_some r.closed) _ _ (λ (turn : RoundTurn). turn.after.closed ≡ Some entries) (λ _. is)
    (λ _. cond_both (is_full r.open_items) _ _ (λ (turn : RoundTurn). turn.after.closed ≡ Some entries) (λ _. is) (λ _. is))

pub take_keeps : (from : ℕ) (item : Item) (r : RoundState) → Keeps r (round_submission from item r).after
unfolding round_submission
take_keeps from item r entries is =
    cond_both (is_some r.closed) _ _ (λ (turn : RoundTurn). turn.after.closed ≡ Some entries) (λ _. is)
    (λ _. cond_both (has_from from r.open_items) _ _ (λ (turn : RoundTurn). turn.after.closed ≡ Some entries) (λ _. is)
    (λ _. cond_both (is_full r.open_items) _ _ (λ (turn : RoundTurn). turn.after.closed ≡ Some entries) (λ _. is) (λ _. is)))

pub close_keeps : (image : List ℕ → List ℕ) (r : RoundState) → Keeps r (round_close image r).after
unfolding round_close
close_keeps image r entries is = cond_both (is_some r.closed) _ _ (λ (turn : RoundTurn). turn.after.closed ≡ Some entries) (λ _. is)
    (λ open_yet. absurd (cc (open_yet, ap (λ (o : Option (List Entry)). is_some o) is)))

pub response_keeps : (image : List ℕ → List ℕ) (above : Above) (r : RoundState) → Keeps r (round_response image above r).after
unfolding round_response
response_keeps image above r entries is = by r.closed r.answered
  where
    by : (closed : Option (List Entry)) (answered : Option Above) → (response_where image above closed answered r).after.closed ≡ Some entries
    by None answered = is
    by (Some []) answered = is
    by (Some (e ∷ es)) (Some first) = is
    by (Some (e ∷ es)) None = is

pub restart_keeps : (r : RoundState) → Keeps r (round_restarted r)
restart_keeps r entries is = cond_both (is_some r.closed) r fresh_round (λ (r : RoundState). r.closed ≡ Some entries) (λ _. is)
    (λ open_yet. absurd (cc (open_yet, ap (λ (o : Option (List Entry)). is_some o) is)))

module _ (image : List ℕ → List ℕ) (plan : PlanState) where
  -- AN EVENT

  taken_grew : (w : WorldState) (sender addressee : Actor) (t : ℕ) (content : Content) → Grew w (histories.taken image plan w sender addressee t content).world
  taken_grew w (actors.Core from) (actors.Core j) t (contents.Synod m) = core_grew w j t (receive_row (core_plan_of plan) t from m (w.seconds j t)) (receive_holds (core_plan_of plan) t from m (w.seconds j t))
  taken_grew w (actors.Core from) (actors.Core j) t (contents.Submission item) = grew_same w
  taken_grew w (actors.Core from) (actors.Core j) t (contents.Response above) = grew_same w
  taken_grew w (actors.Core from) (actors.Aggregator k) t (contents.Synod m) = grew_same w
  taken_grew w (actors.Core from) (actors.Aggregator k) t (contents.Submission item) = grew_same w
  taken_grew w (actors.Core from) (actors.Aggregator k) t (contents.Response above) = round_grew plan w k t (round_response image above (w.rounds k t)) (response_keeps image above (w.rounds k t))
  taken_grew w (actors.Aggregator from) (actors.Core j) t (contents.Synod m) = grew_same w
  taken_grew w (actors.Aggregator from) (actors.Core j) t (contents.Submission item) = core_grew w j t (submission_row from item (w.seconds j t)) (submission_holds from item (w.seconds j t))
  taken_grew w (actors.Aggregator from) (actors.Core j) t (contents.Response above) = grew_same w
  taken_grew w (actors.Aggregator from) (actors.Aggregator k) t (contents.Synod m) = grew_same w
  taken_grew w (actors.Aggregator from) (actors.Aggregator k) t (contents.Submission item) = round_grew plan w k t (round_submission from item (w.rounds k t)) (take_keeps from item (w.rounds k t))
  taken_grew w (actors.Aggregator from) (actors.Aggregator k) t (contents.Response above) = round_grew plan w k t (round_response image above (w.rounds k t)) (response_keeps image above (w.rounds k t))

  delivered_grew : (w : WorldState) (found : Option Message) → Grew w (delivered image plan w found).world
  delivered_grew w None = grew_same w
  delivered_grew w (Some m) = taken_grew w m.sender m.addressee m.second m.content

  pub happens_grew : (w : WorldState) (e : Event) → Grew w (happens image plan w e).world
  unfolding happens
  happens_grew w (events.Request k t imprint name) =
      let grew = round_grew plan w k t (round_request (length w.requests) imprint name (w.rounds k t)) (request_keeps (length w.requests) imprint name (w.rounds k t)) in
      record { held = grew.held; closed = grew.closed }
  happens_grew w (events.Close k t) = round_grew plan w k t (round_close image (w.rounds k t)) (close_keeps image (w.rounds k t))
  happens_grew w (events.Seal j t) = core_grew w j t (seal_row image (w.seconds j t)) (seal_row_holds image (w.seconds j t))
  happens_grew w (events.Ballot j t) = core_grew w j t (ballot_row (core_plan_of plan) t j (w.seconds j t)) (ballot_holds (core_plan_of plan) t j (w.seconds j t))
  happens_grew w (events.Deliver number) = delivered_grew w (slice_get w.wire number)
  happens_grew w (events.Tell j t) = core_grew w j t (tell_row (core_plan_of plan) t j (w.seconds j t)) (tell_holds (core_plan_of plan) t j (w.seconds j t))
  happens_grew w (events.Respond j t) = core_grew w j t (respond_row image (held_in w j) plan.start t (w.seconds j t)) (respond_holds image (held_in w j) plan.start t (w.seconds j t))
  happens_grew w (events.Publish j p) = record { held = λ j t d is. is; closed = λ k t entries is. is }
  happens_grew w (events.RestartCore j) = record {
    held = λ i u d is. cond_both (eqb i j) (restart_row (w.seconds i u)) (w.seconds i u) (λ (s : SecondState). s.vote.held ≡ Some d) (λ _. is) (λ _. is);
    closed = λ k t entries is. is;
  }
  happens_grew w (events.RestartAggregator k) = record {
    held = λ j t d is. is;
    closed = λ i u entries is. cond_both (eqb i k) (round_restarted (w.rounds i u)) (w.rounds i u) (λ (r : RoundState). r.closed ≡ Some entries) (λ _. restart_keeps (w.rounds i u) entries is) (λ _. is);
  }

  -- A HISTORY

  run_grew : (es : List Event) (w : WorldState) → Grew w (run image plan w es)
  run_grew [] w = grew_same w
  run_grew (e ∷ es) w = grew_both w (happens image plan w e).world (run image plan (happens image plan w e).world es) (happens_grew w e) (run_grew es (happens image plan w e).world)

  pub run_both : (before later : List Event) (w : WorldState) → run image plan w (before ++ later) ≡ run image plan (run image plan w before) later
  run_both [] later w = refl
  run_both (e ∷ es) later w = run_both es later (happens image plan w e).world

  pub after_grew : (before later : List Event) → Grew (after image plan before) (after image plan (before ++ later))
  unfolding after
  after_grew before later = subst (λ w. Grew (run image plan (first_world plan) before) w) (sym (run_both before later (first_world plan))) (run_grew later (run image plan (first_world plan) before))
