-- Whatever happens, each core's state of each second stays its own.
use Rattle.std.proofs.Common.{◌≡◌, ℕ, eqb, List, [], ◌∷◌, refl, sym, ap, subst, ◌∙◌, Option, Some, None}
use Rattle.std.specs.Prelude.{slice_get, is_some, option_map}
use Rattle.std.proofs.lemmas.Bool.{cond-true, cond-false, cond_both}
use Rattle.ksi_aggtree.specs.declared.entries.Entry.{Entry}
use Rattle.ksi_aggtree.specs.declared.item.Item.{Item}
use Rattle.ksi_aggtree.specs.Entries.{candidate_of}
use Rattle.ksi_synod.specs.declared.messages.SynodMessage.{SynodMessage}
use Rattle.ksi_synod.specs.CorePlans.{CorePlanState, voters_of}
use Rattle.ksi_synod.specs.VoteState.{VoteState, fresh_vote, IsVoteStateOf}
use Rattle.ksi_synod.specs.Rows.{try_ballot, receive, seal, restarted}
use Rattle.ksi_signature.specs.declared.answer.Answer.TheVariants as answers
use Rattle.ksi_calendar.specs.Covered.{Roots}
use Rattle.ksi_corenode.specs.SecondState.{SecondState, fresh_second}
use Rattle.ksi_corenode.specs.Turns.{Turn, still}
use Rattle.ksi_corenode.specs.Rows.{submission_row, item_taken, seal_row, sealed_now, ballot_row, receive_row, tell_row, respond_row, restart_row}
use Rattle.ksi_corenode.specs.Rows as rows
use Rattle.ksi_schedule.specs.declared.actor.Actor.{Actor}
use Rattle.ksi_schedule.specs.declared.actor.Actor.TheVariants as actors
use Rattle.ksi_schedule.specs.declared.event.Event.{Event}
use Rattle.ksi_schedule.specs.declared.event.Event.TheVariants as events
use Rattle.ksi_schedule.specs.Plans.{PlanState, core_plan_of}
use Rattle.ksi_world.specs.declared.message.Content.{Content}
use Rattle.ksi_world.specs.declared.message.Content.TheVariants as contents
use Rattle.ksi_world.specs.declared.message.Message.{Message}
use Rattle.ksi_world.specs.Histories.{WorldState, put_at, taken, delivered, happens, run, first_world, after}
use Rattle.ksi_world.specs.Lasting.{IsSecondOf, AreSecondsOf}
use Rattle.ksi_world.proofs.Leaving.{seal_sets}
use Rattle.ksi_world.proofs.Growing.{put_cases, respond_after}

-- the laws of the rows
pub record RowsKeep : Type 0 where
  pub first : (voters : List ℕ) (core : ℕ) → IsVoteStateOf voters core (fresh_vote core voters)
  pub seal : (voters : List ℕ) (core : ℕ) (s : VoteState) (candidate : List ℕ) → IsVoteStateOf voters core s → IsVoteStateOf voters core (seal s candidate)
  pub ballot : (voters : List ℕ) (core : ℕ) (s : VoteState) → IsVoteStateOf voters core s → IsVoteStateOf voters core (try_ballot s).0 × ((try_ballot s).0.candidate ≡ s.candidate)
  pub message : (voters : List ℕ) (core : ℕ) (s : VoteState) (from : ℕ) (m : SynodMessage) → IsVoteStateOf voters core s → IsVoteStateOf voters core (receive s from m).0 × ((receive s from m).0.candidate ≡ s.candidate)
  pub restart : (voters : List ℕ) (core : ℕ) (s : VoteState) → IsVoteStateOf voters core s → IsVoteStateOf voters core (restarted s)

module _ (keep : RowsKeep) (image : List ℕ → List ℕ) where
  module _ (voters : List ℕ) (k : ℕ) (s : SecondState) (own : IsSecondOf image voters k s) where
    abbrev Own : SecondState → Type 0
    Own s' = IsSecondOf image voters k s'

    submission_own : (from : ℕ) (item : Item) → Own (submission_row from item s).after
    unfolding submission_row
    submission_own from item = cond_both (is_some s.sealed) (still s answers.Late) (item_taken s (rows.taken from item s.open_items)) (λ (t : Turn). Own t.after)
        (λ _. own) (λ _. record { vote = own.vote; candidate = own.candidate })

    seal_own : Own (seal_row image s).after
    unfolding seal_row
    seal_own = by s.sealed refl
      where
        by : (o : Option (List Entry)) → s.sealed ≡ o → Own (seal_row image s).after
        by None is = subst (λ (t : Turn). Own t.after) (sym (cond-false (is_some s.sealed) (still s answers.Sealed) (sealed_now image s) (ap is_some is))) (record {
          vote = keep.seal voters k s.vote (candidate_of image s.open_items) own.vote;
          candidate = seal_sets s.vote (candidate_of image s.open_items) (own.candidate ∙ ap (option_map (candidate_of image)) is);
        })
        by (Some entries) is = subst (λ (t : Turn). Own t.after) (sym (cond-true (is_some s.sealed) (still s answers.Sealed) (sealed_now image s) (ap is_some is))) own

    ballot_own : (cp : CorePlanState) (t me : ℕ) → Own (ballot_row cp t me s).after
    unfolding ballot_row
    ballot_own cp t me = let kept = keep.ballot voters k s.vote own.vote in record { vote = kept.0; candidate = kept.1 ∙ own.candidate }

    receive_own : (cp : CorePlanState) (t from : ℕ) (m : SynodMessage) → Own (receive_row cp t from m s).after
    unfolding receive_row
    receive_own cp t from m = let kept = keep.message voters k s.vote from m own.vote in record { vote = kept.0; candidate = kept.1 ∙ own.candidate }

    tell_own : (cp : CorePlanState) (t me : ℕ) → Own (tell_row cp t me s).after
    unfolding tell_row
    tell_own cp t me = own

    respond_own : (held : Roots) (start t : ℕ) → Own (respond_row image held start t s).after
    respond_own held start t = subst Own (sym (respond_after image held start t s)) own

    restart_own : Own (restart_row s)
    restart_own = record { vote = keep.restart voters k s.vote own.vote; candidate = own.candidate }

  module _ (plan : PlanState) where
    abbrev Are : (ℕ → ℕ → SecondState) → Type 0
    Are = AreSecondsOf image plan

    abbrev voters_on : ℕ → List ℕ
    voters_on t = voters_of (core_plan_of plan) t

    put_own : (seconds : ℕ → ℕ → SecondState) (j t : ℕ) (new : SecondState) → Are seconds → IsSecondOf image (voters_on t) j new → Are (put_at seconds j t new)
    put_own seconds j t new are is k u = put_cases seconds j t new (IsSecondOf image (voters_on u) k) k u
        (λ k_is u_is. subst (λ u. IsSecondOf image (voters_on u) k new) (sym u_is) (subst (λ k. IsSecondOf image (voters_on t) k new) (sym k_is) is)) (are k u)

    taken_own : (w : WorldState) (sender addressee : Actor) (t : ℕ) (c : Content) → Are w.seconds → Are (taken image plan w sender addressee t c).world.seconds
    taken_own w (actors.Core from) (actors.Core j) t (contents.Synod m) are = put_own w.seconds j t _ are (receive_own (voters_on t) j (w.seconds j t) (are j t) (core_plan_of plan) t from m)
    taken_own w (actors.Aggregator from) (actors.Core j) t (contents.Submission item) are = put_own w.seconds j t _ are (submission_own (voters_on t) j (w.seconds j t) (are j t) from item)
    taken_own w (actors.Aggregator from) (actors.Aggregator k) t (contents.Submission item) are = are
    taken_own w (actors.Core from) (actors.Aggregator k) t (contents.Response above) are = are
    taken_own w (actors.Aggregator from) (actors.Aggregator k) t (contents.Response above) are = are
    taken_own w (actors.Core from) (actors.Core j) t (contents.Submission item) are = are
    taken_own w (actors.Core from) (actors.Core j) t (contents.Response above) are = are
    taken_own w (actors.Aggregator from) (actors.Core j) t (contents.Synod m) are = are
    taken_own w (actors.Aggregator from) (actors.Core j) t (contents.Response above) are = are
    taken_own w (actors.Core from) (actors.Aggregator k) t (contents.Synod m) are = are
    taken_own w (actors.Core from) (actors.Aggregator k) t (contents.Submission item) are = are
    taken_own w (actors.Aggregator from) (actors.Aggregator k) t (contents.Synod m) are = are

    delivered_own : (w : WorldState) (o : Option Message) → Are w.seconds → Are (delivered image plan w o).world.seconds
    delivered_own w None are = are
    delivered_own w (Some m) are = taken_own w m.sender m.addressee m.second m.content are

    pub happens_own : (w : WorldState) (e : Event) → Are w.seconds → Are (happens image plan w e).world.seconds
    unfolding happens
    happens_own w (events.Request k t imprint name) are = are
    happens_own w (events.Close k t) are = are
    happens_own w (events.Seal j t) are = put_own w.seconds j t _ are (seal_own (voters_on t) j (w.seconds j t) (are j t))
    happens_own w (events.Ballot j t) are = put_own w.seconds j t _ are (ballot_own (voters_on t) j (w.seconds j t) (are j t) (core_plan_of plan) t j)
    happens_own w (events.Deliver number) are = delivered_own w (slice_get w.wire number) are
    happens_own w (events.Tell j t) are = put_own w.seconds j t _ are (tell_own (voters_on t) j (w.seconds j t) (are j t) (core_plan_of plan) t j)
    happens_own w (events.Respond j t) are = put_own w.seconds j t _ are (respond_own (voters_on t) j (w.seconds j t) (are j t) _ plan.start t)
    happens_own w (events.Publish j p) are = are
    happens_own w (events.RestartCore j) are = λ k t. cond_both (eqb k j) (restart_row (w.seconds k t)) (w.seconds k t) (IsSecondOf image (voters_on t) k)
        (λ _. restart_own (voters_on t) k (w.seconds k t) (are k t)) (λ _. are k t)
    happens_own w (events.RestartAggregator k) are = are

    run_own : (es : List Event) (w : WorldState) → Are w.seconds → Are (run image plan w es).seconds
    run_own [] w are = are
    run_own (e ∷ es) w are = run_own es (happens image plan w e).world (happens_own w e are)

    pub after_own : (es : List Event) → Are (after image plan es).seconds
    unfolding after first_world fresh_second fresh_vote
    after_own es = run_own es (first_world plan) (λ k t. record { vote = keep.first (voters_on t) k; candidate = refl })
