-- The vote on one second of a whole infrastructure.
use Rattle.std.proofs.Common.{◌≡◌, ◌≢◌, ℕ, Bool, true, false, ◌&&◌, eqb, List, [], ◌∷◌, ◌++◌, map, refl, sym, ap, subst, ◌∙◌, Option, Some, None}
use Rattle.std.proofs.lemmas.Bool.{cond-true, cond-false, eq-eqb, ne_eqb}
use Rattle.ksi_synod.specs.declared.messages.SynodMessage.{SynodMessage}
use Rattle.ksi_synod.specs.declared.messages.SynodMessage.TheVariants as message
use Rattle.ksi_synod.specs.Voters.{cores_below}
use Rattle.ksi_synod.specs.VoteState.{VoteState}
use Rattle.ksi_synod.specs.Rows.{try_ballot, ballot_told, receive}
use Rattle.ksi_signature.specs.declared.answer.Answer.{Answer}
use Rattle.ksi_corenode.specs.declared.fact.What.{What}
use Rattle.ksi_corenode.specs.SecondState.{SecondState}
use Rattle.ksi_corenode.specs.Turns.{to_each, told, voted_with}
use Rattle.ksi_corenode.specs.Rows.{ballot_row, receive_row, news_answer, is_news, receive_fact, ballot_answer, ballot_fact}
use Rattle.ksi_schedule.specs.declared.actor.Actor.TheVariants as actors
use Rattle.ksi_schedule.specs.declared.event.Event.TheVariants as events
use Rattle.ksi_schedule.specs.Plans.{PlanState, core_plan_of}
use Rattle.ksi_world.specs.declared.message.Content.TheVariants as contents
use Rattle.ksi_world.specs.declared.message.Message.{Message}
use Rattle.ksi_world.specs.Histories.{WorldState, put_at, message_of, core_message, at_core, delivered, happens, run}
use Rattle.ksi_laws_progress.specs.Deciding.{voters_on, vote_in}
use Rattle.ksi_laws_progress.proofs.Machine.{sent, Stepped, Takes, deliver_all}

-- ONE VALUE CHANGED
module _ {A : Type 0} (f : ℕ → ℕ → A) (i t : ℕ) (new : A) where
  pub put_mine : put_at f i t new i t ≡ new
  put_mine = cond-true ((eqb i i) && (eqb t t)) new (f i t) (ap (λ b. b && eqb t t) (eq-eqb i i refl) ∙ eq-eqb t t refl)

  pub put_other : (k u : ℕ) → k ≢ i → put_at f i t new k u ≡ f k u
  put_other k u other = cond-false ((eqb k i) && (eqb u t)) new (f k u) (ap (λ b. b && eqb u t) (ne_eqb k i other))

  pub put_second : (k u : ℕ) → u ≢ t → put_at f i t new k u ≡ f k u
  put_second k u other = cond-false ((eqb k i) && (eqb u t)) new (f k u) (second_false (eqb k i) (eqb u t) (ne_eqb u t other))
    where
      second_false : (a b : Bool) → b ≡ false → (a && b) ≡ false
      second_false true b is = is
      second_false false b is = refl

module _ (image : List ℕ → List ℕ) (plan : PlanState) (t : ℕ) where
  abbrev pub votes : WorldState → ℕ → VoteState
  votes w k = vote_in w k t

  abbrev pub wire : WorldState → List Message
  wire w = w.wire

  abbrev pub letter : (from to : ℕ) → SynodMessage → Message
  letter from to what = message_of (actors.Core from) (actors.Core to) t (contents.Synod what)

  abbrev pub deliver : WorldState → ℕ → WorldState
  deliver w n = (happens image plan w (events.Deliver n)).world

  abbrev pub Step : WorldState → WorldState → (core answered : ℕ) → VoteState × Option SynodMessage → Type 0
  Step = Stepped WorldState Message votes wire letter deliver (voters_on plan t) plan.cores

  abbrev pub Sent : (by answered : ℕ) → Option SynodMessage → List Message
  Sent = sent WorldState Message votes wire letter deliver (voters_on plan t) plan.cores

  each_sent : (by : ℕ) (to : List ℕ) (what : SynodMessage) → map (core_message by t) (to_each to what) ≡ map (λ k. letter by k what) to
  each_sent by [] what = refl
  each_sent by (k ∷ to) what = ap (λ more. letter by k what ∷ more) (each_sent by to what)

  all_sent : (by answered : ℕ) (o : Option SynodMessage) → map (core_message by t) (told (core_plan_of plan) t answered o) ≡ Sent by answered o
  all_sent by answered None = refl
  all_sent by answered (Some (message.NextBallot b)) = each_sent by (voters_on plan t) (message.NextBallot b)
  all_sent by answered (Some (message.LastVote l)) = refl
  all_sent by answered (Some (message.BeginBallot b d)) = each_sent by (voters_on plan t) (message.BeginBallot b d)
  all_sent by answered (Some (message.Voted b)) = refl
  all_sent by answered (Some (message.Success d)) = each_sent by (cores_below plan.cores) (message.Success d)

  pub turn_step : (w : WorldState) (j answered : ℕ) (row : VoteState × Option SynodMessage) (answer : Answer) (fact : Option What) →
      Step w (at_core w j t (voted_with (core_plan_of plan) t answered (w.seconds j t) row answer fact)).world j answered row
  turn_step w j answered row answer fact =
      let turn = voted_with (core_plan_of plan) t answered (w.seconds j t) row answer fact in
      record {
        mine = ap (λ (s : SecondState). s.vote) (put_mine w.seconds j t turn.after);
        others = λ k other. ap (λ (s : SecondState). s.vote) (put_other w.seconds j t turn.after k t other);
        posted = ap (λ more. w.wire ++ more) (all_sent j answered row.1);
      }

  pub takes : Takes WorldState Message votes wire letter deliver (voters_on plan t) plan.cores
  unfolding happens receive_row
  takes w number from to what at =
      subst (λ o. Step w (delivered image plan w o).world to from (receive (votes w to) from what)) (sym at)
      (turn_step w to from (receive (votes w to) from what) (news_answer (is_news (votes w to) from what)) (receive_fact (votes w to) from what))

  pub ballot_step : (w : WorldState) (j : ℕ) → Step w (happens image plan w (events.Ballot j t)).world j j ((try_ballot (votes w j)).0, ballot_told (try_ballot (votes w j)).1)
  unfolding happens ballot_row
  ballot_step w j = turn_step w j j ((try_ballot (votes w j)).0, ballot_told (try_ballot (votes w j)).1) (ballot_answer (try_ballot (votes w j)).1) (ballot_fact (try_ballot (votes w j)).1)

  pub run_deliver : (ns : List ℕ) (w : WorldState) → run image plan w (map events.Deliver ns) ≡ deliver_all WorldState Message votes wire letter deliver (voters_on plan t) plan.cores w ns
  run_deliver [] w = refl
  run_deliver (n ∷ ns) w = run_deliver ns (happens image plan w (events.Deliver n)).world
