-- What is issued of a request stays issued, and an accepted request stays accepted.
use Rattle.std.proofs.Common.{◌≡◌, ℕ, suc, zero, ◌<◌, eqb, Bool, true, false, if◌then◌else◌, List, [], ◌∷◌, ◌++◌, length, refl, sym, ap, subst, ◌∙◌, arith, Option, Some, None, append_assoc}
use Rattle.std.specs.Prelude.{slice_get}
use Rattle.std.proofs.lemmas.Bool.{cond_both, eqb-true}
use Rattle.std.proofs.lemmas.List.{append-nil}
use Rattle.ksi_aggtree.specs.declared.entries.Entry.{Entry}
use Rattle.ksi_signature.specs.declared.above.Above.{Above}
use Rattle.ksi_signature.specs.declared.answer.Answer.{Answer}
use Rattle.ksi_signature.specs.declared.answer.Answer.TheVariants as answers
use Rattle.ksi_aggregator.specs.Events.{event_second, round_row}
use Rattle.ksi_aggregator.specs.Rows.{RoundState, RoundTurn, round_request, round_restarted, round_still}
use Rattle.ksi_aggregator.specs.Settled.{IsSettled, settled_answer}
use Rattle.ksi_aggregator.specs.declared.event.RoundEvent.{RoundEvent}
use Rattle.ksi_schedule.specs.Plans.{PlanState}
use Rattle.ksi_schedule.specs.declared.actor.Actor.{Actor}
use Rattle.ksi_schedule.specs.declared.actor.Actor.TheVariants as actors
use Rattle.ksi_schedule.specs.declared.event.Event.{Event}
use Rattle.ksi_schedule.specs.declared.event.Event.TheVariants as events
use Rattle.ksi_world.specs.declared.message.Content.{Content}
use Rattle.ksi_world.specs.declared.message.Content.TheVariants as contents
use Rattle.ksi_world.specs.declared.message.Message.{Message}
use Rattle.ksi_world.specs.declared.outcome.Asked.{Asked}
use Rattle.ksi_world.specs.Histories.{WorldState, after, asked_with, delivered, first_world, happens, run}
use Rattle.ksi_world.specs.Histories as histories
use Rattle.ksi_world.specs.Records.{issued_for, issued_of, issued_where}
use Rattle.ksi_world.specs.RoundEvents.{round_asked_of, is_restart_of_aggregator, round_turn}

-- ---- lists

pub get_front : {A : Type 0} (xs ys : List A) (k : ℕ) (x : A) → slice_get xs k ≡ Some x → slice_get (xs ++ ys) k ≡ Some x
get_front [] ys k x is = absurd (cc is)
get_front (y ∷ xs) ys zero x is = is
get_front (y ∷ xs) ys (suc k) x is = get_front xs ys k x is

pub get_last : {A : Type 0} (xs : List A) (x : A) → slice_get (xs ++ x ∷ []) (length xs) ≡ Some x
get_last [] x = refl
get_last (y ∷ xs) x = get_last xs x

-- ---- the laws of the crates below

pub record Laws (image : List ℕ → List ℕ) (plan : PlanState) : Type 0 where
  pub row : (event : RoundEvent) (r : RoundState) → IsSettled r → round_row image event r ≡ round_still r (settled_answer event)
  pub restart : (r : RoundState) → IsSettled r → round_restarted r ≡ r
  pub rounds : (w : WorldState) (k : ℕ) (event : Event) (one : RoundEvent) → round_asked_of k w event ≡ Some one
      → (t : ℕ) → (happens image plan w event).world.rounds k t ≡ (if eqb t (event_second one) then (round_turn image w k one).after else w.rounds k t)
  pub still : (w : WorldState) (k : ℕ) (event : Event) → round_asked_of k w event ≡ None → is_restart_of_aggregator k event ≡ false → (t : ℕ) → (happens image plan w event).world.rounds k t ≡ w.rounds k t
  pub restarted : (w : WorldState) (k : ℕ) (event : Event) → is_restart_of_aggregator k event ≡ true → (t : ℕ) → (happens image plan w event).world.rounds k t ≡ round_restarted (w.rounds k t)

-- ---- requests

-- the requests, and more of them
abbrev pub More : (old new : List Asked) → Type 0
More old new = (more : List Asked) × (new ≡ old ++ more)

none_more : (requests : List Asked) → More requests requests
none_more requests = ([], sym (append-nil requests))

asked_more : (requests : List Asked) (new : Asked) (answer : Answer) → More requests (asked_with requests new answer)
asked_more requests new (answers.Number n) = (new ∷ [], refl)
asked_more requests new answers.Done = none_more requests
asked_more requests new (answers.Published root) = none_more requests
asked_more requests new answers.Late = none_more requests
asked_more requests new answers.Known = none_more requests
asked_more requests new answers.Full = none_more requests
asked_more requests new answers.Unsealed = none_more requests
asked_more requests new answers.Sealed = none_more requests
asked_more requests new answers.Closed = none_more requests
asked_more requests new (answers.Undecided t) = none_more requests
asked_more requests new answers.NotMine = none_more requests
asked_more requests new answers.Nothing = none_more requests
asked_more requests new answers.Last = none_more requests

-- if there are more, it is the new one
asked_one : (requests : List Asked) (new : Asked) (answer : Answer) → length requests < length (asked_with requests new answer) → asked_with requests new answer ≡ requests ++ new ∷ []
asked_one requests new (answers.Number n) less = refl
asked_one requests new answers.Done less = absurd (omega (arith, less))
asked_one requests new (answers.Published root) less = absurd (omega (arith, less))
asked_one requests new answers.Late less = absurd (omega (arith, less))
asked_one requests new answers.Known less = absurd (omega (arith, less))
asked_one requests new answers.Full less = absurd (omega (arith, less))
asked_one requests new answers.Unsealed less = absurd (omega (arith, less))
asked_one requests new answers.Sealed less = absurd (omega (arith, less))
asked_one requests new answers.Closed less = absurd (omega (arith, less))
asked_one requests new (answers.Undecided t) less = absurd (omega (arith, less))
asked_one requests new answers.NotMine less = absurd (omega (arith, less))
asked_one requests new answers.Nothing less = absurd (omega (arith, less))
asked_one requests new answers.Last less = absurd (omega (arith, less))

-- an event that accepts a request is that request
pub record Accepts (w w' : WorldState) (e : Event) : Type 0 where
  pub asked : Asked
  pub name : Option (List ℕ)
  pub event : e ≡ events.Request asked.aggregator asked.second asked.imprint name
  pub requests : w'.requests ≡ w.requests ++ asked ∷ []

module _ (image : List ℕ → List ℕ) (plan : PlanState) where
  -- a message that is taken accepts no request
  taken_leaves : (w : WorldState) (sender addressee : Actor) (t : ℕ) (content : Content) → (histories.taken image plan w sender addressee t content).world.requests ≡ w.requests
  taken_leaves w (actors.Core from) (actors.Core j) t (contents.Synod m) = refl
  taken_leaves w (actors.Core from) (actors.Core j) t (contents.Submission item) = refl
  taken_leaves w (actors.Core from) (actors.Core j) t (contents.Response above) = refl
  taken_leaves w (actors.Core from) (actors.Aggregator k) t (contents.Synod m) = refl
  taken_leaves w (actors.Core from) (actors.Aggregator k) t (contents.Submission item) = refl
  taken_leaves w (actors.Core from) (actors.Aggregator k) t (contents.Response above) = refl
  taken_leaves w (actors.Aggregator from) (actors.Core j) t (contents.Synod m) = refl
  taken_leaves w (actors.Aggregator from) (actors.Core j) t (contents.Submission item) = refl
  taken_leaves w (actors.Aggregator from) (actors.Core j) t (contents.Response above) = refl
  taken_leaves w (actors.Aggregator from) (actors.Aggregator k) t (contents.Synod m) = refl
  taken_leaves w (actors.Aggregator from) (actors.Aggregator k) t (contents.Submission item) = refl
  taken_leaves w (actors.Aggregator from) (actors.Aggregator k) t (contents.Response above) = refl

  delivered_leaves : (w : WorldState) (found : Option Message) → (delivered image plan w found).world.requests ≡ w.requests
  delivered_leaves w None = refl
  delivered_leaves w (Some m) = taken_leaves w m.sender m.addressee m.second m.content

  event_more : (w : WorldState) (e : Event) → More w.requests (happens image plan w e).world.requests
  unfolding happens
  event_more w (events.Request k t imprint name) = asked_more w.requests (record { aggregator = k; second = t; imprint = imprint }) (round_request (length w.requests) imprint name (w.rounds k t)).answer
  event_more w (events.Deliver number) = ([], delivered_leaves w (slice_get w.wire number) ∙ sym (append-nil w.requests))
  event_more w (events.Close k t) = none_more w.requests
  event_more w (events.Seal j t) = none_more w.requests
  event_more w (events.Ballot j t) = none_more w.requests
  event_more w (events.Tell j t) = none_more w.requests
  event_more w (events.Respond j t) = none_more w.requests
  event_more w (events.Publish j p) = none_more w.requests
  event_more w (events.RestartCore j) = none_more w.requests
  event_more w (events.RestartAggregator k) = none_more w.requests

  -- an event after which there are more requests
  pub event_accepts : (w : WorldState) (e : Event) → length w.requests < length (happens image plan w e).world.requests → Accepts w (happens image plan w e).world e
  unfolding happens
  event_accepts w (events.Request k t imprint name) less = record {
    asked = record { aggregator = k; second = t; imprint = imprint };
    name = name;
    event = refl;
    requests = asked_one w.requests (record { aggregator = k; second = t; imprint = imprint }) (round_request (length w.requests) imprint name (w.rounds k t)).answer less;
  }
  event_accepts w (events.Deliver number) less =
      let same : length (delivered image plan w (slice_get w.wire number)).world.requests ≡ length w.requests = ap (λ (requests : List Asked). length requests) (delivered_leaves w (slice_get w.wire number)) in
      absurd (omega (arith, less, same))
  event_accepts w (events.Close k t) less = absurd (omega (arith, less))
  event_accepts w (events.Seal j t) less = absurd (omega (arith, less))
  event_accepts w (events.Ballot j t) less = absurd (omega (arith, less))
  event_accepts w (events.Tell j t) less = absurd (omega (arith, less))
  event_accepts w (events.Respond j t) less = absurd (omega (arith, less))
  event_accepts w (events.Publish j p) less = absurd (omega (arith, less))
  event_accepts w (events.RestartCore j) less = absurd (omega (arith, less))
  event_accepts w (events.RestartAggregator k) less = absurd (omega (arith, less))

  run_more : (es : List Event) (w : WorldState) → More w.requests (run image plan w es).requests
  run_more [] w = none_more w.requests
  run_more (e ∷ es) w =
      let one = event_more w e in
      let rest = run_more es (happens image plan w e).world in
      (one.0 ++ rest.0, rest.1 ∙ ap (λ (requests : List Asked). requests ++ rest.0) one.1 ∙ append_assoc w.requests one.0 rest.0)

  pub run_both : (before later : List Event) (w : WorldState) → run image plan w (before ++ later) ≡ run image plan (run image plan w before) later
  run_both [] later w = refl
  run_both (e ∷ es) later w = run_both es later (happens image plan w e).world

  -- ---- rounds

  module _ (laws : Laws image plan) where
    event_settled : (w : WorldState) (e : Event) (k t : ℕ) → IsSettled (w.rounds k t) → (happens image plan w e).world.rounds k t ≡ w.rounds k t
    event_settled w e k t is = by (round_asked_of k w e) refl
      where
        by_restart : (b : Bool) → is_restart_of_aggregator k e ≡ b → round_asked_of k w e ≡ None → (happens image plan w e).world.rounds k t ≡ w.rounds k t
        by_restart true here none = laws.restarted w k e here t ∙ laws.restart (w.rounds k t) is
        by_restart false other none = laws.still w k e none other t

        turned : (one : RoundEvent) (u : ℕ) → t ≡ u → (round_row image one (w.rounds k u)).after ≡ w.rounds k t
        turned one u same = subst (λ u. (round_row image one (w.rounds k u)).after ≡ w.rounds k t) same (ap (λ (turn : RoundTurn). turn.after) (laws.row one (w.rounds k t) is))

        by : (o : Option RoundEvent) → round_asked_of k w e ≡ o → (happens image plan w e).world.rounds k t ≡ w.rounds k t
        by None none = by_restart (is_restart_of_aggregator k e) refl none
        by (Some one) at = laws.rounds w k e one at t ∙
            cond_both (eqb t (event_second one)) (round_turn image w k one).after (w.rounds k t) (λ (r : RoundState). r ≡ w.rounds k t) (λ here. turned one (event_second one) (eqb-true t (event_second one) here)) (λ _. refl)

    run_settled : (es : List Event) (w : WorldState) (k t : ℕ) → IsSettled (w.rounds k t) → (run image plan w es).rounds k t ≡ w.rounds k t
    run_settled [] w k t is = refl
    run_settled (e ∷ es) w k t is =
        let one = event_settled w e k t is in
        run_settled es (happens image plan w e).world k t (subst (λ (r : RoundState). IsSettled r) (sym one) is) ∙ one

    -- ---- what is issued

    run_issued : (es : List Event) (w : WorldState) (number : ℕ) (text : List ℕ) → issued_of image w number ≡ Some text → issued_of image (run image plan w es) number ≡ Some text
    unfolding issued_of
    run_issued es w number text is = by (slice_get w.requests number) refl is
      where
        w' : WorldState
        w' = run image plan w es

        -- a closed round with a response is settled
        settled : (asked : Asked) (closed : Option (List Entry)) (answered : Option Above) → (w.rounds asked.aggregator asked.second).closed ≡ closed → (w.rounds asked.aggregator asked.second).answered ≡ answered
            → issued_where image asked.second number closed answered ≡ Some text → IsSettled (w.rounds asked.aggregator asked.second)
        settled asked None answered closed_is answered_is issued = absurd (cc issued)
        settled asked (Some entries) None closed_is answered_is issued = absurd (cc issued)
        settled asked (Some entries) (Some above) closed_is answered_is issued = record { entries = entries; closed = closed_is; done = λ none. absurd (cc (none, answered_is)) }

        by : (o : Option Asked) → slice_get w.requests number ≡ o → issued_for image w number o ≡ Some text → issued_for image w' number (slice_get w'.requests number) ≡ Some text
        by None at issued = absurd (cc issued)
        by (Some asked) at issued =
            let more = run_more es w in
            let there : slice_get w'.requests number ≡ Some asked = ap (λ (requests : List Asked). slice_get requests number) more.1 ∙ get_front w.requests more.0 number asked at in
            let same = run_settled es w asked.aggregator asked.second (settled asked (w.rounds asked.aggregator asked.second).closed (w.rounds asked.aggregator asked.second).answered refl refl issued) in
            ap (issued_for image w' number) there ∙ ap (λ (r : RoundState). issued_where image asked.second number r.closed r.answered) same ∙ issued

    pub after_issued : (before later : List Event) (number : ℕ) (text : List ℕ) → issued_of image (after image plan before) number ≡ Some text → issued_of image (after image plan (before ++ later)) number ≡ Some text
    unfolding after
    after_issued before later number text is =
        subst (λ (w : WorldState). issued_of image w number ≡ Some text) (sym (run_both before later (first_world plan))) (run_issued later (run image plan (first_world plan) before) number text is)

  pub after_asked : (before later : List Event) (number : ℕ) (asked : Asked) → slice_get (after image plan before).requests number ≡ Some asked → slice_get (after image plan (before ++ later)).requests number ≡ Some asked
  unfolding after
  after_asked before later number asked is =
      let w = run image plan (first_world plan) before in
      let more = run_more later w in
      ap (λ (w : WorldState). slice_get w.requests number) (run_both before later (first_world plan)) ∙ ap (λ (requests : List Asked). slice_get requests number) more.1 ∙ get_front w.requests more.0 number asked is

  -- the world after one event more
  pub after_one : (es : List Event) (e : Event) → after image plan (es ++ e ∷ []) ≡ (happens image plan (after image plan es) e).world
  unfolding after
  after_one es e = run_both es (e ∷ []) (first_world plan)
