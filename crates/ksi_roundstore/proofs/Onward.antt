-- A store of facts goes on with the fact of an event, and a crash is a restart.
use Rattle.std.proofs.Common.{◌≡◌, ◌⊎◌, inl, inr, ℕ, ◌<◌, ◌^◌, ◌==◌, if◌then◌else◌, Bool, true, false, List, [], ◌∷◌, ◌++◌, map, is_some, option_map, Option, Some, None, IfSome, refl, sym, subst, ap, ◌∙◌}
use Rattle.std.specs.List.{AllByRecursion}
use Rattle.std.proofs.lemmas.Bool.{cond_both, eqb-true}
use Rattle.ksi_aggtree.specs.declared.item.Item.{Item}
use Rattle.ksi_aggtree.specs.declared.entries.Entry.{Entry}
use Rattle.ksi_aggtree.specs.Entries.{has_from, is_full}
use Rattle.ksi_signature.specs.declared.above.Above.{Above}
use Rattle.ksi_signature.specs.declared.answer.Answer.TheVariants as answers
use Rattle.ksi_schedule.specs.Plans.{PlanState}
use Rattle.ksi_aggregator.specs.declared.event.RoundEvent.{RoundEvent}
use Rattle.ksi_aggregator.specs.declared.event.RoundEvent.TheVariants as events
use Rattle.ksi_aggregator.specs.declared.fact.Fact.{Fact}
use Rattle.ksi_aggregator.specs.declared.fact.RoundFact.{RoundFact}
use Rattle.ksi_aggregator.specs.declared.step.Step.{Step}
use Rattle.ksi_aggregator.specs.Events.{MayTake, event_second, round_row}
use Rattle.ksi_aggregator.specs.Rounds.{AggregatorState, IsTurn, fact_of, rounds_of}
use Rattle.ksi_aggregator.specs.Rows.{RoundState, RoundTurn, closed_now, request_entry, response_where, round_added, round_close, round_request, round_response, round_restarted, round_still, round_submission, submitted_entry}
use Rattle.ksi_aggregator.specs.Lawful.{AreLawful, with_new}
use Rattle.ksi_aggregator.specs.Restored.{HasFacts, IsOfFacts}
use Rattle.ksi_roundstore.specs.Crashes.{IsRestartedEither}
use Rattle.ksi_roundstore.specs.Headers.{header_at}
use Rattle.ksi_roundstore.specs.StoreState.{StoreState, records_in}
use Rattle.ksi_roundstore.specs.Stores.{IsFileBeforeOrAfter, IsFileOf, IsStoreOf}
use Rattle.ksi_roundstore.specs.Takes.{HasEither, HasMore, HasStored, TookTurn, fact_added}
use Rattle.ksi_roundstore.specs.Texts.{event_of, fact_text}
use Rattle.ksi_roundstore.specs.Written.{AreTexts, IsTextOf, IsWritten, fact_events, what_events}
use Rattle.ksi_roundstore.proofs.Rows.{request_none, submission_none}

all_more : {X : Type 0} (P : X → Type 0) (xs ys : List X) → AllByRecursion P xs → AllByRecursion P ys → AllByRecursion P (xs ++ ys)
all_more P [] ys are others = others
all_more P (x ∷ xs) ys are others = (are.0, all_more P xs ys are.1 others)

all_of : {X Y : Type 0} (f : X → Y) (P : Y → Type 0) (xs : List X) → AllByRecursion (λ x. P (f x)) xs → AllByRecursion P (map f xs)
all_of f P [] are = tt
all_of f P (x ∷ xs) are = (are.0, all_of f P xs are.1)

pub texts_join : (plan : PlanState) (me : ℕ) (facts more : List Fact) (records others : List (List ℕ)) → AreTexts plan me facts records → AreTexts plan me more others → AreTexts plan me (facts ++ more) (records ++ others)
texts_join plan me [] more [] others are tail = tail
texts_join plan me [] more (c ∷ cs) others are tail = absurd are
texts_join plan me (f ∷ fs) more [] others are tail = absurd are
texts_join plan me (f ∷ fs) more (c ∷ cs) others are tail = (are.0, texts_join plan me fs more cs others are.1 tail)

pub texts_more : (plan : PlanState) (me : ℕ) (facts : List Fact) (records : List (List ℕ)) (fact : Fact) (content : List ℕ) → AreTexts plan me facts records → IsTextOf plan me fact content → AreTexts plan me (facts ++ fact ∷ []) (records ++ content ∷ [])
texts_more plan me facts records fact content are is = texts_join plan me facts (fact ∷ []) records (content ∷ []) are (is, tt)

module _ (plan : PlanState) (me : ℕ) where
  -- each open item of a round came by a written event
  abbrev pub Items : (second : ℕ) → RoundState → Type 0
  Items second r = AllByRecursion (λ (entry : Entry). IsWritten plan me (event_of second entry)) r.open_items

  abbrev Texts : (second : ℕ) → Option RoundFact → Type 0
  Texts second fact = IfSome fact (λ (what : RoundFact). AllByRecursion (IsWritten plan me) (what_events second what))

  none_texts : (second : ℕ) (fact : Option RoundFact) → fact ≡ None → Texts second fact
  none_texts second fact is = subst (λ (f : Option RoundFact). Texts second f) (sym is) tt

  added_items : (second : ℕ) (r : RoundState) (entry : Entry) → Items second r → IsWritten plan me (event_of second entry) → AllByRecursion (λ (entry : Entry). IsWritten plan me (event_of second entry)) (r.open_items ++ entry ∷ [])
  added_items second r entry are is = all_more (λ (entry : Entry). IsWritten plan me (event_of second entry)) r.open_items (entry ∷ []) are (is, tt)

  request_items : (second number : ℕ) (imprint : List ℕ) (name : Option (List ℕ)) (r : RoundState) → Items second r → IsWritten plan me (events.Request number second imprint name) → Items second (round_request number imprint name r).after
  unfolding round_request
  request_items second number imprint name r are is =
      cond_both (is_some r.closed) (round_still r answers.Late) _ (λ (turn : RoundTurn). Items second turn.after) (λ _. are)
      (λ _. cond_both (is_full r.open_items) (round_still r answers.Full) (round_added r (request_entry number imprint name) (answers.Number number)) (λ (turn : RoundTurn). Items second turn.after) (λ _. are)
      (λ _. added_items second r (request_entry number imprint name) are is))

  submission_items : (second from : ℕ) (item : Item) (r : RoundState) → Items second r → IsWritten plan me (events.Submission from second item) → Items second (round_submission from item r).after
  unfolding round_submission
  submission_items second from item r are is =
      cond_both (is_some r.closed) (round_still r answers.Late) _ (λ (turn : RoundTurn). Items second turn.after) (λ _. are)
      (λ _. cond_both (has_from from r.open_items) (round_still r answers.Known) _ (λ (turn : RoundTurn). Items second turn.after) (λ _. are)
      (λ _. cond_both (is_full r.open_items) (round_still r answers.Full) (round_added r (submitted_entry from item) answers.Done) (λ (turn : RoundTurn). Items second turn.after) (λ _. are)
      (λ _. added_items second r (submitted_entry from item) are is)))

  close_items : (image : List ℕ → List ℕ) (second : ℕ) (r : RoundState) → Items second r → Items second (round_close image r).after
  unfolding round_close
  close_items image second r are = cond_both (is_some r.closed) (round_still r answers.Closed) (closed_now image r) (λ (turn : RoundTurn). Items second turn.after) (λ _. are) (λ _. tt)

  response_which : (image : List ℕ → List ℕ) (second : ℕ) (above : Above) (closed : Option (List Entry)) (answered : Option Above) (r : RoundState) → Items second r → Items second (response_where image above closed answered r).after
  response_which image second above None answered r are = are
  response_which image second above (Some []) answered r are = are
  response_which image second above (Some (entry ∷ entries)) (Some first) r are = are
  response_which image second above (Some (entry ∷ entries)) None r are = are

  response_items : (image : List ℕ → List ℕ) (second : ℕ) (above : Above) (r : RoundState) → Items second r → Items second (round_response image above r).after
  unfolding round_response
  response_items image second above r are = response_which image second above r.closed r.answered r are

  row_items : (image : List ℕ → List ℕ) (event : RoundEvent) (r : RoundState) → Items (event_second event) r → IsWritten plan me event → Items (event_second event) (round_row image event r).after
  row_items image (events.Request number second imprint name) r are is = request_items second number imprint name r are is
  row_items image (events.Submission from second item) r are is = submission_items second from item r are is
  row_items image (events.Close second) r are is = close_items image second r are
  row_items image (events.Response second above) r are is = response_items image second above r are

  close_texts : (image : List ℕ → List ℕ) (second : ℕ) (r : RoundState) → Items second r → IsWritten plan me (events.Close second) → Texts second (round_close image r).fact
  unfolding round_close
  close_texts image second r are is =
      cond_both (is_some r.closed) (round_still r answers.Closed) (closed_now image r) (λ (turn : RoundTurn). Texts second turn.fact) (λ _. tt)
      (λ _. all_more (IsWritten plan me) (map (event_of second) r.open_items) (events.Close second ∷ []) (all_of (event_of second) (IsWritten plan me) r.open_items are) (is, tt))

  answered_texts : (image : List ℕ → List ℕ) (second : ℕ) (above : Above) (closed : Option (List Entry)) (answered : Option Above) (r : RoundState) → IsWritten plan me (events.Response second above) → Texts second (response_where image above closed answered r).fact
  answered_texts image second above None answered r is = tt
  answered_texts image second above (Some []) answered r is = tt
  answered_texts image second above (Some (entry ∷ entries)) (Some first) r is = tt
  answered_texts image second above (Some (entry ∷ entries)) None r is = (is, tt)

  response_texts : (image : List ℕ → List ℕ) (second : ℕ) (above : Above) (r : RoundState) → IsWritten plan me (events.Response second above) → Texts second (round_response image above r).fact
  unfolding round_response
  response_texts image second above r is = answered_texts image second above r.closed r.answered r is

  row_texts : (image : List ℕ → List ℕ) (event : RoundEvent) (r : RoundState) → Items (event_second event) r → IsWritten plan me event → Texts (event_second event) (round_row image event r).fact
  row_texts image (events.Request number second imprint name) r are is = none_texts second (round_request number imprint name r).fact (request_none number imprint name r)
  row_texts image (events.Submission from second item) r are is = none_texts second (round_submission from item r).fact (submission_none from item r)
  row_texts image (events.Close second) r are is = close_texts image second r are is
  row_texts image (events.Response second above) r are is = response_texts image second above r is

  fact_is_written : (second : ℕ) (row : Option RoundFact) → Texts second row → IfSome (option_map (fact_of second) row) (λ (fact : Fact). AllByRecursion (IsWritten plan me) (fact_events fact))
  fact_is_written second None are = tt
  fact_is_written second (Some what) are = are

  -- a file with a record more is of a fact more
  file_with : (facts : List Fact) (file image : List ℕ) (fact : Option Fact) → IsFileOf me plan facts file → AreLawful (with_new facts fact) → IfSome fact (λ (fact : Fact). AllByRecursion (IsWritten plan me) (fact_events fact)) → HasMore file fact image → IsFileOf me plan (with_new facts fact) image
  file_with facts file image None is lawful written has = record {
    gate = has.gate;
    head = ap header_at has.head ∙ is.head;
    texts = subst (λ (rs : List (List ℕ)). AreTexts plan me facts rs) (sym has.kept) is.texts;
    lawful = lawful;
    closed = has.closed;
  }
  file_with facts file image (Some fact) is lawful written has = record {
    gate = has.gate;
    head = ap header_at has.head ∙ is.head;
    texts = subst (λ (rs : List (List ℕ)). AreTexts plan me (facts ++ fact ∷ []) rs) (sym has.kept) (texts_more plan me facts (records_in file) fact (fact_text fact) is.texts (record { written = written; text = refl }));
    lawful = lawful;
    closed = has.closed;
  }

-- the laws of facts that this stands on
pub record Laws : Type 0 where
  pub facts : (image : List ℕ → List ℕ) (facts : List Fact) (old new : ℕ → RoundState) (event : RoundEvent) (step : Step) → HasFacts facts old → MayTake old event → event_second event < 2 ^ 63
      → IsTurn old new (event_second event) (round_row image event (old (event_second event))) step → HasFacts (with_new facts step.fact) new
  pub restarted : (me : ℕ) (facts : List Fact) (rounds : ℕ → RoundState) (other : AggregatorState) → HasFacts facts rounds → IsOfFacts me facts other → (t : ℕ) → rounds_of other t ≡ round_restarted (rounds t)

module _ (laws : Laws) (image : List ℕ → List ℕ) where
  -- the rounds after an event have its fact
  after_event : (facts : List Fact) (aggregator : AggregatorState) (event : RoundEvent) → HasFacts facts (rounds_of aggregator) → MayTake (rounds_of aggregator) event → event_second event < 2 ^ 63
      → HasFacts (with_new facts (fact_added image aggregator event)) (λ t. if t == event_second event then (round_row image event (rounds_of aggregator (event_second event))).after else rounds_of aggregator t)
  after_event facts aggregator event has may early =
      let second = event_second event in
      let turn = round_row image event (rounds_of aggregator second) in
      let step : Step = record { answer = turn.answer; fact = option_map (fact_of second) turn.fact; sends = turn.sends } in
      laws.facts image facts (rounds_of aggregator) (λ t. if t == second then turn.after else rounds_of aggregator t) event step has may early
      (record { after = λ t. refl; answer = refl; fact = refl; sends = refl })

  -- what a crash leaves is a file of the facts before, or of these and that of the event
  pub left_files : (me : ℕ) (plan : PlanState) (facts : List Fact) (aggregator : AggregatorState) (event : RoundEvent) (file left : List ℕ) → HasFacts facts (rounds_of aggregator)
      → ((t : ℕ) → AllByRecursion (λ (entry : Entry). IsWritten plan me (event_of t entry)) (rounds_of aggregator t).open_items) → IsFileOf me plan facts file
      → MayTake (rounds_of aggregator) event → event_second event < 2 ^ 63 → IsWritten plan me event → HasEither file (fact_added image aggregator event) left
      → IsFileBeforeOrAfter me plan facts (fact_added image aggregator event) left
  left_files me plan facts aggregator event file left has items is may early written (inl before) = inl (file_with plan me facts file left None is has.lawful tt before)
  left_files me plan facts aggregator event file left has items is may early written (inr after) =
      let second = event_second event in
      inr (file_with plan me facts file left (fact_added image aggregator event) is (after_event facts aggregator event has may early).lawful
      (fact_is_written plan me second (round_row image event (rounds_of aggregator second)).fact (row_texts plan me image event (rounds_of aggregator second) (items second) written)) after)

  pub restart_either : (me : ℕ) (facts others : List Fact) (aggregator other : AggregatorState) (event : RoundEvent) → HasFacts facts (rounds_of aggregator) → MayTake (rounds_of aggregator) event → event_second event < 2 ^ 63
      → (facts ≡ others) ⊎ (with_new facts (fact_added image aggregator event) ≡ others) → IsOfFacts me others other → IsRestartedEither image aggregator event other
  restart_either me facts others aggregator other event has may early (inl before) of =
      inl (laws.restarted me others (rounds_of aggregator) other (subst (λ (l : List Fact). HasFacts l (rounds_of aggregator)) before has) of)
  restart_either me facts others aggregator other event has may early (inr after) of =
      let second = event_second event in
      let rounds : ℕ → RoundState = λ t. if t == second then (round_row image event (rounds_of aggregator second)).after else rounds_of aggregator t in
      inr (laws.restarted me others rounds other (subst (λ (l : List Fact). HasFacts l rounds) after (after_event facts aggregator event has may early)) of)

  items_on : (plan : PlanState) (me second : ℕ) (old new : ℕ → RoundState) (after : RoundState) → ((t : ℕ) → Items plan me t (old t)) → Items plan me second after → ((t : ℕ) → new t ≡ (if t == second then after else old t)) → (t : ℕ) → Items plan me t (new t)
  items_on plan me second old new after are is changes t = subst (λ (r : RoundState). Items plan me t r) (sym (changes t)) (by_test (t == second) refl)
    where
      by_test : (b : Bool) → (t == second) ≡ b → Items plan me t (if b then after else old t)
      by_test true same = subst (λ (s : ℕ). Items plan me s after) (sym (eqb-true t second same)) is
      by_test false other = are t

  -- the store after an event
  pub goes_on : {D : Type 0} (content : D → List ℕ) (images : D → List ℕ → Type 0) (me : ℕ) (plan : PlanState) (facts : List Fact) (old new : StoreState D) (event : RoundEvent) (step : Step) → IsStoreOf content images me plan facts old
      → MayTake (rounds_of old.aggregator) event → event_second event < 2 ^ 63 → IsWritten plan me event → TookTurn image old.aggregator new.aggregator event step → HasStored content images step.fact old.log new.log
      → IsStoreOf content images me plan (with_new facts step.fact) new
  goes_on content images me plan facts old new event step is may early written took stored =
      let second = event_second event in
      let row = round_row image event (rounds_of old.aggregator second) in
      let has = laws.facts image facts (rounds_of old.aggregator) (rounds_of new.aggregator) event step is.has may early took.turn in
      let texts : IfSome step.fact (λ (fact : Fact). AllByRecursion (IsWritten plan me) (fact_events fact)) =
      subst (λ (f : Option Fact). IfSome f (λ (fact : Fact). AllByRecursion (IsWritten plan me) (fact_events fact))) (sym took.turn.fact)
      (fact_is_written plan me second row.fact (row_texts plan me image event (rounds_of old.aggregator second) (is.items second) written)) in
      record {
        mine = took.me ∙ is.mine;
        has = has;
        items = items_on plan me second (rounds_of old.aggregator) (rounds_of new.aggregator) row.after is.items (row_items plan me image event (rounds_of old.aggregator second) (is.items second) written) took.turn.after;
        settled = stored.settled;
        from = stored.from;
        file = file_with plan me facts (content old.log.disk) (content new.log.disk) step.fact is.file has.lawful texts stored.file;
      }
