-- The events of a record make its fact.
use Rattle.std.proofs.Common.{◌≡◌, ◌∙◌, ℕ, ◌<◌, ◌^◌, ◌==◌, if◌then◌else◌, Bool, true, false, List, [], ◌∷◌, ◌++◌, map, is_some, option_map, Option, Some, None, Result, Ok, Err, IfOk, OnOk, refl, sym, subst, ap, append_assoc}
use Rattle.std.specs.List.{AllByRecursion, list_all}
use Rattle.std.proofs.lemmas.Bool.{and_parts, cond_both, eqb-true, false≢true}
use Rattle.std.proofs.lemmas.List.{append-nil}
use Rattle.ksi_aggtree.specs.declared.item.Item.{Item}
use Rattle.ksi_aggtree.specs.declared.entries.Entry.{Entry}
use Rattle.ksi_aggtree.specs.Entries.{has_from, is_full}
use Rattle.ksi_signature.specs.declared.above.Above.{Above}
use Rattle.ksi_signature.specs.declared.answer.Answer.TheVariants as answers
use Rattle.ksi_schedule.specs.Plans.{PlanState}
use Rattle.ksi_aggregator.specs.declared.event.RoundEvent.{RoundEvent}
use Rattle.ksi_aggregator.specs.declared.event.RoundEvent.TheVariants as events
use Rattle.ksi_aggregator.specs.declared.fact.Fact.{Fact}
use Rattle.ksi_aggregator.specs.declared.fact.RoundFact.{RoundFact}
use Rattle.ksi_aggregator.specs.declared.fact.RoundFact.TheVariants.{Closed, Answered}
use Rattle.ksi_aggregator.specs.declared.step.Step.{Step}
use Rattle.ksi_aggregator.specs.Events.{MayTake, event_second, round_row}
use Rattle.ksi_aggregator.specs.Facts.{stable_round}
use Rattle.ksi_aggregator.specs.Rounds.{AggregatorState, fact_of, rounds_of}
use Rattle.ksi_aggregator.specs.Rows.{RoundState, RoundTurn, closed_now, request_entry, response_where, round_added, round_close, round_request, round_response, round_still, round_submission, submitted_entry}
use Rattle.ksi_aggregator.specs.Lawful.{AreLawful, with_new}
use Rattle.ksi_aggregator.specs.Restored.{HasFacts, IsOfFacts, restored}
use Rattle.ksi_aggregator.proofs.Lasting.{facts_last, has_facts}
use Rattle.ksi_wire.specs.RoundLines.{FitsRound}
use Rattle.ksi_roundstore.specs.Facts.{AreAccepted, IsAccepted, IsMade, TakesAll, is_accepted, is_item_of, is_last_behind, round_after, rounds_after}
use Rattle.ksi_roundstore.specs.Folds.{GoesOn}
use Rattle.ksi_roundstore.specs.Texts.{event_of, lines_of}
use Rattle.ksi_roundstore.specs.Written.{IsWritten, fact_events}
use Rattle.ksi_roundstore.proofs.Cut.{itself}
use Rattle.ksi_roundstore.proofs.ReadAs.{all_fit}
use Rattle.ksi_roundstore.proofs.Rows.{request_none, submission_none}
use Rattle.ksi_roundstore.proofs.Spelled.{text_is_lines}
use Rattle.ksi_roundstore.proofs.Taken.{accepted_front, after_then}
use Rattle.ksi_roundstore.proofs.Untaken.{not_accepted}

fit_front : (items : List RoundEvent) (last : RoundEvent) → AllByRecursion FitsRound (items ++ last ∷ []) → AllByRecursion FitsRound items × FitsRound last
fit_front [] last fit = (tt, fit.0)
fit_front (item ∷ items) last fit = let rest = fit_front items last fit.1 in ((fit.0, rest.0), rest.1)

pub early : (event : RoundEvent) → FitsRound event → event_second event < 2 ^ 63
early (events.Request number second imprint name) fits = fits
early (events.Submission from second item) fits = fits.0
early (events.Close second) fits = fits
early (events.Response second above) fits = fits.0

-- a round with one open item more
abbrev with_item : RoundState → Entry → RoundState
with_item r entry = record { open_items = r.open_items ++ entry ∷ []; closed = r.closed; answered = r.answered }

-- EACH ROW, WHERE ITS EVENT WAS ACCEPTED

request_taken : (number : ℕ) (imprint : List ℕ) (name : Option (List ℕ)) (r : RoundState) → is_accepted (round_request number imprint name r).answer ≡ true → (round_request number imprint name r).after ≡ with_item r (request_entry number imprint name)
unfolding round_request
request_taken number imprint name r =
    cond_both (is_some r.closed) (round_still r answers.Late) _ (λ (turn : RoundTurn). is_accepted turn.answer ≡ true → turn.after ≡ with_item r (request_entry number imprint name)) (λ _ done. absurd (false≢true done))
    (λ _. cond_both (is_full r.open_items) (round_still r answers.Full) (round_added r (request_entry number imprint name) (answers.Number number))
    (λ (turn : RoundTurn). is_accepted turn.answer ≡ true → turn.after ≡ with_item r (request_entry number imprint name)) (λ _ done. absurd (false≢true done)) (λ _ _. refl))

submission_taken : (from : ℕ) (item : Item) (r : RoundState) → is_accepted (round_submission from item r).answer ≡ true → (round_submission from item r).after ≡ with_item r (submitted_entry from item)
unfolding round_submission
submission_taken from item r =
    cond_both (is_some r.closed) (round_still r answers.Late) _ (λ (turn : RoundTurn). is_accepted turn.answer ≡ true → turn.after ≡ with_item r (submitted_entry from item)) (λ _ done. absurd (false≢true done))
    (λ _. cond_both (has_from from r.open_items) (round_still r answers.Known) _ (λ (turn : RoundTurn). is_accepted turn.answer ≡ true → turn.after ≡ with_item r (submitted_entry from item)) (λ _ done. absurd (false≢true done))
    (λ _. cond_both (is_full r.open_items) (round_still r answers.Full) (round_added r (submitted_entry from item) answers.Done)
    (λ (turn : RoundTurn). is_accepted turn.answer ≡ true → turn.after ≡ with_item r (submitted_entry from item)) (λ _ done. absurd (false≢true done)) (λ _ _. refl)))

module _ (image : List ℕ → List ℕ) where
  close_taken : (r : RoundState) → is_accepted (round_close image r).answer ≡ true → round_close image r ≡ closed_now image r
  unfolding round_close
  close_taken r = cond_both (is_some r.closed) (round_still r answers.Closed) (closed_now image r) (λ (turn : RoundTurn). is_accepted turn.answer ≡ true → turn ≡ closed_now image r) (λ _ done. absurd (false≢true done)) (λ _ _. refl)

  answered_taken : (above : Above) (closed : Option (List Entry)) (answered : Option Above) (r : RoundState) → is_accepted (response_where image above closed answered r).answer ≡ true
      → ((response_where image above closed answered r).fact ≡ Some (Answered above)) × ((response_where image above closed answered r).after.open_items ≡ r.open_items)
  answered_taken above None answered r done = absurd (false≢true done)
  answered_taken above (Some []) answered r done = absurd (false≢true done)
  answered_taken above (Some (entry ∷ entries)) (Some first) r done = absurd (false≢true done)
  answered_taken above (Some (entry ∷ entries)) None r done = (refl, refl)

  response_taken : (above : Above) (r : RoundState) → is_accepted (round_response image above r).answer ≡ true → ((round_response image above r).fact ≡ Some (Answered above)) × ((round_response image above r).after.open_items ≡ r.open_items)
  unfolding round_response
  response_taken above r = answered_taken above r.closed r.answered r

  -- an event of an item: it brings this one, stores nothing, and the round has it from then on
  pub record Brings (second : ℕ) (event : RoundEvent) (r : RoundState) : Type 0 where
    pub entry : Entry
    pub event_is : event ≡ event_of second entry
    pub here : event_second event ≡ second
    pub none : (round_row image event r).fact ≡ None
    pub after : (round_row image event r).after ≡ with_item r entry

  brings : (second : ℕ) (event : RoundEvent) (r : RoundState) → is_item_of second event ≡ true → is_accepted (round_row image event r).answer ≡ true → Brings second event r
  brings second (events.Request number t imprint name) r item taken =
      let same = eqb-true t second item in
      record { entry = request_entry number imprint name; event_is = ap (λ (u : ℕ). events.Request number u imprint name) same; here = same; none = request_none number imprint name r; after = request_taken number imprint name r taken }
  brings second (events.Submission from t item) r is taken =
      let same = eqb-true t second is in
      record { entry = submitted_entry from item; event_is = ap (λ (u : ℕ). events.Submission from u item) same; here = same; none = submission_none from item r; after = submission_taken from item r taken }
  brings second (events.Close t) r item taken = absurd (false≢true item)
  brings second (events.Response t above) r item taken = absurd (false≢true item)

  -- the rounds after an event have its fact
  pub has_after : (facts : List Fact) (rounds : ℕ → RoundState) (event : RoundEvent) → HasFacts facts rounds → MayTake rounds event → event_second event < 2 ^ 63
      → HasFacts (with_new facts (option_map (fact_of (event_second event)) (round_row image event (rounds (event_second event))).fact)) (round_after image rounds event)
  has_after facts rounds event has may below =
      let second = event_second event in
      let turn = round_row image event (rounds second) in
      let step : Step = record { answer = turn.answer; fact = option_map (fact_of second) turn.fact; sends = turn.sends } in
      facts_last image facts rounds (round_after image rounds event) event step has may below (record { after = λ t. refl; answer = refl; fact = refl; sends = refl })

  -- rounds that stored these facts, where only the round of a second has open items
  pub record IsOpenAt (facts : List Fact) (second : ℕ) (entries : List Entry) (rounds : ℕ → RoundState) : Type 0 where
    pub has : HasFacts facts rounds
    pub items : (rounds second).open_items ≡ entries
    pub others : (t : ℕ) → (t == second) ≡ false → (rounds t).open_items ≡ []

  item_goes : (facts : List Fact) (second : ℕ) (entries : List Entry) (rounds : ℕ → RoundState) (event : RoundEvent) → IsOpenAt facts second entries rounds → IsAccepted image rounds event → FitsRound event
      → (is : Brings second event (rounds (event_second event))) → IsOpenAt facts second (entries ++ is.entry ∷ []) (round_after image rounds event)
  item_goes facts second entries rounds event open_at accepted fits is = record {
    has = subst (λ (fact : Option RoundFact). HasFacts (with_new facts (option_map (fact_of (event_second event)) fact)) (round_after image rounds event)) is.none (has_after facts rounds event open_at.has accepted.may (early event fits));
    items = at_second (second == event_second event) refl;
    others = λ t other. elsewhere t other (t == event_second event) refl;
  }
    where
      row : RoundState
      row = (round_row image event (rounds (event_second event))).after

      at_second : (b : Bool) → (second == event_second event) ≡ b → (if b then row else rounds second).open_items ≡ entries ++ is.entry ∷ []
      at_second true same = ap (λ (r : RoundState). r.open_items) is.after ∙ ap (λ (u : ℕ). (rounds u).open_items ++ is.entry ∷ []) is.here ∙ ap (λ (l : List Entry). l ++ is.entry ∷ []) open_at.items
      at_second false other = absurd (false≢true (sym other ∙ ap (λ (u : ℕ). second == u) is.here ∙ itself second))

      elsewhere : (t : ℕ) → (t == second) ≡ false → (b : Bool) → (t == event_second event) ≡ b → (if b then row else rounds t).open_items ≡ []
      elsewhere t other true same = absurd (false≢true (sym other ∙ ap (λ (u : ℕ). t == u) (sym is.here) ∙ same))
      elsewhere t other false apart = open_at.others t other

  -- after the events of items the round of their second has these open
  pub record HasTaken (facts : List Fact) (second : ℕ) (front : List Entry) (rounds : ℕ → RoundState) (items : List RoundEvent) : Type 0 where
    pub entries : List Entry
    pub items_are : items ≡ map (event_of second) entries
    pub open_at : IsOpenAt facts second (front ++ entries) (rounds_after image rounds items)

  items_taken : (facts : List Fact) (second : ℕ) (front : List Entry) (rounds : ℕ → RoundState) (items : List RoundEvent) → IsOpenAt facts second front rounds → list_all (is_item_of second) items ≡ true
      → AreAccepted image rounds items → AllByRecursion FitsRound items → HasTaken facts second front rounds items
  items_taken facts second front rounds [] open_at are accepted fit = record { entries = []; items_are = refl; open_at = subst (λ (l : List Entry). IsOpenAt facts second l rounds) (sym (append-nil front)) open_at }
  items_taken facts second front rounds (event ∷ items) open_at are accepted fit =
      let parts = and_parts (is_item_of second event) (list_all (is_item_of second) items) are in
      let is = brings second event (rounds (event_second event)) parts.0 accepted.0.accepted in
      let rest = items_taken facts second (front ++ is.entry ∷ []) (round_after image rounds event) items (item_goes facts second front rounds event open_at accepted.0 fit.0 is) parts.1 accepted.1 fit.1 in
      record {
        entries = is.entry ∷ rest.entries;
        items_are = λ i. is.event_is i ∷ rest.items_are i;
        open_at = subst (λ (l : List Entry). IsOpenAt facts second l (rounds_after image rounds (event ∷ items))) (append_assoc front (is.entry ∷ []) rest.entries) rest.open_at;
      }

  -- the events of a record: they are those of a fact, which the rounds have behind those before; nothing is open
  pub record Makes (facts : List Fact) (rounds : ℕ → RoundState) (list : List RoundEvent) : Type 0 where
    pub fact : Fact
    pub events_are : list ≡ fact_events fact
    pub has : HasFacts (facts ++ fact ∷ []) (rounds_after image rounds list)
    pub empty : (t : ℕ) → (rounds_after image rounds list t).open_items ≡ []

  -- nothing is open once the round of a second has nothing open
  empty_after : (rounds : ℕ → RoundState) (event : RoundEvent) (second : ℕ) → event_second event ≡ second → (round_row image event (rounds (event_second event))).after.open_items ≡ [] → ((t : ℕ) → (t == second) ≡ false → (rounds t).open_items ≡ [])
      → (t : ℕ) → (round_after image rounds event t).open_items ≡ []
  empty_after rounds event second here is others t = by (t == event_second event) refl
    where
      by : (b : Bool) → (t == event_second event) ≡ b → (if b then (round_row image event (rounds (event_second event))).after else rounds t).open_items ≡ []
      by true same = is
      by false apart = others t (ap (λ (u : ℕ). t == u) (sym here) ∙ apart)

  last_makes : (facts : List Fact) (rounds : ℕ → RoundState) (event : RoundEvent) (what : RoundFact) → HasFacts facts rounds → IsAccepted image rounds event → FitsRound event → (round_row image event (rounds (event_second event))).fact ≡ Some what
      → HasFacts (facts ++ fact_of (event_second event) what ∷ []) (round_after image rounds event)
  last_makes facts rounds event what has accepted fits is =
      subst (λ (fact : Option RoundFact). HasFacts (with_new facts (option_map (fact_of (event_second event)) fact)) (round_after image rounds event)) is (has_after facts rounds event has accepted.may (early event fits))

  closing_makes : (facts : List Fact) (rounds : ℕ → RoundState) (second : ℕ) (items : List RoundEvent) → IsOpenAt facts second [] rounds → list_all (is_item_of second) items ≡ true
      → AreAccepted image rounds items → IsAccepted image (rounds_after image rounds items) (events.Close second) → AllByRecursion FitsRound items → FitsRound (events.Close second) → Makes facts rounds (items ++ events.Close second ∷ [])
  closing_makes facts rounds second items open_at are accepted last fit fits =
      let took = items_taken facts second [] rounds items open_at are accepted fit in
      let mid = rounds_after image rounds items in
      let turn : round_close image (mid second) ≡ closed_now image (mid second) = close_taken (mid second) last.accepted in
      let fact_is : (round_close image (mid second)).fact ≡ Some (Closed took.entries) = ap (λ (t : RoundTurn). t.fact) turn ∙ ap (λ (l : List Entry). Some (Closed l)) took.open_at.items in
      let after : rounds_after image rounds (items ++ events.Close second ∷ []) ≡ round_after image mid (events.Close second) = after_then image rounds items (events.Close second ∷ []) in
      record {
        fact = fact_of second (Closed took.entries);
        events_are = ap (λ (l : List RoundEvent). l ++ events.Close second ∷ []) took.items_are;
        has = subst (λ (r : ℕ → RoundState). HasFacts (facts ++ fact_of second (Closed took.entries) ∷ []) r) (sym after) (last_makes facts mid (events.Close second) (Closed took.entries) took.open_at.has last fits fact_is);
        empty = λ t. ap (λ (r : ℕ → RoundState). (r t).open_items) after ∙ empty_after mid (events.Close second) second refl (ap (λ (t : RoundTurn). t.after.open_items) turn) took.open_at.others t;
      }

  answer_makes : (facts : List Fact) (rounds : ℕ → RoundState) (second : ℕ) (above : Above) → HasFacts facts rounds → ((t : ℕ) → (rounds t).open_items ≡ []) → IsAccepted image rounds (events.Response second above) → FitsRound (events.Response second above)
      → Makes facts rounds (events.Response second above ∷ [])
  answer_makes facts rounds second above has empty accepted fits =
      let took = response_taken above (rounds second) accepted.accepted in
      record {
        fact = fact_of second (Answered above);
        events_are = refl;
        has = last_makes facts rounds (events.Response second above) (Answered above) has accepted fits took.0;
        empty = empty_after rounds (events.Response second above) second refl (took.1 ∙ empty second) (λ t _. empty t);
      }

  last_of : (facts : List Fact) (rounds : ℕ → RoundState) (items : List RoundEvent) (last : RoundEvent) → HasFacts facts rounds → ((t : ℕ) → (rounds t).open_items ≡ []) → is_last_behind items last ≡ true
      → AreAccepted image rounds (items ++ last ∷ []) → AllByRecursion FitsRound (items ++ last ∷ []) → Makes facts rounds (items ++ last ∷ [])
  last_of facts rounds items (events.Request number second imprint name) has empty is accepted fit = absurd (false≢true is)
  last_of facts rounds items (events.Submission from second item) has empty is accepted fit = absurd (false≢true is)
  last_of facts rounds items (events.Close second) has empty is accepted fit =
      let parts = accepted_front image rounds items (events.Close second) accepted in
      let fits = fit_front items (events.Close second) fit in
      closing_makes facts rounds second items (record { has = has; items = empty second; others = λ t _. empty t }) is parts.0 parts.1 fits.0 fits.1
  last_of facts rounds [] (events.Response second above) has empty is accepted fit = answer_makes facts rounds second above has empty accepted.0 fit.0
  last_of facts rounds (item ∷ items) (events.Response second above) has empty is accepted fit = absurd (false≢true is)

  pub makes : (facts : List Fact) (rounds : ℕ → RoundState) (list : List RoundEvent) → HasFacts facts rounds → ((t : ℕ) → (rounds t).open_items ≡ []) → IsMade list true → AreAccepted image rounds list → AllByRecursion FitsRound list → Makes facts rounds list
  makes facts rounds list has empty made accepted fit =
      let same = made.2 in
      subst (λ (l : List RoundEvent). Makes facts rounds l) (sym same)
      (last_of facts rounds made.0 made.1 has empty made.3 (subst (λ (l : List RoundEvent). AreAccepted image rounds l) same accepted) (subst (λ (l : List RoundEvent). AllByRecursion FitsRound l) same fit))

  restored_again : (r : RoundState) → r.open_items ≡ [] → r ≡ restored (stable_round r)
  restored_again r empty = ap (λ (l : List Entry). record { open_items = l; closed = r.closed; answered = r.answered }) empty

  -- an aggregator of facts that took the events of a record is that of the record's fact too
  pub goes_on_with : (plan : PlanState) (me : ℕ) (facts : List Fact) (content : List ℕ) (old new : AggregatorState) (list : List RoundEvent) → AreLawful facts → IsOfFacts me facts old → new.me ≡ old.me → content ≡ lines_of list
      → AllByRecursion (IsWritten plan me) list → IsMade list true → AreAccepted image (rounds_of old) list → ((t : ℕ) → rounds_of new t ≡ rounds_after image (rounds_of old) list t) → GoesOn plan me facts content new true
  goes_on_with plan me facts content old new list lawful of mine text written made accepted after =
      let has = has_facts me facts old lawful of in
      let is = makes facts (rounds_of old) list has (λ t. ap (λ (r : RoundState). r.open_items) (of.rounds t)) made accepted (all_fit plan me list written) in (
        is.fact,
        record {
          written = subst (λ (l : List RoundEvent). AllByRecursion (IsWritten plan me) l) is.events_are written;
          text = text ∙ ap lines_of is.events_are ∙ sym (text_is_lines is.fact.second is.fact.what);
        },
        is.has.lawful,
        record {
          mine = mine ∙ of.mine;
          rounds = λ t. after t ∙ restored_again (rounds_after image (rounds_of old) list t) (is.empty t) ∙ ap restored (is.has.stored t);
        },
      )

  pub took_all : {E : Type 0} (plan : PlanState) (content : List ℕ) (old new : AggregatorState) (list : List RoundEvent) (result : Result Bool E) → content ≡ lines_of list → AllByRecursion (IsWritten plan old.me) list → IsMade list true
      → OnOk result (new.me ≡ old.me) → IfOk result (TakesAll image (rounds_of old) (rounds_of new) list)
      → IfOk result (λ stored. (me : ℕ) (facts : List Fact) → AreLawful facts → IsOfFacts me facts old → GoesOn plan me facts content new stored)
  took_all plan content old new list (Ok true) text written made mine took = λ me facts lawful of.
      goes_on_with plan me facts content old new list lawful of mine text (subst (λ (n : ℕ). AllByRecursion (IsWritten plan n) list) of.mine written) made took.0 took.1
  took_all plan content old new list (Ok false) text written made mine took = λ me facts lawful of.
      not_accepted image plan me facts content old list text (subst (λ (n : ℕ). AllByRecursion (IsWritten plan n) list) of.mine written) of took
  took_all plan content old new list (Err failure) text written made mine took = tt
