-- Each item of a request in a round of an aggregator is that of the accepted request of its number, and stands there once.
use Rattle.std.proofs.Common.{◌≡◌, ℕ, zero, suc, ◌&&◌, eqb, List, [], ◌∷◌, ◌++◌, length, refl, sym, ap, subst, ◌∙◌, inl, inr, is_some, Option, Some, None}
use Rattle.std.specs.Prelude.{slice_get}
use Rattle.std.proofs.lemmas.Bool.{cond_both, eqb-true, and_parts}
use Rattle.ksi_aggtree.specs.declared.item.Item.{Item}
use Rattle.ksi_aggtree.specs.declared.entries.Entry.{Entry}
use Rattle.ksi_aggtree.specs.declared.entries.Origin.TheVariants as origins
use Rattle.ksi_aggtree.specs.Entries.{has_from, is_full}
use Rattle.ksi_signature.specs.declared.above.Above.{Above}
use Rattle.ksi_signature.specs.declared.answer.Answer.{Answer}
use Rattle.ksi_signature.specs.declared.answer.Answer.TheVariants as answers
use Rattle.ksi_aggregator.specs.Issuing.{from_request}
use Rattle.ksi_aggregator.specs.Rows.{RoundState, RoundTurn, fresh_round, round_still, round_added, closed_now, request_entry, submitted_entry, round_request, round_submission, round_close, round_response, response_where, round_restarted}
use Rattle.ksi_schedule.specs.declared.actor.Actor.{Actor}
use Rattle.ksi_schedule.specs.declared.actor.Actor.TheVariants as actors
use Rattle.ksi_schedule.specs.declared.event.Event.{Event}
use Rattle.ksi_schedule.specs.declared.event.Event.TheVariants as events
use Rattle.ksi_schedule.specs.Plans.{PlanState}
use Rattle.ksi_world.specs.declared.outcome.Asked.{Asked}
use Rattle.ksi_world.specs.declared.message.Content.{Content}
use Rattle.ksi_world.specs.declared.message.Content.TheVariants as contents
use Rattle.ksi_world.specs.declared.message.Message.{Message}
use Rattle.ksi_world.specs.Histories.{WorldState, at_round, accepted_where, delivered, happens, first_world, run, after}
use Rattle.ksi_world.specs.Histories as histories
use Rattle.ksi_world.proofs.Turning.{get_push}

-- what the request of the item asked of aggregator k for second t
abbrev pub asked_at : (k t : ℕ) → Item → Asked
asked_at k t item = record { aggregator = k; second = t; imprint = item.imprint }

pub record IsAskedAt (requests : List Asked) (k t number : ℕ) (item : Item) : Type 0 where
  pub asked : slice_get requests number ≡ Some (asked_at k t item)
  pub level : item.level ≡ 0

pub record AreRequested (requests : List Asked) (k t : ℕ) (entries : List Entry) : Type 0 where
  pub asked : (i number : ℕ) (item : Item) → slice_get entries i ≡ Some (from_request number item) → IsAskedAt requests k t number item
  pub once : (i j number : ℕ) (x y : Item) → slice_get entries i ≡ Some (from_request number x) → slice_get entries j ≡ Some (from_request number y) → i ≡ j

pub record IsNumberedRound (requests : List Asked) (k t : ℕ) (r : RoundState) : Type 0 where
  pub open_items : AreRequested requests k t r.open_items
  pub closed : (entries : List Entry) → r.closed ≡ Some entries → AreRequested requests k t entries

abbrev pub IsNumbered : WorldState → Type 0
IsNumbered w = (k t : ℕ) → IsNumberedRound w.requests k t (w.rounds k t)

-- ONE ITEM MORE

pub get_front : {A : Type 0} (xs ys : List A) (k : ℕ) (x : A) → slice_get xs k ≡ Some x → slice_get (xs ++ ys) k ≡ Some x
get_front [] ys k x at = absurd (cc at)
get_front (y ∷ xs) ys zero x at = at
get_front (y ∷ xs) ys (suc k) x at = get_front xs ys k x at

pub get_last : {A : Type 0} (xs : List A) (x : A) → slice_get (xs ++ x ∷ []) (length xs) ≡ Some x
get_last [] x = refl
get_last (y ∷ xs) x = get_last xs x

none_at_end : {A : Type 0} (xs : List A) (x : A) → slice_get xs (length xs) ≡ Some x → ⊥
none_at_end [] x at = absurd (cc at)
none_at_end (y ∷ xs) x at = none_at_end xs x at

no_items : (requests : List Asked) (k t : ℕ) → AreRequested requests k t []
no_items requests k t = record { asked = λ i number item at. absurd (cc at); once = λ i j number x y at. absurd (cc at) }

fresh_numbered : (requests : List Asked) (k t : ℕ) → IsNumberedRound requests k t fresh_round
fresh_numbered requests k t = record { open_items = no_items requests k t; closed = λ entries at. absurd (cc at) }

asked_more : (requests : List Asked) (new : Asked) (k t number : ℕ) (item : Item) → IsAskedAt requests k t number item → IsAskedAt (requests ++ new ∷ []) k t number item
asked_more requests new k t number item is = record { asked = get_front requests (new ∷ []) number (asked_at k t item) is.asked; level = is.level }

requested_more : (requests : List Asked) (new : Asked) (k t : ℕ) (entries : List Entry) → AreRequested requests k t entries → AreRequested (requests ++ new ∷ []) k t entries
requested_more requests new k t entries are = record {
  asked = λ i number item at. asked_more requests new k t number item (are.asked i number item at);
  once = are.once;
}

round_more : (requests : List Asked) (new : Asked) (k t : ℕ) (r : RoundState) → IsNumberedRound requests k t r → IsNumberedRound (requests ++ new ∷ []) k t r
round_more requests new k t r is = record {
  open_items = requested_more requests new k t r.open_items is.open_items;
  closed = λ entries at. requested_more requests new k t entries (is.closed entries at);
}

-- an item of an aggregator
push_lower : (requests : List Asked) (k t from : ℕ) (item : Item) (entries : List Entry) → AreRequested requests k t entries → AreRequested requests k t (entries ++ submitted_entry from item ∷ [])
push_lower requests k t from item entries are = record {
  asked = λ i number x at. are.asked i number x (old i number x at);
  once = λ i j number x y at at'. are.once i j number x y (old i number x at) (old j number y at');
}
  where
    old : (i number : ℕ) (x : Item) → slice_get (entries ++ submitted_entry from item ∷ []) i ≡ Some (from_request number x) → slice_get entries i ≡ Some (from_request number x)
    old i number x at = elim (get_push entries (submitted_entry from item) i (from_request number x) at) [
      | inl there ↦ there
      | inr new ↦ absurd (cc (ap (λ (e : Entry). e.origin) new.1))
    ]

-- the item of the request that is accepted next
push_request : (requests : List Asked) (k t : ℕ) (imprint : List ℕ) (name : Option (List ℕ)) (entries : List Entry) → AreRequested requests k t entries →
    AreRequested (requests ++ record { aggregator = k; second = t; imprint = imprint } ∷ []) k t (entries ++ request_entry (length requests) imprint name ∷ [])
push_request requests k t imprint name entries are = record {
  asked = λ i number x at. elim (get_push entries entry i (from_request number x) at) [
    | inl there ↦ asked_more requests new k t number x (are.asked i number x there)
    | inr last ↦ let is : from_request number x ≡ entry = last.1 in here number x (number_is number x is) (item_is number x is)
  ];
  once = λ i j number x y at at'. elim (get_push entries entry i (from_request number x) at) [
    | inl there ↦ elim (get_push entries entry j (from_request number y) at') [
      | inl there' ↦ are.once i j number x y there there'
      | inr last' ↦ absurd (not_both i number x there (number_is number y last'.1))
    ]
    | inr last ↦ elim (get_push entries entry j (from_request number y) at') [
      | inl there' ↦ absurd (not_both j number y there' (number_is number x last.1))
      | inr last' ↦ last.0 ∙ sym last'.0
    ]
  ];
}
  where
    new : Asked
    new = record { aggregator = k; second = t; imprint = imprint }

    entry : Entry
    entry = request_entry (length requests) imprint name

    number_is : (number : ℕ) (x : Item) → from_request number x ≡ request_entry (length requests) imprint name → number ≡ length requests
    number_is number x same = let origin : origins.Request number ≡ origins.Request (length requests) = ap (λ (e : Entry). e.origin) same in cc origin

    item_is : (number : ℕ) (x : Item) → from_request number x ≡ request_entry (length requests) imprint name → x ≡ record { imprint = imprint; level = 0; name = name }
    item_is number x same = ap (λ (e : Entry). e.item) same

    here : (number : ℕ) (x : Item) → number ≡ length requests → x ≡ record { imprint = imprint; level = 0; name = name } → IsAskedAt (requests ++ new ∷ []) k t number x
    here number x number_is item_is =
        subst (λ n. IsAskedAt (requests ++ new ∷ []) k t n x) (sym number_is)
        (subst (λ (x : Item). IsAskedAt (requests ++ new ∷ []) k t (length requests) x) (sym item_is)
        (record { asked = get_last requests new; level = refl }))

    not_both : (i number : ℕ) (x : Item) → slice_get entries i ≡ Some (from_request number x) → number ≡ length requests → ⊥
    not_both i number x there is = none_at_end requests (asked_at k t x) (subst (λ n. slice_get requests n ≡ Some (asked_at k t x)) is ((are.asked i number x there).asked))

module _ (image : List ℕ → List ℕ) (plan : PlanState) where
  -- A TURN OF A ROUND

  round_numbered : (w : WorldState) (k t : ℕ) (turn : RoundTurn) → IsNumberedRound w.requests k t turn.after → IsNumbered w → IsNumbered (at_round plan w k t turn).world
  round_numbered w k t turn round is i u = cond_both (eqb i k && eqb u t) turn.after (w.rounds i u) (λ r. IsNumberedRound w.requests i u r)
      (λ here. let same = and_parts (eqb i k) (eqb u t) here in
      subst (λ i. IsNumberedRound w.requests i u turn.after) (sym (eqb-true i k same.0)) (subst (λ u. IsNumberedRound w.requests k u turn.after) (sym (eqb-true u t same.1)) round))
      (λ _. is i u)

  stays_numbered : (w : WorldState) (k t : ℕ) (answer : Answer) → IsNumbered w → IsNumbered (at_round plan w k t (round_still (w.rounds k t) answer)).world
  stays_numbered w k t answer is = round_numbered w k t (round_still (w.rounds k t) answer) (is k t) is

  request_numbered : (w : WorldState) (k t : ℕ) (imprint : List ℕ) (name : Option (List ℕ)) → IsNumbered w → IsNumbered (histories.request_happens plan w k t imprint name).world
  unfolding round_request
  request_numbered w k t imprint name is = cond_both (is_some r.closed) _ _ (λ turn. IsNumbered (accepted_where new (at_round plan w k t turn)).world) (λ _. stays_numbered w k t answers.Late is)
      (λ _. cond_both (is_full r.open_items) _ _ (λ turn. IsNumbered (accepted_where new (at_round plan w k t turn)).world) (λ _. stays_numbered w k t answers.Full is)
      (λ _. round_numbered w' k t turn (record { open_items = push_request w.requests k t imprint name r.open_items (is k t).open_items; closed = (all k t).closed }) all))
    where
      r : RoundState
      r = w.rounds k t

      new : Asked
      new = record { aggregator = k; second = t; imprint = imprint }

      turn : RoundTurn
      turn = round_added r (request_entry (length w.requests) imprint name) (answers.Number (length w.requests))

      w' : WorldState
      w' = record w { requests = w.requests ++ new ∷ [] }

      all : IsNumbered w'
      all i u = round_more w.requests new i u (w.rounds i u) (is i u)

  submission_numbered : (w : WorldState) (k t from : ℕ) (item : Item) → IsNumbered w → IsNumbered (at_round plan w k t (round_submission from item (w.rounds k t))).world
  unfolding round_submission
  submission_numbered w k t from item is =
      let r = w.rounds k t in
      cond_both (is_some r.closed) _ _ (λ turn. IsNumbered (at_round plan w k t turn).world) (λ _. stays_numbered w k t answers.Late is)
      (λ _. cond_both (has_from from r.open_items) _ _ (λ turn. IsNumbered (at_round plan w k t turn).world) (λ _. stays_numbered w k t answers.Known is)
      (λ _. cond_both (is_full r.open_items) _ _ (λ turn. IsNumbered (at_round plan w k t turn).world) (λ _. stays_numbered w k t answers.Full is)
      (λ _. round_numbered w k t (round_added r (submitted_entry from item) answers.Done) (record { open_items = push_lower w.requests k t from item r.open_items (is k t).open_items; closed = (is k t).closed }) is)))

  close_numbered : (w : WorldState) (k t : ℕ) → IsNumbered w → IsNumbered (at_round plan w k t (round_close image (w.rounds k t))).world
  unfolding round_close
  close_numbered w k t is =
      let r = w.rounds k t in
      cond_both (is_some r.closed) _ _ (λ turn. IsNumbered (at_round plan w k t turn).world) (λ _. stays_numbered w k t answers.Closed is)
      (λ _. round_numbered w k t (closed_now image r) (record { open_items = no_items w.requests k t; closed = λ entries at. let same : r.open_items ≡ entries = cc at in subst (λ es. AreRequested w.requests k t es) same (is k t).open_items }) is)

  response_numbered : (w : WorldState) (k t : ℕ) (above : Above) → IsNumbered w → IsNumbered (at_round plan w k t (round_response image above (w.rounds k t))).world
  unfolding round_response
  response_numbered w k t above is = by (w.rounds k t).closed (w.rounds k t).answered
    where
      by : (closed : Option (List Entry)) (answered : Option Above) → IsNumbered (at_round plan w k t (response_where image above closed answered (w.rounds k t))).world
      by None answered = stays_numbered w k t answers.Nothing is
      by (Some []) answered = stays_numbered w k t answers.Nothing is
      by (Some (e ∷ es)) (Some first) = stays_numbered w k t answers.Nothing is
      by (Some (e ∷ es)) None = round_numbered w k t (response_where image above (Some (e ∷ es)) None (w.rounds k t)) (record { open_items = (is k t).open_items; closed = (is k t).closed }) is

  -- AN EVENT

  taken_numbered : (w : WorldState) (sender addressee : Actor) (t : ℕ) (content : Content) → IsNumbered w → IsNumbered (histories.taken image plan w sender addressee t content).world
  taken_numbered w (actors.Core from) (actors.Core j) t (contents.Synod m) is = is
  taken_numbered w (actors.Core from) (actors.Core j) t (contents.Submission item) is = is
  taken_numbered w (actors.Core from) (actors.Core j) t (contents.Response above) is = is
  taken_numbered w (actors.Core from) (actors.Aggregator k) t (contents.Synod m) is = is
  taken_numbered w (actors.Core from) (actors.Aggregator k) t (contents.Submission item) is = is
  taken_numbered w (actors.Core from) (actors.Aggregator k) t (contents.Response above) is = response_numbered w k t above is
  taken_numbered w (actors.Aggregator from) (actors.Core j) t (contents.Synod m) is = is
  taken_numbered w (actors.Aggregator from) (actors.Core j) t (contents.Submission item) is = is
  taken_numbered w (actors.Aggregator from) (actors.Core j) t (contents.Response above) is = is
  taken_numbered w (actors.Aggregator from) (actors.Aggregator k) t (contents.Synod m) is = is
  taken_numbered w (actors.Aggregator from) (actors.Aggregator k) t (contents.Submission item) is = submission_numbered w k t from item is
  taken_numbered w (actors.Aggregator from) (actors.Aggregator k) t (contents.Response above) is = response_numbered w k t above is

  delivered_numbered : (w : WorldState) (found : Option Message) → IsNumbered w → IsNumbered (delivered image plan w found).world
  delivered_numbered w None is = is
  delivered_numbered w (Some m) is = taken_numbered w m.sender m.addressee m.second m.content is

  pub happens_numbered : (w : WorldState) (e : Event) → IsNumbered w → IsNumbered (happens image plan w e).world
  unfolding happens
  happens_numbered w (events.Request k t imprint name) is = request_numbered w k t imprint name is
  happens_numbered w (events.Close k t) is = close_numbered w k t is
  happens_numbered w (events.Seal j t) is = is
  happens_numbered w (events.Ballot j t) is = is
  happens_numbered w (events.Deliver number) is = delivered_numbered w (slice_get w.wire number) is
  happens_numbered w (events.Tell j t) is = is
  happens_numbered w (events.Respond j t) is = is
  happens_numbered w (events.Publish j p) is = is
  happens_numbered w (events.RestartCore j) is = is
  happens_numbered w (events.RestartAggregator k) is = λ i u. cond_both (eqb i k) (round_restarted (w.rounds i u)) (w.rounds i u) (λ r. IsNumberedRound w.requests i u r)
      (λ _. cond_both (is_some (w.rounds i u).closed) (w.rounds i u) fresh_round (λ r. IsNumberedRound w.requests i u r) (λ _. is i u) (λ _. fresh_numbered w.requests i u)) (λ _. is i u)

  run_numbered : (es : List Event) (w : WorldState) → IsNumbered w → IsNumbered (run image plan w es)
  run_numbered [] w is = is
  run_numbered (e ∷ es) w is = run_numbered es (happens image plan w e).world (happens_numbered w e is)

  pub after_numbered : (es : List Event) → IsNumbered (after image plan es)
  unfolding after first_world
  after_numbered es = run_numbered es (first_world plan) (λ k t. fresh_numbered [] k t)
