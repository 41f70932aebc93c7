-- What each row leaves of the rounds, and that what it stores is lawful.
use Rattle.std.proofs.Common.{◌≡◌, ◌∙◌, ◌⊎◌, inl, inr, ℕ, zero, suc, ◌<◌, ◌≤◌, ◌^◌, Bool, true, false, List, [], ◌∷◌, ◌++◌, length, Option, Some, None, refl, sym, ap, subst, append_assoc, arith}
use Rattle.std.specs.Prelude.{◌==◌, if◌then◌else◌, is_some, slice_get, unwrap_or, option_map, IfSome}
use Rattle.std.proofs.lemmas.List.{append-nil}
use Rattle.std.proofs.lemmas.Option.{none-some}
use Rattle.std.proofs.lemmas.Bool.{cond_both, eqb-true, false≢true}
use Rattle.ksi_aggtree.specs.declared.item.Item.{Item}
use Rattle.ksi_aggtree.specs.declared.entries.Origin.{Origin}
use Rattle.ksi_aggtree.specs.declared.entries.Origin.TheVariants as origins
use Rattle.ksi_aggtree.specs.declared.entries.Entry.{Entry}
use Rattle.ksi_aggtree.specs.Entries.{has_from, is_full}
use Rattle.ksi_aggtree.specs.Rounds.{leaf_level, highest_item}
use Rattle.ksi_signature.specs.declared.above.Above.{Above}
use Rattle.ksi_signature.specs.declared.answer.Answer.{Answer}
use Rattle.ksi_signature.specs.declared.answer.Answer.TheVariants as answers
use Rattle.ksi_aggregator.specs.declared.event.RoundEvent.{RoundEvent}
use Rattle.ksi_aggregator.specs.declared.event.RoundEvent.TheVariants as events
use Rattle.ksi_aggregator.specs.declared.fact.RoundFact.{RoundFact}
use Rattle.ksi_aggregator.specs.declared.fact.RoundFact.TheVariants.{Closed, Answered}
use Rattle.ksi_aggregator.specs.declared.fact.Fact.{Fact}
use Rattle.ksi_aggregator.specs.Events.{event_second, MayTake, round_row}
use Rattle.ksi_aggregator.specs.Facts.{StableRound, AnsweredLast, Stores, stable_round, with_what, with_stored, with_fact}
use Rattle.ksi_aggregator.specs.Rows.{RoundState, RoundTurn, fresh_round, round_still, round_added, request_entry, submitted_entry, round_request, round_submission, round_close, closed_now, answered_now, response_where, round_response, round_restarted}
use Rattle.ksi_aggregator.specs.Rounds.{items_in, fact_of, IsNew, HasPlace, ChangesOnly}
use Rattle.ksi_aggregator.specs.Issuing.{from_request}
use Rattle.ksi_aggregator.proofs.Found.{MayAdd, after_request, after_submission, after_close, after_response}
use Rattle.ksi_aggregator.specs.Responses.{has_lower}
use Rattle.ksi_aggregator.proofs.Items.{read_more}
use Rattle.ksi_aggregator.proofs.Storing.{request_fact, submission_fact, request_stores, submission_stores, close_stores, response_stores}
use Rattle.ksi_aggregator.specs.Lawful.{IsFit, IsAdded, AreAdded, AreApart, closed_items, MayClose, MayAnswer, MayStore, IsLawful}
use Rattle.ksi_aggregator.specs.Restored.{IsWell}

-- EACH ROUND

pub more_added : (front xs : List Entry) (entry : Entry) → AreAdded front xs → IsAdded (front ++ xs) entry → AreAdded front (xs ++ entry ∷ [])
more_added front [] entry are is = (subst (λ (l : List Entry). IsAdded l entry) (append-nil front) is, tt)
more_added front (x ∷ xs) entry are is = (are.0, more_added (front ++ x ∷ []) xs entry are.1 (subst (λ (l : List Entry). IsAdded l entry) (sym (append_assoc front (x ∷ []) xs)) is))

added_well : (r : RoundState) (entry : Entry) (answer : Answer) → IsWell r → is_some r.closed ≡ false → IsAdded r.open_items entry → IsWell (round_added r entry answer).after
added_well r entry answer well unclosed is = record {
  added = more_added [] r.open_items entry well.added is;
  emptied = λ entries closed. absurd (false≢true (sym unclosed ∙ ap (λ (o : Option (List Entry)). is_some o) closed));
  last = well.last;
}

request_well : (number : ℕ) (imprint : List ℕ) (name : Option (List ℕ)) (r : RoundState) → IsWell r → IsWell (round_request number imprint name r).after
unfolding round_request
request_well number imprint name r well =
    cond_both (is_some r.closed) _ _ (λ (turn : RoundTurn). IsWell turn.after) (λ _. well) (λ unclosed.
    cond_both (is_full r.open_items) _ _ (λ (turn : RoundTurn). IsWell turn.after) (λ _. well) (λ room.
    added_well r (request_entry number imprint name) (answers.Number number) well unclosed (record { room = room; fit = refl })))

submission_well : (from : ℕ) (item : Item) (r : RoundState) → leaf_level item ≤ highest_item → IsWell r → IsWell (round_submission from item r).after
unfolding round_submission
submission_well from item r low well =
    cond_both (is_some r.closed) _ _ (λ (turn : RoundTurn). IsWell turn.after) (λ _. well) (λ unclosed.
    cond_both (has_from from r.open_items) _ _ (λ (turn : RoundTurn). IsWell turn.after) (λ _. well) (λ other.
    cond_both (is_full r.open_items) _ _ (λ (turn : RoundTurn). IsWell turn.after) (λ _. well) (λ room.
    added_well r (submitted_entry from item) answers.Done well unclosed (record { room = room; fit = (low, other) }))))

close_well : (image : List ℕ → List ℕ) (r : RoundState) → IsWell r → IsWell (round_close image r).after
unfolding round_close
close_well image r well =
    cond_both (is_some r.closed) _ _ (λ (turn : RoundTurn). IsWell turn.after) (λ _. well) (λ _. record { added = tt; emptied = λ entries is. refl; last = λ is. absurd (none-some r.open_items (sym is)) })

response_well : (image : List ℕ → List ℕ) (above : Above) (r : RoundState) → IsWell r → IsWell (round_response image above r).after
unfolding round_response
response_well image above r well = by r.closed r.answered refl
  where
    by : (closed : Option (List Entry)) (answered : Option Above) → r.closed ≡ closed → IsWell (response_where image above closed answered r).after
    by None answered is = well
    by (Some []) answered is = well
    by (Some (entry ∷ entries)) (Some first) is = well
    by (Some (entry ∷ entries)) None is = record { added = well.added; emptied = well.emptied; last = λ none. absurd (none-some (entry ∷ entries) (sym none ∙ is)) }

pub event_well : (image : List ℕ → List ℕ) (rounds : ℕ → RoundState) (event : RoundEvent) → MayTake rounds event → IsWell (rounds (event_second event)) → IsWell (round_row image event (rounds (event_second event))).after
event_well image rounds (events.Request number second imprint name) may well = request_well number imprint name (rounds second) well
event_well image rounds (events.Submission from second item) may well = submission_well from item (rounds second) may well
event_well image rounds (events.Close second) may well = close_well image (rounds second) well
event_well image rounds (events.Response second above) may well = response_well image above (rounds second) well

-- NUMBERS STAND ONCE

-- so it is of fewer items, at the same places
pub apart_within : (all some : ℕ → List Entry) → ((t k : ℕ) (e : Entry) → slice_get (some t) k ≡ Some e → slice_get (all t) k ≡ Some e) → AreApart all → AreApart some
apart_within all some within apart = λ number t j u k x y at bt. apart number t j u k x y (within t j (from_request number x) at) (within u k (from_request number y) bt)

same_items : (old new : ℕ → RoundState) (second : ℕ) (after : RoundState) → ChangesOnly old new second after → items_in after ≡ items_in (old second) → (t : ℕ) → items_in (new t) ≡ items_in (old t)
same_items old new second after changes same t =
    ap items_in (changes t) ∙ cond_both (t == second) after (old t) (λ (r : RoundState). items_in r ≡ items_in (old t)) (λ here. same ∙ ap (λ (u : ℕ). items_in (old u)) (sym (eqb-true t second here))) (λ _. refl)

pub apart_same : (old new : ℕ → RoundState) → ((t : ℕ) → items_in (new t) ≡ items_in (old t)) → AreApart (λ t. items_in (old t)) → AreApart (λ t. items_in (new t))
apart_same old new same = apart_within (λ t. items_in (old t)) (λ t. items_in (new t)) (λ t k e at. subst (λ (items : List Entry). slice_get items k ≡ Some e) (same t) at)

module _ (old new : ℕ → RoundState) (second : ℕ) (after : RoundState) (entry : Entry) (changes : ChangesOnly old new second after) where
  -- an item is one of those before, or the new one behind them
  before_or_new : items_in after ≡ items_in (old second) ++ entry ∷ [] → (t k : ℕ) (e : Entry) → slice_get (items_in (new t)) k ≡ Some e →
      (slice_get (items_in (old t)) k ≡ Some e) ⊎ ((t ≡ second) × (k ≡ length (items_in (old second))) × (Some entry ≡ Some e))
  before_or_new more t k e at = by (t == second) refl (subst (λ (r : RoundState). slice_get (items_in r) k ≡ Some e) (changes t) at)
    where
      by : (b : Bool) → (t == second) ≡ b → slice_get (items_in (if b then after else old t)) k ≡ Some e →
          (slice_get (items_in (old t)) k ≡ Some e) ⊎ ((t ≡ second) × (k ≡ length (items_in (old second))) × (Some entry ≡ Some e))
      by true here at =
          elim (read_more (items_in (old second)) entry k e (subst (λ (items : List Entry). slice_get items k ≡ Some e) more at)) [
            | inl before ↦ inl (subst (λ (u : ℕ). slice_get (items_in (old u)) k ≡ Some e) (sym (eqb-true t second here)) before)
            | inr last ↦ inr (eqb-true t second here, last.0, last.1)
          ]
      by false other at = inl at

  apart_added : items_in after ≡ items_in (old second) ++ entry ∷ [] → ((number : ℕ) (y : Item) → Some entry ≡ Some (from_request number y) → IsNew number old) →
      AreApart (λ t. items_in (old t)) → AreApart (λ t. items_in (new t))
  apart_added more fresh apart number t j u k x y at bt =
      elim (before_or_new more t j (from_request number x) at) [
        | inl a ↦ elim (before_or_new more u k (from_request number y) bt) [
          | inl b ↦ apart number t j u k x y a b
          | inr b ↦ absurd (fresh number y b.2 t j x a)
        ]
        | inr a ↦ elim (before_or_new more u k (from_request number y) bt) [
          | inl b ↦ absurd (fresh number x a.2 u k y b)
          | inr b ↦ (a.0 ∙ sym b.0, a.1 ∙ sym b.1)
        ]
      ]

  apart_may : MayAdd entry (old second) after → ((number : ℕ) (y : Item) → Some entry ≡ Some (from_request number y) → IsNew number old) →
      AreApart (λ t. items_in (old t)) → AreApart (λ t. items_in (new t))
  apart_may may fresh apart = elim may [
    | inl same ↦ apart_same old new (same_items old new second after changes same) apart
    | inr more ↦ apart_added more fresh apart
  ]

number_or : ℕ → Option Entry → ℕ
number_or other None = other
number_or other (Some entry) = of_origin entry.origin
  where
    of_origin : Origin → ℕ
    of_origin (origins.Request n) = n
    of_origin (origins.Aggregator a) = other

is_request : Option Entry → Bool
is_request None = false
is_request (Some entry) = of_origin entry.origin
  where
    of_origin : Origin → Bool
    of_origin (origins.Request n) = true
    of_origin (origins.Aggregator a) = false

pub event_apart : (image : List ℕ → List ℕ) (old new : ℕ → RoundState) (event : RoundEvent) → MayTake old event →
    ChangesOnly old new (event_second event) (round_row image event (old (event_second event))).after → AreApart (λ t. items_in (old t)) → AreApart (λ t. items_in (new t))
unfolding number_or is_request
event_apart image old new (events.Request number second imprint name) may changes =
    apart_may old new second (round_request number imprint name (old second)).after (request_entry number imprint name) changes (after_request number imprint name (old second))
    (λ n y is. subst (λ (m : ℕ). IsNew m old) (ap (number_or number) is) may)
event_apart image old new (events.Submission from second item) may changes =
    apart_may old new second (round_submission from item (old second)).after (submitted_entry from item) changes (after_submission from item (old second))
    (λ n y is. absurd (false≢true (ap is_request is)))
event_apart image old new (events.Close second) may changes =
    apart_same old new (same_items old new second (round_close image (old second)).after changes (after_close image (old second)))
event_apart image old new (events.Response second above) may changes =
    apart_same old new (same_items old new second (round_response image above (old second)).after changes (after_response image above (old second)))

-- LAWFUL FACTS

closed_in : (o : Option (List Entry)) (items : List Entry) (k : ℕ) (e : Entry) → slice_get (unwrap_or o []) k ≡ Some e → slice_get (unwrap_or o items) k ≡ Some e
closed_in None items k e at = absurd (none-some e at)
closed_in (Some xs) items k e at = at

open_in : (o : Option (List Entry)) (items : List Entry) → is_some o ≡ false → items ≡ unwrap_or o items
open_in None items is = refl
open_in (Some xs) items is = absurd (false≢true (sym is))

none_of : (o : Option (List Entry)) → is_some o ≡ false → o ≡ None
none_of None is = refl
none_of (Some xs) is = absurd (false≢true (sym is))

abbrev stable_parts : (ℕ → RoundState) → ℕ → StableRound
stable_parts rounds t = stable_round (rounds t)

module _ (rounds : ℕ → RoundState) (second : ℕ) (well : IsWell (rounds second)) (apart : AreApart (λ t. items_in (rounds t))) where
  may_close : is_some (rounds second).closed ≡ false → MayClose (stable_parts rounds) second (rounds second).open_items
  may_close unclosed = record {
    open_yet = none_of (rounds second).closed unclosed;
    added = well.added;
    apart = apart_within (λ t. items_in (rounds t)) (λ t. closed_items (with_fact (Some (fact_of second (Closed (rounds second).open_items))) t (stable_round (rounds t)))) (λ t k e. by t k e (t == second) refl) apart;
  }
    where
      by : (t k : ℕ) (e : Entry) (b : Bool) → (t == second) ≡ b →
          slice_get (closed_items (if b then with_what (Closed (rounds second).open_items) (stable_round (rounds t)) else stable_round (rounds t))) k ≡ Some e → slice_get (items_in (rounds t)) k ≡ Some e
      by t k e true here at =
          subst (λ (u : ℕ). slice_get (items_in (rounds u)) k ≡ Some e) (sym (eqb-true t second here))
          (subst (λ (items : List Entry). slice_get items k ≡ Some e) (open_in (rounds second).closed (rounds second).open_items unclosed) at)
      by t k e false other at = closed_in (rounds t).closed (rounds t).open_items k e at

  close_lawful : (image : List ℕ → List ℕ) → IfSome (round_close image (rounds second)).fact (MayStore (stable_parts rounds) second)
  unfolding round_close
  close_lawful image = cond_both (is_some (rounds second).closed) _ _ (λ (turn : RoundTurn). IfSome turn.fact (MayStore (stable_parts rounds) second)) (λ _. tt) may_close

  response_lawful : (image : List ℕ → List ℕ) (above : Above) → HasPlace (rounds second) above → IfSome (round_response image above (rounds second)).fact (MayStore (stable_parts rounds) second)
  unfolding round_response
  response_lawful image above place = by (rounds second).closed (rounds second).answered refl refl
    where
      by : (closed : Option (List Entry)) (answered : Option Above) → (rounds second).closed ≡ closed → (rounds second).answered ≡ answered →
          IfSome (response_where image above closed answered (rounds second)).fact (MayStore (stable_parts rounds) second)
      by None answered is first = tt
      by (Some []) answered is first = tt
      by (Some (entry ∷ entries)) (Some other) is first = tt
      by (Some (entry ∷ entries)) None is first = record {
        entries = entry ∷ entries;
        closed = is;
        some = omega arith;
        first = first;
        place = λ lower. place (ap (λ (o : Option (List Entry)). has_lower (unwrap_or o (rounds second).open_items)) is ∙ lower);
      }

pub fact_lawful : (image : List ℕ → List ℕ) (rounds : ℕ → RoundState) (event : RoundEvent) → MayTake rounds event → event_second event < 2 ^ 63 → IsWell (rounds (event_second event)) → AreApart (λ t. items_in (rounds t)) →
    IfSome (round_row image event (rounds (event_second event))).fact (λ what. IsLawful (λ t. stable_round (rounds t)) (fact_of (event_second event) what))
fact_lawful image rounds event may early well apart = by (round_row image event (rounds (event_second event))).fact (stored event may well)
  where
    by : (o : Option RoundFact) → IfSome o (MayStore (stable_parts rounds) (event_second event)) → IfSome o (λ what. IsLawful (λ t. stable_round (rounds t)) (fact_of (event_second event) what))
    by None so = tt
    by (Some what) so = record { below = early; what = so }

    stored : (event : RoundEvent) → MayTake rounds event → IsWell (rounds (event_second event)) → IfSome (round_row image event (rounds (event_second event))).fact (MayStore (stable_parts rounds) (event_second event))
    stored (events.Request number second imprint name) may well = subst (λ (o : Option RoundFact). IfSome o (MayStore (stable_parts rounds) second)) (sym (request_fact number imprint name (rounds second))) tt
    stored (events.Submission from second item) may well = subst (λ (o : Option RoundFact). IfSome o (MayStore (stable_parts rounds) second)) (sym (submission_fact from item (rounds second))) tt
    stored (events.Close second) may well = close_lawful rounds second well apart image
    stored (events.Response second above) may well = response_lawful rounds second well apart image above may

pub event_stores : (image : List ℕ → List ℕ) (rounds : ℕ → RoundState) (event : RoundEvent) → Stores (rounds (event_second event)) (round_row image event (rounds (event_second event)))
event_stores image rounds (events.Request number second imprint name) = request_stores number imprint name (rounds second)
event_stores image rounds (events.Submission from second item) = submission_stores from item (rounds second)
event_stores image rounds (events.Close second) = close_stores image (rounds second)
event_stores image rounds (events.Response second above) = response_stores image above (rounds second)
