-- The events of a lawful fact are accepted.
use Rattle.std.proofs.Common.{◌≡◌, ◌∙◌, ℕ, zero, suc, ◌<◌, ◌==◌, if◌then◌else◌, Bool, true, false, List, [], ◌∷◌, ◌++◌, map, length, slice_get, unwrap_or, Option, Some, None, refl, sym, subst, ap, append_assoc, arith}
use Rattle.std.specs.List.{list_all}
use Rattle.std.proofs.lemmas.Bool.{and_from, eqb-true, false≢true}
use Rattle.std.proofs.lemmas.List.{append-nil}
use Rattle.std.proofs.lemmas.Option.{none-some}
use Rattle.ksi_aggtree.specs.declared.item.Item.{Item}
use Rattle.ksi_aggtree.specs.declared.entries.Entry.{Entry}
use Rattle.ksi_aggtree.specs.declared.entries.Origin.{Origin}
use Rattle.ksi_aggtree.specs.declared.entries.Origin.TheVariants as origins
use Rattle.ksi_aggtree.specs.Entries.{is_full}
use Rattle.ksi_signature.specs.declared.above.Above.{Above}
use Rattle.ksi_signature.specs.declared.answer.Answer.TheVariants as answers
use Rattle.ksi_aggregator.specs.declared.event.RoundEvent.{RoundEvent}
use Rattle.ksi_aggregator.specs.declared.event.RoundEvent.TheVariants as events
use Rattle.ksi_aggregator.specs.declared.fact.Fact.{Fact}
use Rattle.ksi_aggregator.specs.declared.fact.RoundFact.{RoundFact}
use Rattle.ksi_aggregator.specs.declared.fact.RoundFact.TheVariants.{Closed, Answered}
use Rattle.ksi_aggregator.specs.Events.{MayTake, event_second, round_row}
use Rattle.ksi_aggregator.specs.Facts.{StableRound, with_fact, with_what}
use Rattle.ksi_aggregator.specs.Issuing.{from_request}
use Rattle.ksi_aggregator.specs.Rounds.{IsNew, fact_of, items_in}
use Rattle.ksi_aggregator.specs.Rows.{RoundState, request_entry, response_where, round_added, round_close, round_request, round_response, round_still, round_submission, submitted_entry}
use Rattle.ksi_aggregator.specs.Lawful.{AreAdded, AreApart, IsAdded, IsFit, IsLawful, MayAnswer, MayClose, closed_items}
use Rattle.ksi_aggregator.specs.Restored.{restored}
use Rattle.ksi_roundstore.specs.Facts.{AreAccepted, IsAccepted, IsMade, is_accepted, is_item_of, round_after, rounds_after}
use Rattle.ksi_roundstore.specs.Texts.{event_from, event_of}
use Rattle.ksi_roundstore.specs.Written.{fact_events, what_events}
use Rattle.ksi_roundstore.proofs.Cut.{itself}
use Rattle.ksi_roundstore.proofs.Taken.{accepted_then}

-- PLACES IN A LIST

get_front : (xs ys : List Entry) (k : ℕ) (e : Entry) → slice_get xs k ≡ Some e → slice_get (xs ++ ys) k ≡ Some e
get_front [] ys k e at = absurd (none-some e at)
get_front (x ∷ xs) ys zero e at = at
get_front (x ∷ xs) ys (suc k) e at = get_front xs ys k e at

get_within : (xs : List Entry) (k : ℕ) (e : Entry) → slice_get xs k ≡ Some e → k < length xs
get_within [] k e at = absurd (none-some e at)
get_within (x ∷ xs) zero e at = omega arith
get_within (x ∷ xs) (suc k) e at = let rest = get_within xs k e at in omega arith

get_here : (xs : List Entry) (e : Entry) (ys : List Entry) → slice_get (xs ++ e ∷ ys) (length xs) ≡ Some e
get_here [] e ys = refl
get_here (x ∷ xs) e ys = get_here xs e ys

-- THE ITEMS OF A CLOSING

-- a round with these items open
abbrev with_open : Option Above → List Entry → RoundState
with_open answered front = record { open_items = front; closed = None; answered = answered }

from_second : (second : ℕ) (origin : Origin) (item : Item) → event_second (event_from second origin item) ≡ second
from_second second (origins.Request number) item = refl
from_second second (origins.Aggregator from) item = refl

module _ (image : List ℕ → List ℕ) (answered : Option Above) where
  -- a round takes an item behind those that are open
  row_added : (second : ℕ) (front : List Entry) (origin : Origin) (item : Item) → is_full front ≡ false → IsFit front origin item
      → (is_accepted (round_row image (event_from second origin item) (with_open answered front)).answer ≡ true)
      × ((round_row image (event_from second origin item) (with_open answered front)).after ≡ with_open answered (front ++ record { origin = origin; item = item } ∷ []))
  unfolding round_request round_submission
  row_added second front (origins.Request number) item room fit = (
    ap (λ (full : Bool). is_accepted (if full then round_still (with_open answered front) answers.Full else round_added (with_open answered front) (request_entry number item.imprint item.name) (answers.Number number)).answer) room,
    ap (λ (full : Bool). (if full then round_still (with_open answered front) answers.Full else round_added (with_open answered front) (request_entry number item.imprint item.name) (answers.Number number)).after) room
        ∙ ap (λ (level : ℕ). with_open answered (front ++ record { origin = origins.Request number; item = record { imprint = item.imprint; level = level; name = item.name } } ∷ [])) (sym fit),
  )
  row_added second front (origins.Aggregator from) item room fit = (
    ap (λ (known : Bool). is_accepted (if known then round_still (with_open answered front) answers.Known else if is_full front then round_still (with_open answered front) answers.Full else round_added (with_open answered front) (submitted_entry from item) answers.Done).answer) fit.1
        ∙ ap (λ (full : Bool). is_accepted (if full then round_still (with_open answered front) answers.Full else round_added (with_open answered front) (submitted_entry from item) answers.Done).answer) room,
    ap (λ (known : Bool). (if known then round_still (with_open answered front) answers.Known else if is_full front then round_still (with_open answered front) answers.Full else round_added (with_open answered front) (submitted_entry from item) answers.Done).after) fit.1
        ∙ ap (λ (full : Bool). (if full then round_still (with_open answered front) answers.Full else round_added (with_open answered front) (submitted_entry from item) answers.Done).after) room,
  )

  close_row : (entries : List Entry) → is_accepted (round_close image (with_open answered entries)).answer ≡ true
  unfolding round_close
  close_row entries = refl

-- closed rounds that a closing of these items is lawful after, and the rounds with the first of them open
module _ (image : List ℕ → List ℕ) (stored : ℕ → StableRound) (second : ℕ) (items : List Entry) (may : MayClose stored second items) where
  abbrev opened : List Entry → ℕ → RoundState
  opened front t = if t == second then with_open (stored second).answered front else restored (stored t)

  open_here : (front : List Entry) → opened front second ≡ with_open (stored second).answered front
  open_here front = ap (λ (b : Bool). if b then with_open (stored second).answered front else restored (stored second)) (itself second)

  -- none is open at first
  none_open : (t : ℕ) → restored (stored t) ≡ opened [] t
  none_open t = by (t == second) refl
    where
      by : (b : Bool) → (t == second) ≡ b → restored (stored t) ≡ (if b then with_open (stored second).answered [] else restored (stored t))
      by true same = ap (λ (u : ℕ). restored (stored u)) (eqb-true t second same) ∙ ap (λ (closed : Option (List Entry)). record { open_items = []; closed = closed; answered = (stored second).answered }) may.open_yet
      by false apart = refl

  closed_with : ℕ → List Entry
  closed_with t = closed_items (with_fact (Some (fact_of second (Closed items))) t (stored t))

  with_here : closed_with second ≡ items
  unfolding closed_with
  with_here = ap (λ (b : Bool). closed_items (if b then with_what (Closed items) (stored second) else stored second)) (itself second)

  with_there : (t : ℕ) → (t == second) ≡ false → closed_with t ≡ closed_items (stored t)
  unfolding closed_with
  with_there t apart = ap (λ (b : Bool). closed_items (if b then with_what (Closed items) (stored t) else stored t)) apart

  stands_once : AreApart closed_with
  unfolding closed_with
  stands_once = may.apart

  -- the number of the next item is new
  new_number : (front rest : List Entry) (number : ℕ) (item : Item) → items ≡ front ++ from_request number item ∷ rest → IsNew number (opened front)
  new_number front rest number item is t k x at = by (t == second) refl at
    where
      next : slice_get (closed_with second) (length front) ≡ Some (from_request number item)
      next = ap (λ (l : List Entry). slice_get l (length front)) (with_here ∙ is) ∙ get_here front (from_request number item) rest

      by : (b : Bool) → (t == second) ≡ b → slice_get (items_in (if b then with_open (stored second).answered front else restored (stored t))) k ≡ Some (from_request number x) → ⊥
      by true same here =
          let found : slice_get (closed_with second) k ≡ Some (from_request number x) = ap (λ (l : List Entry). slice_get l k) (with_here ∙ is) ∙ get_front front (from_request number item ∷ rest) k (from_request number x) here in
          let both = stands_once number second k second (length front) x item found next in
          let within = get_within front k (from_request number x) here in
          absurd (omega (arith, within, both.1))
      by false apart there =
          let found : slice_get (closed_with t) k ≡ Some (from_request number x) = ap (λ (l : List Entry). slice_get l k) (with_there t apart) ∙ there in
          let both = stands_once number t k second (length front) x item found next in
          absurd (false≢true (sym apart ∙ ap (λ (u : ℕ). u == second) both.0 ∙ itself second))

  may_come : (front rest : List Entry) (origin : Origin) (item : Item) → items ≡ front ++ record { origin = origin; item = item } ∷ rest → IsFit front origin item → MayTake (opened front) (event_from second origin item)
  may_come front rest (origins.Request number) item is fit = new_number front rest number item is
  may_come front rest (origins.Aggregator from) item is fit = fit.0

  accepted_one : (front rest : List Entry) (entry : Entry) → items ≡ front ++ entry ∷ rest → IsAdded front entry → IsAccepted image (opened front) (event_of second entry)
  accepted_one front rest entry is added = record {
    may = may_come front rest entry.origin entry.item is added.fit;
    accepted = ap (λ (u : ℕ). is_accepted (round_row image (event_of second entry) (opened front u)).answer) (from_second second entry.origin entry.item)
        ∙ ap (λ (r : RoundState). is_accepted (round_row image (event_of second entry) r).answer) (open_here front)
        ∙ (row_added image (stored second).answered second front entry.origin entry.item added.room added.fit).0;
  }

  after_one : (front : List Entry) (entry : Entry) → IsAdded front entry → (t : ℕ) → round_after image (opened front) (event_of second entry) t ≡ opened (front ++ entry ∷ []) t
  after_one front entry added t =
      ap (λ (u : ℕ). if t == u then (round_row image (event_of second entry) (opened front u)).after else opened front t) (from_second second entry.origin entry.item)
      ∙ by (t == second) refl
    where
      by : (b : Bool) → (t == second) ≡ b → (if b then (round_row image (event_of second entry) (opened front second)).after else opened front t) ≡ (if b then with_open (stored second).answered (front ++ entry ∷ []) else restored (stored t))
      by true same = ap (λ (r : RoundState). (round_row image (event_of second entry) r).after) (open_here front) ∙ (row_added image (stored second).answered second front entry.origin entry.item added.room added.fit).1
      by false apart = ap (λ (b : Bool). if b then with_open (stored second).answered front else restored (stored t)) apart

  accepted_all : (front rest : List Entry) → items ≡ front ++ rest → AreAdded front rest
      → AreAccepted image (opened front) (map (event_of second) rest) × (rounds_after image (opened front) (map (event_of second) rest) ≡ opened items)
  accepted_all front [] is added = (tt, ap (λ (l : List Entry). opened l) (sym (append-nil front) ∙ sym is))
  accepted_all front (entry ∷ rest) is added =
      let after : round_after image (opened front) (event_of second entry) ≡ opened (front ++ entry ∷ []) = (λ i t. after_one front entry added.0 t i) in
      let others = accepted_all (front ++ entry ∷ []) rest (is ∙ sym (append_assoc front (entry ∷ []) rest)) added.1 in (
        (accepted_one front rest entry is added.0, subst (λ (r : ℕ → RoundState). AreAccepted image r (map (event_of second) rest)) (sym after) others.0),
        ap (λ (r : ℕ → RoundState). rounds_after image r (map (event_of second) rest)) after ∙ others.1,
      )

  pub closing_accepted : AreAccepted image (λ t. restored (stored t)) (what_events second (Closed items))
  closing_accepted =
      let all = accepted_all [] items refl may.added in
      let close : IsAccepted image (opened items) (events.Close second) = record { may = tt; accepted = ap (λ (r : RoundState). is_accepted (round_close image r).answer) (open_here items) ∙ close_row image (stored second).answered items } in
      subst (λ (r : ℕ → RoundState). AreAccepted image r (what_events second (Closed items))) (λ i t. sym (none_open t) i)
      (accepted_then image (opened []) (map (event_of second) items) (events.Close second) all.0 (subst (λ (r : ℕ → RoundState). IsAccepted image r (events.Close second)) (sym all.1) close))

-- A RESPONSE

module _ (image : List ℕ → List ℕ) where
  answer_row : (above : Above) (s : StableRound) (entries : List Entry) → s.closed ≡ Some entries → 0 < length entries → s.answered ≡ None → is_accepted (round_response image above (restored s)).answer ≡ true
  unfolding round_response
  answer_row above s [] closed some first = absurd (omega (arith, some))
  answer_row above s (entry ∷ entries) closed some first =
      ap (λ (o : Option (List Entry)). is_accepted (response_where image above o s.answered (restored s)).answer) closed
      ∙ ap (λ (o : Option Above). is_accepted (response_where image above (Some (entry ∷ entries)) o (restored s)).answer) first

  pub answer_accepted : (stored : ℕ → StableRound) (second : ℕ) (above : Above) → MayAnswer (stored second) above → AreAccepted image (λ t. restored (stored t)) (what_events second (Answered above))
  answer_accepted stored second above may = (
    record {
      may = λ lower. may.place (subst (λ (o : Option (List Entry)). Rattle.ksi_aggregator.specs.Responses.has_lower (unwrap_or o []) ≡ true) may.closed lower);
      accepted = answer_row above (stored second) may.entries may.closed may.some may.first;
    },
    tt,
  )

  pub lawful_accepted : (stored : ℕ → StableRound) (fact : Fact) → IsLawful stored fact → AreAccepted image (λ t. restored (stored t)) (fact_events fact)
  lawful_accepted stored fact is = by fact.what is.what
    where
      by : (what : RoundFact) → Rattle.ksi_aggregator.specs.Lawful.MayStore stored fact.second what → AreAccepted image (λ t. restored (stored t)) (what_events fact.second what)
      by (Closed items) may = closing_accepted image stored fact.second items may
      by (Answered above) may = answer_accepted stored fact.second above may

-- THEY ARE THE EVENTS OF A FACT

items_all : (second : ℕ) (items : List Entry) → list_all (is_item_of second) (map (event_of second) items) ≡ true
items_all second [] = refl
items_all second (entry ∷ items) = and_from (is_item_of second (event_of second entry)) (list_all (is_item_of second) (map (event_of second) items)) (is_item second entry.origin entry.item) (items_all second items)
  where
    is_item : (second : ℕ) (origin : Origin) (item : Item) → is_item_of second (event_from second origin item) ≡ true
    is_item second (origins.Request number) item = itself second
    is_item second (origins.Aggregator from) item = itself second

pub made_of_fact : (fact : Fact) (list : List RoundEvent) → list ≡ fact_events fact → IsMade list false → ⊥
made_of_fact fact list is none = by fact.what is
  where
    by : (what : RoundFact) → list ≡ what_events fact.second what → ⊥
    by (Closed items) same = absurd (false≢true (sym (none (map (event_of fact.second) items) (events.Close fact.second) same) ∙ items_all fact.second items))
    by (Answered above) same = absurd (false≢true (sym (none [] (events.Response fact.second above) same)))
