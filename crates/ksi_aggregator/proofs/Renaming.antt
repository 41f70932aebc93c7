-- Each row commutes with a renaming of the numbers of requests.
use Rattle.std.proofs.Common.{◌≡◌, ◌∙◌, ℕ, zero, suc, Bool, true, false, ◌||◌, List, [], ◌∷◌, ◌++◌, length, map, Option, Some, None, refl, sym, ap, subst}
use Rattle.std.specs.Prelude.{◌==◌, if◌then◌else◌, is_some, slice_get, unwrap_or, option_map}
use Rattle.std.proofs.lemmas.Option.{none-some}
use Rattle.std.proofs.lemmas.Bool.{false≢true}
use Rattle.ksi_aggtree.specs.declared.item.Item.{Item}
use Rattle.ksi_aggtree.specs.declared.entries.Origin.{Origin}
use Rattle.ksi_aggtree.specs.declared.entries.Origin.TheVariants as origins
use Rattle.ksi_aggtree.specs.declared.entries.Entry.{Entry}
use Rattle.ksi_aggtree.specs.Entries.{items_of, is_from, has_from, is_full}
use Rattle.ksi_aggtree.specs.Rounds.{most_items, as_item, tree_of}
use Rattle.ksi_signature.specs.declared.above.Above.{Above}
use Rattle.ksi_signature.specs.declared.answer.Answer.TheVariants as answers
use Rattle.ksi_aggregator.specs.declared.event.RoundEvent.{RoundEvent}
use Rattle.ksi_aggregator.specs.declared.event.RoundEvent.TheVariants as events
use Rattle.ksi_aggregator.specs.declared.fact.RoundFact.TheVariants.{Closed, Answered}
use Rattle.ksi_aggregator.specs.declared.step.Send.{Send}
use Rattle.ksi_aggregator.specs.declared.step.Send.TheVariants as sends
use Rattle.ksi_aggregator.specs.Events.{event_second, MayTake, round_row}
use Rattle.ksi_aggregator.specs.Issuing.{from_request}
use Rattle.ksi_aggregator.specs.Responses.{is_lower, has_lower, told_to, below, responses_from, responses}
use Rattle.ksi_aggregator.specs.Rounds.{items_in, IsNew, HasPlace}
use Rattle.ksi_aggregator.specs.Rows.{RoundState, RoundTurn, fresh_round, round_still, round_added, request_entry, submitted_entry, round_request, round_submission, submission_of, round_close, closed_now, answered_now, response_where, round_response, round_restarted}
use Rattle.ksi_aggregator.specs.Renamed.{IsOneToOne, origin_renamed, entry_renamed, entries_renamed, round_renamed, event_renamed, turn_renamed}

module _ (name : ℕ → ℕ) where
  -- THE ITEMS

  pub items_same : (entries : List Entry) → items_of (entries_renamed name entries) ≡ items_of entries
  items_same [] = refl
  items_same (entry ∷ entries) = ap (λ (items : List Item). entry.item ∷ items) (items_same entries)

  length_same : (entries : List Entry) → length (entries_renamed name entries) ≡ length entries
  length_same [] = refl
  length_same (entry ∷ entries) = ap suc (length_same entries)

  full_same : (entries : List Entry) → is_full (entries_renamed name entries) ≡ is_full entries
  full_same entries = ap (λ (n : ℕ). n == most_items) (length_same entries)

  from_same : (from : ℕ) (entries : List Entry) → has_from from (entries_renamed name entries) ≡ has_from from entries
  from_same from [] = refl
  from_same from (entry ∷ entries) = first entry.origin ∙ ap (λ (b : Bool). is_from from entry.origin || b) (from_same from entries)
    where
      first : (o : Origin) → (is_from from (origin_renamed name o) || has_from from (entries_renamed name entries)) ≡ (is_from from o || has_from from (entries_renamed name entries))
      first (origins.Request n) = refl
      first (origins.Aggregator a) = refl

  lower_same : (entries : List Entry) → has_lower (entries_renamed name entries) ≡ has_lower entries
  lower_same [] = refl
  lower_same (entry ∷ entries) = first entry.origin ∙ ap (λ (b : Bool). is_lower entry.origin || b) (lower_same entries)
    where
      first : (o : Origin) → (is_lower (origin_renamed name o) || has_lower (entries_renamed name entries)) ≡ (is_lower o || has_lower (entries_renamed name entries))
      first (origins.Request n) = refl
      first (origins.Aggregator a) = refl

  one_behind : (entries : List Entry) (entry : Entry) → entries_renamed name entries ++ entry_renamed name entry ∷ [] ≡ entries_renamed name (entries ++ entry ∷ [])
  one_behind [] entry = refl
  one_behind (x ∷ xs) entry = ap (λ (l : List Entry). entry_renamed name x ∷ l) (one_behind xs entry)

  closed_same : (o : Option (List Entry)) → is_some (option_map (entries_renamed name) o) ≡ is_some o
  closed_same None = refl
  closed_same (Some entries) = refl

  in_round : (o : Option (List Entry)) (items : List Entry) → unwrap_or (option_map (entries_renamed name) o) (entries_renamed name items) ≡ entries_renamed name (unwrap_or o items)
  in_round None items = refl
  in_round (Some entries) items = refl

  submission_same : (image : List ℕ → List ℕ) (entries : List Entry) → submission_of image (entries_renamed name entries) ≡ submission_of image entries
  submission_same image [] = refl
  submission_same image (entry ∷ entries) = ap (λ (items : List Item). sends.Submission (as_item (tree_of image items)) ∷ []) (items_same (entry ∷ entries))

  told_same : (image : List ℕ → List ℕ) (k : ℕ) (above : Above) (items : List Item) (entries : List Entry) → responses_from image k above items (entries_renamed name entries) ≡ responses_from image k above items entries
  told_same image k above items [] = refl
  told_same image k above items (entry ∷ entries) =
      first entry.origin ∙ ap (λ (rest : List Send). told_to entry.origin (below image above items k) ++ rest) (told_same image (suc k) above items entries)
    where
      first : (o : Origin) → (told_to (origin_renamed name o) (below image above items k) ++ responses_from image (suc k) above items (entries_renamed name entries))
          ≡ (told_to o (below image above items k) ++ responses_from image (suc k) above items (entries_renamed name entries))
      first (origins.Request n) = refl
      first (origins.Aggregator a) = refl

  responses_same : (image : List ℕ → List ℕ) (above : Above) (entries : List Entry) → responses image above (entries_renamed name entries) ≡ responses image above entries
  unfolding responses
  responses_same image above entries =
      ap (λ (items : List Item). responses_from image 0 above items (entries_renamed name entries)) (items_same entries) ∙ told_same image 0 above (items_of entries) entries

  -- EACH ROW

  module _ (r : RoundState) where
    request_by : (number : ℕ) (imprint : List ℕ) (called : Option (List ℕ)) (b a d c : Bool) → b ≡ a → d ≡ c →
        (if b then round_still (round_renamed name r) answers.Late else if d then round_still (round_renamed name r) answers.Full else round_added (round_renamed name r) (request_entry (name number) imprint called) (answers.Number (name number)))
        ≡ turn_renamed name (if a then round_still r answers.Late else if c then round_still r answers.Full else round_added r (request_entry number imprint called) (answers.Number number))
    request_by number imprint called true true d c e f = refl
    request_by number imprint called true false d c e f = absurd (false≢true (sym e))
    request_by number imprint called false true d c e f = absurd (false≢true e)
    request_by number imprint called false false true true e f = refl
    request_by number imprint called false false true false e f = absurd (false≢true (sym f))
    request_by number imprint called false false false true e f = absurd (false≢true f)
    request_by number imprint called false false false false e f =
        ap (λ (items : List Entry). record { after = record { open_items = items; closed = option_map (entries_renamed name) r.closed; answered = r.answered }; answer = answers.Number (name number); fact = None; sends = [] })
        (one_behind r.open_items (request_entry number imprint called))

    request_row : (number : ℕ) (imprint : List ℕ) (called : Option (List ℕ)) → round_request (name number) imprint called (round_renamed name r) ≡ turn_renamed name (round_request number imprint called r)
    unfolding round_request
    request_row number imprint called =
        request_by number imprint called (is_some (option_map (entries_renamed name) r.closed)) (is_some r.closed) (is_full (entries_renamed name r.open_items)) (is_full r.open_items) (closed_same r.closed) (full_same r.open_items)

    full_by : (from : ℕ) (item : Item) (d c : Bool) → d ≡ c →
        (if d then round_still (round_renamed name r) answers.Full else round_added (round_renamed name r) (submitted_entry from item) answers.Done)
        ≡ turn_renamed name (if c then round_still r answers.Full else round_added r (submitted_entry from item) answers.Done)
    full_by from item true true f = refl
    full_by from item true false f = absurd (false≢true (sym f))
    full_by from item false true f = absurd (false≢true f)
    full_by from item false false f =
        ap (λ (items : List Entry). record { after = record { open_items = items; closed = option_map (entries_renamed name) r.closed; answered = r.answered }; answer = answers.Done; fact = None; sends = [] })
        (one_behind r.open_items (submitted_entry from item))

    submission_by : (from : ℕ) (item : Item) (b a k h d c : Bool) → b ≡ a → k ≡ h → d ≡ c →
        (if b then round_still (round_renamed name r) answers.Late else if k then round_still (round_renamed name r) answers.Known else if d then round_still (round_renamed name r) answers.Full else round_added (round_renamed name r) (submitted_entry from item) answers.Done)
        ≡ turn_renamed name (if a then round_still r answers.Late else if h then round_still r answers.Known else if c then round_still r answers.Full else round_added r (submitted_entry from item) answers.Done)
    submission_by from item true true k h d c e g f = refl
    submission_by from item true false k h d c e g f = absurd (false≢true (sym e))
    submission_by from item false true k h d c e g f = absurd (false≢true e)
    submission_by from item false false true true d c e g f = refl
    submission_by from item false false true false d c e g f = absurd (false≢true (sym g))
    submission_by from item false false false true d c e g f = absurd (false≢true g)
    submission_by from item false false false false d c e g f = full_by from item d c f

    submission_row : (from : ℕ) (item : Item) → round_submission from item (round_renamed name r) ≡ turn_renamed name (round_submission from item r)
    unfolding round_submission
    submission_row from item =
        submission_by from item (is_some (option_map (entries_renamed name) r.closed)) (is_some r.closed) (has_from from (entries_renamed name r.open_items)) (has_from from r.open_items) (is_full (entries_renamed name r.open_items)) (is_full r.open_items)
        (closed_same r.closed) (from_same from r.open_items) (full_same r.open_items)

    close_by : (image : List ℕ → List ℕ) (b a : Bool) → b ≡ a →
        (if b then round_still (round_renamed name r) answers.Closed else closed_now image (round_renamed name r)) ≡ turn_renamed name (if a then round_still r answers.Closed else closed_now image r)
    close_by image true true e = refl
    close_by image true false e = absurd (false≢true (sym e))
    close_by image false true e = absurd (false≢true e)
    close_by image false false e =
        ap (λ (told : List Send). record { after = record { open_items = []; closed = Some (entries_renamed name r.open_items); answered = r.answered }; answer = answers.Done; fact = Some (Closed (entries_renamed name r.open_items)); sends = told })
        (submission_same image r.open_items)

    close_row : (image : List ℕ → List ℕ) → round_close image (round_renamed name r) ≡ turn_renamed name (round_close image r)
    unfolding round_close
    close_row image = close_by image (is_some (option_map (entries_renamed name) r.closed)) (is_some r.closed) (closed_same r.closed)

    response_row : (image : List ℕ → List ℕ) (above : Above) → round_response image above (round_renamed name r) ≡ turn_renamed name (round_response image above r)
    unfolding round_response
    response_row image above = by r.closed r.answered
      where
        by : (closed : Option (List Entry)) (answered : Option Above) → response_where image above (option_map (entries_renamed name) closed) answered (round_renamed name r) ≡ turn_renamed name (response_where image above closed answered r)
        by None answered = refl
        by (Some []) answered = refl
        by (Some (entry ∷ entries)) (Some first) = refl
        by (Some (entry ∷ entries)) None =
            ap (λ (told : List Send). record { after = record { open_items = entries_renamed name r.open_items; closed = option_map (entries_renamed name) r.closed; answered = Some above }; answer = answers.Done; fact = Some (Answered above); sends = told })
            (responses_same image above (entry ∷ entries))

    restart_by : (b a : Bool) → b ≡ a → (if b then round_renamed name r else fresh_round) ≡ round_renamed name (if a then r else fresh_round)
    restart_by true true e = refl
    restart_by true false e = absurd (false≢true (sym e))
    restart_by false true e = absurd (false≢true e)
    restart_by false false e = refl

    pub restart_row : round_restarted (round_renamed name r) ≡ round_renamed name (round_restarted r)
    restart_row = restart_by (is_some (option_map (entries_renamed name) r.closed)) (is_some r.closed) (closed_same r.closed)

  -- A NEW NUMBER

  abbrev origin_number : Origin → ℕ
  origin_number (origins.Request n) = n
  origin_number (origins.Aggregator a) = 0

  abbrev some_number : Option Entry → ℕ
  some_number None = 0
  some_number (Some entry) = origin_number entry.origin

  abbrev some_item : Item → Option Entry → Item
  some_item other None = other
  some_item other (Some entry) = entry.item

  abbrev is_request : Origin → Bool
  is_request (origins.Request n) = true
  is_request (origins.Aggregator a) = false

  abbrev some_request : Option Entry → Bool
  some_request None = false
  some_request (Some entry) = is_request entry.origin

  same_entry : IsOneToOne name → (o : Origin) (i : Item) (number : ℕ) (item : Item) → Some (record { origin = origin_renamed name o; item = i }) ≡ Some (from_request (name number) item) →
      Some (record { origin = o; item = i }) ≡ Some (from_request number item)
  same_entry once (origins.Request n) i number item e =
      let numbers : n ≡ number = once n number (ap some_number e) in
      let items : i ≡ item = ap (some_item item) e in
      ap (λ (m : ℕ). Some (from_request m i)) numbers ∙ ap (λ (x : Item). Some (from_request number x)) items
  same_entry once (origins.Aggregator a) i number item e = absurd (false≢true (ap some_request e))

  read_renamed : IsOneToOne name → (entries : List Entry) (k number : ℕ) (item : Item) → slice_get (entries_renamed name entries) k ≡ Some (from_request (name number) item) → slice_get entries k ≡ Some (from_request number item)
  read_renamed once [] k number item e = absurd (none-some (from_request (name number) item) e)
  read_renamed once (x ∷ xs) zero number item e = same_entry once x.origin x.item number item e
  read_renamed once (x ∷ xs) (suc k) number item e = read_renamed once xs k number item e

  pub may_renamed : (rounds : ℕ → RoundState) (event : RoundEvent) → IsOneToOne name → MayTake rounds event → MayTake (λ t. round_renamed name (rounds t)) (event_renamed name event)
  may_renamed rounds (events.Request number second imprint called) once may = λ t k item at.
      may t k item (read_renamed once (items_in (rounds t)) k number item (subst (λ (items : List Entry). slice_get items k ≡ Some (from_request (name number) item)) (in_round (rounds t).closed (rounds t).open_items) at))
  may_renamed rounds (events.Submission from second item) once may = may
  may_renamed rounds (events.Close second) once may = may
  may_renamed rounds (events.Response second above) once may = λ lower.
      may (sym (lower_same (items_in (rounds second))) ∙ sym (ap (λ (items : List Entry). has_lower items) (in_round (rounds second).closed (rounds second).open_items)) ∙ lower)

pub event_row : (image : List ℕ → List ℕ) (name : ℕ → ℕ) (event : RoundEvent) (r : RoundState) → round_row image (event_renamed name event) (round_renamed name r) ≡ turn_renamed name (round_row image event r)
event_row image name (events.Request number second imprint called) r = request_row name r number imprint called
event_row image name (events.Submission from second item) r = submission_row name r from item
event_row image name (events.Close second) r = close_row name r image
event_row image name (events.Response second above) r = response_row name r image above
