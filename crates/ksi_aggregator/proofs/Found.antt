-- The items of requests stay found by their numbers, whatever a row makes of a round.
use Rattle.std.proofs.Common.{◌≡◌, ◌↔◌, not, ◌≢◌, ◌<◌, ◌≤◌, ◌^◌, arith, Result, Ok, Err, nat_cmp, ℕ, ◌++◌, List, [], ◌∷◌, length, Bool, true, false, eqb, Option, Some, None, refl, ap, sym, subst, ◌∙◌, ◌⊎◌, inl, inr}
use Rattle.std.specs.Prelude.{slice_get, unwrap_or, is_some, if◌then◌else◌, ◌==◌, IfOk, OnErr, IfNone}
use Rattle.std.specs.Ordering.{is_eq}
use Rattle.std.specs.BTreeMap.{is_at}
use Rattle.std.specs.Cmp.{nat_cmp_is}
use Rattle.std.specs.declared.cmp.Ordering.TheVariants.{Less, Greater}
use Rattle.std.proofs.lemmas.Option.{none-some}
use Rattle.std.proofs.lemmas.Bool.{false≢true, eqb-true}
use Rattle.std.proofs.lemmas.Bool.Decides.{eqb_tells, leb_tells}
use Rattle.ksi_aggtree.specs.declared.item.Item.{Item}
use Rattle.ksi_aggtree.specs.declared.entries.Origin.{Origin}
use Rattle.ksi_aggtree.specs.declared.entries.Origin.TheVariants as origins
use Rattle.ksi_aggtree.specs.declared.entries.Entry.{Entry}
use Rattle.ksi_aggtree.specs.Entries.{has_from, is_full}
use Rattle.ksi_signature.specs.declared.above.Above.{Above}
use Rattle.ksi_signature.specs.declared.answer.Answer.{Answer}
use Rattle.ksi_signature.specs.declared.answer.Answer.TheVariants as answers
use Rattle.ksi_aggregator.specs.declared.place.Place.{Place}
use Rattle.ksi_aggregator.specs.Rows.{RoundState, RoundTurn, round_still, round_added, request_entry, submitted_entry, round_request, round_submission, round_close, round_response, fresh_round, round_restarted, response_where, closed_now}
use Rattle.ksi_aggregator.specs.Rounds.{items_in, StandsAt, IsNew, SameRounds, ChangesOnly, IsTurn}
use Rattle.ksi_aggregator.specs.declared.step.Step.{Step}
use Rattle.ksi_aggregator.specs.Issuing.{from_request, IsAnswered, NotIssuedAt, NotIssued, AreFound, AreEarly}
use Rattle.ksi_aggregator.proofs.Items.{read_more}

-- WHAT ROWS LEAVE

-- the items that there were, or one more behind them
abbrev pub MayAdd : Entry → RoundState → RoundState → Type 0
MayAdd entry old new = (items_in new ≡ items_in old) ⊎ (items_in new ≡ items_in old ++ entry ∷ [])

added_items : (closed : Option (List Entry)) (items : List Entry) (entry : Entry) → is_some closed ≡ false → unwrap_or closed (items ++ entry ∷ []) ≡ unwrap_or closed items ++ entry ∷ []
added_items None items entry e = refl
added_items (Some xs) items entry e = absurd (false≢true (sym e))

request_may : (closed full : Bool) (r : RoundState) (entry : Entry) (answer : Answer) → is_some r.closed ≡ closed
    → MayAdd entry r (if closed then round_still r answers.Late else if full then round_still r answers.Full else round_added r entry answer).after
request_may true full r entry answer e = inl refl
request_may false true r entry answer e = inl refl
request_may false false r entry answer e = inr (added_items r.closed r.open_items entry e)

pub after_request : (number : ℕ) (imprint : List ℕ) (name : Option (List ℕ)) (r : RoundState) → MayAdd (request_entry number imprint name) r (round_request number imprint name r).after
unfolding round_request
after_request number imprint name r = request_may (is_some r.closed) (is_full r.open_items) r (request_entry number imprint name) (answers.Number number) refl

submission_may : (closed known full : Bool) (r : RoundState) (entry : Entry) → is_some r.closed ≡ closed
    → MayAdd entry r (if closed then round_still r answers.Late else if known then round_still r answers.Known else if full then round_still r answers.Full else round_added r entry answers.Done).after
submission_may true known full r entry e = inl refl
submission_may false true full r entry e = inl refl
submission_may false false true r entry e = inl refl
submission_may false false false r entry e = inr (added_items r.closed r.open_items entry e)

pub after_submission : (from : ℕ) (item : Item) (r : RoundState) → MayAdd (submitted_entry from item) r (round_submission from item r).after
unfolding round_submission
after_submission from item r = submission_may (is_some r.closed) (has_from from r.open_items) (is_full r.open_items) r (submitted_entry from item) refl

close_items : (image : List ℕ → List ℕ) (closed : Bool) (r : RoundState) → is_some r.closed ≡ closed → items_in (if closed then round_still r answers.Closed else closed_now image r).after ≡ items_in r
close_items image true r e = refl
close_items image false r e = open_items r.closed r.open_items e
  where
    open_items : (o : Option (List Entry)) (items : List Entry) → is_some o ≡ false → items ≡ unwrap_or o items
    open_items None items e = refl
    open_items (Some xs) items e = absurd (false≢true (sym e))

pub after_close : (image : List ℕ → List ℕ) (r : RoundState) → items_in (round_close image r).after ≡ items_in r
unfolding round_close
after_close image r = close_items image (is_some r.closed) r refl

response_items : (image : List ℕ → List ℕ) (above : Above) (closed : Option (List Entry)) (answered : Option Above) (r : RoundState) → items_in (response_where image above closed answered r).after ≡ items_in r
response_items image above None answered r = refl
response_items image above (Some []) answered r = refl
response_items image above (Some (entry ∷ entries)) (Some first) r = refl
response_items image above (Some (entry ∷ entries)) None r = refl

pub after_response : (image : List ℕ → List ℕ) (above : Above) (r : RoundState) → items_in (round_response image above r).after ≡ items_in r
unfolding round_response
after_response image above r = response_items image above r.closed r.answered r

-- WHAT STAYS FOUND

-- a new number takes a place
pub found_new : (rounds : ℕ → RoundState) (number : ℕ) (old new : ℕ → Option Place) → AreFound rounds old → IsNew number rounds
    → ((n : ℕ) → number ≢ n → new n ≡ old n) → AreFound rounds new
found_new rounds number old new found is_new keeps = λ t k n item at.
    elim (eqb_tells number n) [
      | inl same ↦ absurd (is_new t k item (subst (λ (m : ℕ). slice_get (items_in (rounds t)) k ≡ Some (from_request m item)) (sym same.1) at))
      | inr other ↦ keeps n other.1 ∙ found t k n item at
    ]

-- one round changes, to items that are found
pub found_turn : (old new : ℕ → RoundState) (second : ℕ) (after : RoundState) (places : ℕ → Option Place) → AreFound old places → ChangesOnly old new second after
    → ((k n : ℕ) (item : Item) → slice_get (items_in after) k ≡ Some (from_request n item) → places n ≡ Some (record { second = second; place = k }))
    → AreFound new places
found_turn old new second after places found changes there = λ t k n item at.
    by t k n item (t == second) refl (subst (λ (r : RoundState). slice_get (items_in r) k ≡ Some (from_request n item)) (changes t) at)
  where
    by : (t k n : ℕ) (item : Item) (b : Bool) → eqb t second ≡ b → slice_get (items_in (if b then after else old t)) k ≡ Some (from_request n item) → places n ≡ Some (record { second = t; place = k })
    by t k n item true same at = there k n item at ∙ ap (λ (s : ℕ). Some (record { second = s; place = k })) (sym (eqb-true t second same))
    by t k n item false other at = found t k n item at

pub found_same : (old new : ℕ → RoundState) (places : ℕ → Option Place) → AreFound old places → SameRounds old new → AreFound new places
found_same old new places found same = λ t k n item at.
    found t k n item (subst (λ (r : RoundState). slice_get (items_in r) k ≡ Some (from_request n item)) (same t) at)

-- one round keeps its items
pub found_kept : (old new : ℕ → RoundState) (second : ℕ) (after : RoundState) (places : ℕ → Option Place) → AreFound old places → ChangesOnly old new second after
    → items_in after ≡ items_in (old second) → AreFound new places
found_kept old new second after places found changes same =
    found_turn old new second after places found changes (λ k n item at. found second k n item (subst (λ (items : List Entry). slice_get items k ≡ Some (from_request n item)) same at))

abbrev number_of : Origin → ℕ → ℕ
number_of (origins.Request n) other = n
number_of (origins.Aggregator a) other = other

-- a request that may be added is found at its place
pub found_request : (number : ℕ) (imprint : List ℕ) (name : Option (List ℕ)) (old new : ℕ → RoundState) (second : ℕ) (places : ℕ → Option Place) → AreFound old places
    → ChangesOnly old new second (round_request number imprint name (old second)).after
    → places number ≡ Some (record { second = second; place = length (items_in (old second)) }) → AreFound new places
found_request number imprint name old new second places found changes is =
    elim (after_request number imprint name (old second)) [
      | inl same ↦ found_kept old new second (round_request number imprint name (old second)).after places found changes same
      | inr more ↦ found_turn old new second (round_request number imprint name (old second)).after places found changes (λ k n item at.
          elim (read_more (items_in (old second)) (request_entry number imprint name) k (from_request n item) (subst (λ (items : List Entry). slice_get items k ≡ Some (from_request n item)) more at)) [
            | inl before ↦ found second k n item before
            | inr here ↦
                let e : number ≡ n = ap (λ (o : Option Entry). entry_number o) here.1 in
                ap places (sym e) ∙ is ∙ ap (λ (k : ℕ). Some (record { second = second; place = k })) (sym here.0)
          ])
    ]
  where
    entry_number : Option Entry → ℕ
    entry_number None = number
    entry_number (Some entry) = number_of entry.origin number

-- an item of an aggregator is no request's
pub found_submission : (from : ℕ) (item : Item) (old new : ℕ → RoundState) (second : ℕ) (places : ℕ → Option Place) → AreFound old places
    → ChangesOnly old new second (round_submission from item (old second)).after → AreFound new places
found_submission from item old new second places found changes =
    elim (after_submission from item (old second)) [
      | inl same ↦ found_kept old new second (round_submission from item (old second)).after places found changes same
      | inr more ↦ found_turn old new second (round_submission from item (old second)).after places found changes (λ k n x at.
          elim (read_more (items_in (old second)) (submitted_entry from item) k (from_request n x) (subst (λ (items : List Entry). slice_get items k ≡ Some (from_request n x)) more at)) [
            | inl before ↦ found second k n x before
            | inr here ↦ absurd (false≢true (ap (λ (o : Option Entry). is_of_request o) here.1))
          ])
    ]
  where
    is_of : Origin → Bool
    is_of (origins.Request n) = true
    is_of (origins.Aggregator a) = false

    is_of_request : Option Entry → Bool
    is_of_request None = false
    is_of_request (Some entry) = is_of entry.origin

-- after a restart only closed items stand
pub found_restarted : (old new : ℕ → RoundState) (places : ℕ → Option Place) → AreFound old places → ((t : ℕ) → new t ≡ round_restarted (old t)) → AreFound new places
found_restarted old new places found restarted = λ t k n item at.
    found t k n item (closed_only (is_some (old t).closed) (old t) k (from_request n item) (subst (λ (r : RoundState). slice_get (items_in r) k ≡ Some (from_request n item)) (restarted t) at))
  where
    closed_only : (b : Bool) (r : RoundState) (k : ℕ) (entry : Entry) → slice_get (items_in (if b then r else fresh_round)) k ≡ Some entry → slice_get (items_in r) k ≡ Some entry
    closed_only true r k entry e = e
    closed_only false r k entry e = absurd (none-some entry e)

-- whatever the step, what is found stays found
pub found_step : {E : Type 0} (result : Result Step E) (old new : ℕ → RoundState) (second : ℕ) (turn : RoundTurn) (places : ℕ → Option Place) → AreFound old places
    → (ChangesOnly old new second turn.after → AreFound new places) → IfOk result (IsTurn old new second turn) → OnErr result (SameRounds old new) → AreFound new places
found_step (Ok step) old new second turn places found after is same = after is.after
found_step (Err e) old new second turn places found after is same = found_same old new places found same

-- WHAT IS ISSUED

entries_of_round : (round : RoundState) (entries : List Entry) (above : Above) → IsAnswered round entries above → items_in round ≡ entries
entries_of_round round entries above is = ap (λ (o : Option (List Entry)). unwrap_or o round.open_items) is.closed

pub not_found_not_issued : (rounds : ℕ → RoundState) (places : ℕ → Option Place) (number : ℕ) → AreFound rounds places → places number ≡ None → NotIssued rounds number
not_found_not_issued rounds places number found none = λ second k entries above item answered at.
    let there = subst (λ (items : List Entry). slice_get items k ≡ Some (from_request number item)) (sym (entries_of_round (rounds second) entries above answered)) at in
    absurd (none-some (record { second = second; place = k }) (sym none ∙ found second k number item there))

pub not_there_not_issued : (rounds : ℕ → RoundState) (places : ℕ → Option Place) (number : ℕ) (place : Place) → AreFound rounds places → places number ≡ Some place
    → NotIssuedAt (rounds place.second) number place.place → NotIssued rounds number
not_there_not_issued rounds places number place found is not_there = λ second k entries above item answered at.
    let there = subst (λ (items : List Entry). slice_get items k ≡ Some (from_request number item)) (sym (entries_of_round (rounds second) entries above answered)) at in
    let same : place ≡ record { second = second; place = k } = some_same place (record { second = second; place = k }) (sym is ∙ found second k number item there) in
    subst (λ (p : Place). NotIssuedAt (rounds p.second) number p.place) same not_there entries above item answered at
  where
    some_same : (a b : Place) → Some a ≡ Some b → a ≡ b
    some_same a b e = ap (λ (o : Option Place). unwrap_or o a) e

pub none_weaker : {A E : Type 0} (result : Result (Option A) E) (P Q : Type 0) → (P → Q) → IfOk result (λ found. IfNone found P) → IfOk result (λ found. IfNone found Q)
none_weaker (Ok None) P Q f h = f h
none_weaker (Ok (Some x)) P Q f h = tt
none_weaker (Err e) P Q f h = tt

-- WHERE A NUMBER IS PUT

pub other_key : (a b : ℕ) → a ≢ b → is_at (nat_cmp a) b ≡ false
other_key a b ne = elim (leb_tells b a) [
  | inl le ↦ sym (ap is_eq (nat_cmp_is a b Greater (below (le.1))))
  | inr lt ↦ sym (ap is_eq (nat_cmp_is a b Less (omega (arith, lt.1))))
]
  where
    le_cases : b ≤ a → (b < a) ⊎ (a ≡ b)
    le_cases le = elim (leb_tells a b) [ inl ge ↦ inr (omega (arith, le, ge.1)) | inr lt ↦ inl (omega (arith, lt.1)) ]

    below : b ≤ a → b < a
    below le = elim (le_cases le) [ inl lt ↦ lt | inr same ↦ absurd (ne same) ]

-- what is found is early, where the number takes an early place
pub early_new : (number : ℕ) (place : Place) (old new : ℕ → Option Place) → AreEarly old → place.second < 2 ^ 63 → new number ≡ Some place
    → ((n : ℕ) → number ≢ n → new n ≡ old n) → AreEarly new
early_new number place old new early low is keeps = λ n p at.
    elim (eqb_tells number n) [
      | inl same ↦
          let e : place ≡ p = some_same place p (sym is ∙ ap new same.1 ∙ at) in
          subst (λ (p : Place). p.second < 2 ^ 63) e low
      | inr other ↦ early n p (sym (keeps n other.1) ∙ at)
    ]
  where
    some_same : (a b : Place) → Some a ≡ Some b → a ≡ b
    some_same a b e = ap (λ (o : Option Place). unwrap_or o a) e

-- WHAT IS NEW

pub not_found_new : (rounds : ℕ → RoundState) (places : ℕ → Option Place) (number : ℕ) → AreFound rounds places → places number ≡ None → IsNew number rounds
not_found_new rounds places number found none = λ t k item at. none-some (record { second = t; place = k }) (sym none ∙ found t k number item at)

pub not_there_new : (rounds : ℕ → RoundState) (places : ℕ → Option Place) (number : ℕ) (place : Place) → AreFound rounds places → places number ≡ Some place
    → (StandsAt number (items_in (rounds place.second)) place.place → ⊥) → IsNew number rounds
not_there_new rounds places number place found is not_there = λ t k item at.
    let same : place ≡ record { second = t; place = k } = some_same place (record { second = t; place = k }) (sym is ∙ found t k number item at) in
    subst (λ (p : Place). StandsAt number (items_in (rounds p.second)) p.place → ⊥) same not_there (item, at)
  where
    some_same : (a b : Place) → Some a ≡ Some b → a ≡ b
    some_same a b e = ap (λ (o : Option Place). unwrap_or o a) e

-- a test that fails exactly where the item stands
pub new_where : (rounds : ℕ → RoundState) (places : ℕ → Option Place) (number : ℕ) (place : Place) (test : Bool) → AreFound rounds places → places number ≡ Some place
    → (test ≡ true) ↔ StandsAt number (items_in (rounds place.second)) place.place → (not test ≡ true) ↔ IsNew number rounds
new_where rounds places number place true found is says =
    (λ e. absurd (false≢true e), λ new. let there = says.0 refl in absurd (new place.second place.place there.0 there.1))
new_where rounds places number place false found is says =
    (λ e. not_there_new rounds places number place found is (λ there. false≢true (says.1 there)), λ new. refl)

pub none_stands : (number k : ℕ) (round : RoundState) → round ≡ fresh_round → (false ≡ true) ↔ StandsAt number (items_in round) k
none_stands number k round fresh =
    (λ e. absurd (false≢true e), λ there. let at = subst (λ (r : RoundState). slice_get (items_in r) k ≡ Some (from_request number there.0)) fresh there.1 in absurd (none-some (from_request number there.0) at))
