-- The answers of rows in words.
use Rattle.std.proofs.Common.{◌≡◌, ◌↔◌, ◌⊎◌, inl, inr, ℕ, List, [], ◌∷◌, length, Bool, true, false, Option, Some, None, Result, Ok, Err, refl, ap, sym, subst, ◌∙◌, arith}
use Rattle.std.specs.Prelude.{is_some, IsSome, if◌then◌else◌, IfOk}
use Rattle.std.proofs.lemmas.Option.{none-some}
use Rattle.std.proofs.lemmas.Bool.{false≢true, eqb-true, eq-eqb}
use Rattle.ksi_aggtree.specs.declared.item.Item.{Item}
use Rattle.ksi_aggtree.specs.declared.entries.Entry.{Entry}
use Rattle.ksi_aggtree.specs.Entries.{has_from, is_full}
use Rattle.ksi_signature.specs.declared.above.Above.{Above}
use Rattle.ksi_signature.specs.declared.answer.Answer.{Answer}
use Rattle.ksi_signature.specs.declared.answer.Answer.TheVariants as answers
use Rattle.ksi_aggregator.specs.declared.step.Step.{Step}
use Rattle.ksi_aggregator.specs.Rows.{RoundState, RoundTurn, round_still, round_added, request_entry, submitted_entry, round_request, round_submission, round_close, round_response, response_where, closed_now}
use Rattle.ksi_aggregator.specs.Rounds.{IsTurn}
use Rattle.ksi_aggregator.specs.Refusals.{IsFull, IsKnown, IsFullFor, AwaitsResponse}

-- what tells answers apart
abbrev mark : Answer → ℕ
mark answers.Done = 0
mark (answers.Number n) = 1
mark (answers.Published root) = 2
mark answers.Late = 3
mark answers.Known = 4
mark answers.Full = 5
mark answers.Unsealed = 6
mark answers.Sealed = 7
mark answers.Closed = 8
mark (answers.Undecided s) = 9
mark answers.NotMine = 10
mark answers.Nothing = 11
mark answers.Last = 12

-- what holds of a row's answer holds of the step's
pub by_row : {E : Type 0} (result : Result Step E) (old new : ℕ → RoundState) (second : ℕ) (turn : RoundTurn) (r now : RoundState) (P : RoundState → Answer → Type 0)
    → r ≡ now → IfOk result (IsTurn old new second turn) → P r turn.answer → IfOk result (λ (step : Step). P now step.answer)
by_row (Ok step) old new second turn r now P same is p = subst (λ (answer : Answer). P now answer) (sym is.answer) (subst (λ (r : RoundState). P r turn.answer) same p)
by_row (Err e) old new second turn r now P same is p = tt

-- REQUEST

late_request_at : (closed full : Bool) (r : RoundState) (number : ℕ) (entry : Entry)
    → ((if closed then round_still r answers.Late else if full then round_still r answers.Full else round_added r entry (answers.Number number)).answer ≡ answers.Late) ↔ (closed ≡ true)
late_request_at true full r number entry = (λ e. refl, λ h. refl)
late_request_at false true r number entry = (λ e. absurd (omega (arith, ap mark e)), λ h. absurd (false≢true h))
late_request_at false false r number entry = (λ e. absurd (omega (arith, ap mark e)), λ h. absurd (false≢true h))

pub late_request : (number : ℕ) (imprint : List ℕ) (name : Option (List ℕ)) (r : RoundState) → ((round_request number imprint name r).answer ≡ answers.Late) ↔ IsSome r.closed
unfolding round_request
late_request number imprint name r = late_request_at (is_some r.closed) (is_full r.open_items) r number (request_entry number imprint name)

none_where : (o : Option (List Entry)) → is_some o ≡ false → o ≡ None
none_where None e = refl
none_where (Some xs) e = absurd (false≢true (sym e))

is_none : (o : Option (List Entry)) → o ≡ None → is_some o ≡ false
is_none o e = ap (λ (o : Option (List Entry)). is_some o) e

full_request_at : (closed full : Bool) (r : RoundState) (number : ℕ) (entry : Entry) → is_some r.closed ≡ closed → is_full r.open_items ≡ full
    → ((if closed then round_still r answers.Late else if full then round_still r answers.Full else round_added r entry (answers.Number number)).answer ≡ answers.Full) ↔ IsFull r
full_request_at true full r number entry c f = (λ e. absurd (omega (arith, ap mark e)), λ w. absurd (false≢true (sym (is_none r.closed w.open_yet) ∙ c)))
full_request_at false true r number entry c f = (λ e. record { open_yet = none_where r.closed c; count = eqb-true _ _ f }, λ w. refl)
full_request_at false false r number entry c f = (λ e. absurd (omega (arith, ap mark e)), λ w. absurd (false≢true (sym f ∙ eq-eqb _ _ w.count)))

pub full_request : (number : ℕ) (imprint : List ℕ) (name : Option (List ℕ)) (r : RoundState) → ((round_request number imprint name r).answer ≡ answers.Full) ↔ IsFull r
unfolding round_request
full_request number imprint name r = full_request_at (is_some r.closed) (is_full r.open_items) r number (request_entry number imprint name) refl refl

-- SUBMISSION

abbrev submitted_at : (closed known full : Bool) → RoundState → Entry → Answer
submitted_at closed known full r entry =
    (if closed then round_still r answers.Late else if known then round_still r answers.Known else if full then round_still r answers.Full else round_added r entry answers.Done).answer

late_at : (closed known full : Bool) (r : RoundState) (entry : Entry) → (submitted_at closed known full r entry ≡ answers.Late) ↔ (closed ≡ true)
late_at true known full r entry = (λ e. refl, λ h. refl)
late_at false true full r entry = (λ e. absurd (omega (arith, ap mark e)), λ h. absurd (false≢true h))
late_at false false true r entry = (λ e. absurd (omega (arith, ap mark e)), λ h. absurd (false≢true h))
late_at false false false r entry = (λ e. absurd (omega (arith, ap mark e)), λ h. absurd (false≢true h))

pub late_submission : (from : ℕ) (item : Item) (r : RoundState) → ((round_submission from item r).answer ≡ answers.Late) ↔ IsSome r.closed
unfolding round_submission
late_submission from item r = late_at (is_some r.closed) (has_from from r.open_items) (is_full r.open_items) r (submitted_entry from item)

known_at : (closed known full : Bool) (from : ℕ) (r : RoundState) (entry : Entry) → is_some r.closed ≡ closed → has_from from r.open_items ≡ known
    → (submitted_at closed known full r entry ≡ answers.Known) ↔ IsKnown from r
known_at true known full from r entry c k = (λ e. absurd (omega (arith, ap mark e)), λ w. absurd (false≢true (sym (is_none r.closed w.open_yet) ∙ c)))
known_at false true full from r entry c k = (λ e. record { open_yet = none_where r.closed c; there = k }, λ w. refl)
known_at false false true from r entry c k = (λ e. absurd (omega (arith, ap mark e)), λ w. absurd (false≢true (sym k ∙ w.there)))
known_at false false false from r entry c k = (λ e. absurd (omega (arith, ap mark e)), λ w. absurd (false≢true (sym k ∙ w.there)))

pub known_submission : (from : ℕ) (item : Item) (r : RoundState) → ((round_submission from item r).answer ≡ answers.Known) ↔ IsKnown from r
unfolding round_submission
known_submission from item r = known_at (is_some r.closed) (has_from from r.open_items) (is_full r.open_items) from r (submitted_entry from item) refl refl

full_at : (closed known full : Bool) (from : ℕ) (r : RoundState) (entry : Entry) → is_some r.closed ≡ closed → has_from from r.open_items ≡ known → is_full r.open_items ≡ full
    → (submitted_at closed known full r entry ≡ answers.Full) ↔ IsFullFor from r
full_at true known full from r entry c k f = (λ e. absurd (omega (arith, ap mark e)), λ w. absurd (false≢true (sym (is_none r.closed w.full.open_yet) ∙ c)))
full_at false true full from r entry c k f = (λ e. absurd (omega (arith, ap mark e)), λ w. absurd (false≢true (sym w.other ∙ k)))
full_at false false true from r entry c k f = (λ e. record { full = record { open_yet = none_where r.closed c; count = eqb-true _ _ f }; other = k }, λ w. refl)
full_at false false false from r entry c k f = (λ e. absurd (omega (arith, ap mark e)), λ w. absurd (false≢true (sym f ∙ eq-eqb _ _ w.full.count)))

pub full_submission : (from : ℕ) (item : Item) (r : RoundState) → ((round_submission from item r).answer ≡ answers.Full) ↔ IsFullFor from r
unfolding round_submission
full_submission from item r = full_at (is_some r.closed) (has_from from r.open_items) (is_full r.open_items) from r (submitted_entry from item) refl refl refl

module _ (image : List ℕ → List ℕ) where
  -- CLOSE

  closed_at : (closed : Bool) (r : RoundState) → ((if closed then round_still r answers.Closed else closed_now image r).answer ≡ answers.Closed) ↔ (closed ≡ true)
  closed_at true r = (λ e. refl, λ h. refl)
  closed_at false r = (λ e. absurd (omega (arith, ap mark e)), λ h. absurd (false≢true h))

  pub closed_close : (r : RoundState) → ((round_close image r).answer ≡ answers.Closed) ↔ IsSome r.closed
  unfolding round_close
  closed_close r = closed_at (is_some r.closed) r

  -- RESPONSE

  done_at : (above : Above) (closed : Option (List Entry)) (answered : Option Above) (r : RoundState) → r.closed ≡ closed → r.answered ≡ answered
      → ((response_where image above closed answered r).answer ≡ answers.Done) ↔ AwaitsResponse r
  done_at above None answered r c a = (λ e. absurd (omega (arith, ap mark e)), λ w. absurd (none-some w.entries (sym c ∙ w.closed)))
  done_at above (Some []) answered r c a = (λ e. absurd (omega (arith, ap mark e)), λ w. absurd (omega (arith, w.some, ap (λ (o : Option (List Entry)). length_or o) (sym c ∙ w.closed))))
    where
      length_or : Option (List Entry) → ℕ
      length_or None = 0
      length_or (Some xs) = length xs
  done_at above (Some (entry ∷ entries)) (Some first) r c a = (λ e. absurd (omega (arith, ap mark e)), λ w. absurd (none-some first (sym w.answered ∙ a)))
  done_at above (Some (entry ∷ entries)) None r c a = (λ e. record { entries = entry ∷ entries; closed = c; some = omega arith; answered = a }, λ w. refl)

  pub done_response : (above : Above) (r : RoundState) → ((round_response image above r).answer ≡ answers.Done) ↔ AwaitsResponse r
  unfolding round_response
  done_response above r = done_at above r.closed r.answered r refl refl

  either_at : (above : Above) (closed : Option (List Entry)) (answered : Option Above) (r : RoundState)
      → ((response_where image above closed answered r).answer ≡ answers.Done) ⊎ ((response_where image above closed answered r).answer ≡ answers.Nothing)
  either_at above None answered r = inr refl
  either_at above (Some []) answered r = inr refl
  either_at above (Some (entry ∷ entries)) (Some first) r = inr refl
  either_at above (Some (entry ∷ entries)) None r = inl refl

  pub either_response : (above : Above) (r : RoundState) → ((round_response image above r).answer ≡ answers.Done) ⊎ ((round_response image above r).answer ≡ answers.Nothing)
  unfolding round_response
  either_response above r = either_at above r.closed r.answered r
