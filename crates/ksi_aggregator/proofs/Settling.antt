-- A settled round stays as it is.
use Rattle.std.proofs.Common.{◌≡◌, ◌∙◌, ℕ, ◌<◌, Bool, true, false, List, [], ◌∷◌, length, Option, Some, None, refl, sym, ap, subst, arith}
use Rattle.std.specs.Prelude.{if◌then◌else◌, is_some}
use Rattle.std.proofs.lemmas.Option.{none-some}
use Rattle.std.proofs.lemmas.Bool.{cond_both, false≢true}
use Rattle.ksi_aggtree.specs.declared.item.Item.{Item}
use Rattle.ksi_aggtree.specs.declared.entries.Entry.{Entry}
use Rattle.ksi_aggtree.specs.Entries.{has_from, is_full}
use Rattle.ksi_signature.specs.declared.above.Above.{Above}
use Rattle.ksi_signature.specs.declared.answer.Answer.TheVariants as answers
use Rattle.ksi_aggregator.specs.declared.event.RoundEvent.{RoundEvent}
use Rattle.ksi_aggregator.specs.declared.event.RoundEvent.TheVariants as events
use Rattle.ksi_aggregator.specs.Events.{round_row}
use Rattle.ksi_aggregator.specs.Refusals.{AwaitsResponse}
use Rattle.ksi_aggregator.specs.Rows.{RoundState, RoundTurn, fresh_round, round_still, round_request, round_submission, round_close, closed_now, response_where, round_response, round_restarted}
use Rattle.ksi_aggregator.specs.Settled.{IsSettled, settled_answer}

module _ (r : RoundState) (settled : IsSettled r) where
  not_open : is_some r.closed ≡ false → ⊥
  not_open unclosed = false≢true (sym unclosed ∙ ap (λ (o : Option (List Entry)). is_some o) settled.closed)

  request_still : (number : ℕ) (imprint : List ℕ) (name : Option (List ℕ)) → round_request number imprint name r ≡ round_still r answers.Late
  unfolding round_request
  request_still number imprint name = cond_both (is_some r.closed) _ _ (λ (turn : RoundTurn). turn ≡ round_still r answers.Late) (λ _. refl) (λ unclosed. absurd (not_open unclosed))

  submission_still : (from : ℕ) (item : Item) → round_submission from item r ≡ round_still r answers.Late
  unfolding round_submission
  submission_still from item = cond_both (is_some r.closed) _ _ (λ (turn : RoundTurn). turn ≡ round_still r answers.Late) (λ _. refl) (λ unclosed. absurd (not_open unclosed))

  close_still : (image : List ℕ → List ℕ) → round_close image r ≡ round_still r answers.Closed
  unfolding round_close
  close_still image = cond_both (is_some r.closed) _ _ (λ (turn : RoundTurn). turn ≡ round_still r answers.Closed) (λ _. refl) (λ unclosed. absurd (not_open unclosed))

  response_still : (image : List ℕ → List ℕ) (above : Above) → round_response image above r ≡ round_still r answers.Nothing
  unfolding round_response
  response_still image above = by r.closed r.answered refl refl
    where
      by : (closed : Option (List Entry)) (answered : Option Above) → r.closed ≡ closed → r.answered ≡ answered → response_where image above closed answered r ≡ round_still r answers.Nothing
      by None answered is first = refl
      by (Some []) answered is first = refl
      by (Some (entry ∷ entries)) (Some other) is first = refl
      by (Some (entry ∷ entries)) None is first = absurd (cc (sym is ∙ settled.closed, settled.done first))

  pub restart_still : round_restarted r ≡ r
  restart_still = cond_both (is_some r.closed) r fresh_round (λ (x : RoundState). x ≡ r) (λ _. refl) (λ unclosed. absurd (not_open unclosed))

pub event_still : (image : List ℕ → List ℕ) (event : RoundEvent) (r : RoundState) → IsSettled r → round_row image event r ≡ round_still r (settled_answer event)
event_still image (events.Request number second imprint name) r settled = request_still r settled number imprint name
event_still image (events.Submission from second item) r settled = submission_still r settled from item
event_still image (events.Close second) r settled = close_still r settled image
event_still image (events.Response second above) r settled = response_still r settled image above

pub answered_settles : (image : List ℕ → List ℕ) (second : ℕ) (above : Above) (r : RoundState) → AwaitsResponse r → IsSettled (round_row image (events.Response second above) r).after
unfolding round_response
answered_settles image second above r waits = by r.closed r.answered refl refl
  where
    by : (closed : Option (List Entry)) (answered : Option Above) → r.closed ≡ closed → r.answered ≡ answered → IsSettled (response_where image above closed answered r).after
    by None answered is first = absurd (none-some waits.entries (sym is ∙ waits.closed))
    by (Some []) answered is first = absurd (no_items waits.entries waits.some (sym is ∙ waits.closed))
      where
        no_items : (entries : List Entry) → 0 < length entries → Some [] ≡ Some entries → ⊥
        no_items [] some same = omega (arith, some)
        no_items (x ∷ xs) some same = cc same
    by (Some (entry ∷ entries)) (Some other) is first = absurd (none-some other (sym waits.answered ∙ first))
    by (Some (entry ∷ entries)) None is first = record { entries = entry ∷ entries; closed = is; done = λ none. absurd (none-some above (sym none)) }

pub empty_settles : (image : List ℕ → List ℕ) (second : ℕ) (r : RoundState) → r.closed ≡ None → r.open_items ≡ [] → IsSettled (round_row image (events.Close second) r).after
unfolding round_close
empty_settles image second r unclosed empty =
    cond_both (is_some r.closed) _ _ (λ (turn : RoundTurn). IsSettled turn.after)
    (λ closed. absurd (false≢true (sym (ap (λ (o : Option (List Entry)). is_some o) unclosed) ∙ closed)))
    (λ _. record { entries = r.open_items; closed = refl; done = λ _. empty })
