-- The stable part of a round after a step is the one before with the step's fact.
use Rattle.std.proofs.Common.{◌≡◌, ◌∙◌, ℕ, Bool, true, false, List, [], ◌∷◌, Option, Some, None, refl, sym, ap}
use Rattle.std.specs.Prelude.{◌==◌, if◌then◌else◌, is_some, option_map}
use Rattle.std.proofs.lemmas.Bool.{cond_both, eqb-true}
use Rattle.ksi_aggtree.specs.declared.item.Item.{Item}
use Rattle.ksi_aggtree.specs.declared.entries.Entry.{Entry}
use Rattle.ksi_aggtree.specs.Entries.{has_from, is_full}
use Rattle.ksi_signature.specs.declared.above.Above.{Above}
use Rattle.ksi_signature.specs.declared.answer.Answer.TheVariants as answers
use Rattle.ksi_aggregator.specs.declared.fact.RoundFact.{RoundFact}
use Rattle.ksi_aggregator.specs.declared.fact.Fact.{Fact}
use Rattle.ksi_aggregator.specs.declared.step.Step.{Step}
use Rattle.ksi_aggregator.specs.Rows.{RoundState, RoundTurn, fresh_round, round_still, round_added, request_entry, submitted_entry, round_request, round_submission, round_close, response_where, round_response, round_restarted}
use Rattle.ksi_aggregator.specs.Rounds.{fact_of, IsTurn}
use Rattle.ksi_aggregator.specs.Facts.{AnsweredLast, Stores, stable_round, with_what, with_stored, with_fact}

-- WHAT COMES IN stores and sends nothing

-- what is so of each outcome of a request
request_all : (P : RoundTurn → Type 0) (number : ℕ) (imprint : List ℕ) (name : Option (List ℕ)) (r : RoundState) →
    P (round_still r answers.Late) → P (round_still r answers.Full) → P (round_added r (request_entry number imprint name) (answers.Number number)) → P (round_request number imprint name r)
unfolding round_request
request_all P number imprint name r late full added =
    cond_both (is_some r.closed) _ _ P (λ _. late) (λ _. cond_both (is_full r.open_items) _ _ P (λ _. full) (λ _. added))

-- what is so of each outcome of a submission
submission_all : (P : RoundTurn → Type 0) (from : ℕ) (item : Item) (r : RoundState) →
    P (round_still r answers.Late) → P (round_still r answers.Known) → P (round_still r answers.Full) → P (round_added r (submitted_entry from item) answers.Done) → P (round_submission from item r)
unfolding round_submission
submission_all P from item r late known full added =
    cond_both (is_some r.closed) _ _ P (λ _. late) (λ _. cond_both (has_from from r.open_items) _ _ P (λ _. known) (λ _. cond_both (is_full r.open_items) _ _ P (λ _. full) (λ _. added)))

pub request_fact : (number : ℕ) (imprint : List ℕ) (name : Option (List ℕ)) (r : RoundState) → (round_request number imprint name r).fact ≡ None
request_fact number imprint name r = request_all (λ (turn : RoundTurn). turn.fact ≡ None) number imprint name r refl refl refl

pub request_sends : (number : ℕ) (imprint : List ℕ) (name : Option (List ℕ)) (r : RoundState) → (round_request number imprint name r).sends ≡ []
request_sends number imprint name r = request_all (λ (turn : RoundTurn). turn.sends ≡ []) number imprint name r refl refl refl

pub submission_fact : (from : ℕ) (item : Item) (r : RoundState) → (round_submission from item r).fact ≡ None
submission_fact from item r = submission_all (λ (turn : RoundTurn). turn.fact ≡ None) from item r refl refl refl refl

pub submission_sends : (from : ℕ) (item : Item) (r : RoundState) → (round_submission from item r).sends ≡ []
submission_sends from item r = submission_all (λ (turn : RoundTurn). turn.sends ≡ []) from item r refl refl refl refl

-- THE ROWS

pub request_stores : (number : ℕ) (imprint : List ℕ) (name : Option (List ℕ)) (r : RoundState) → Stores r (round_request number imprint name r)
request_stores number imprint name r = request_all (Stores r) number imprint name r refl refl refl

pub submission_stores : (from : ℕ) (item : Item) (r : RoundState) → Stores r (round_submission from item r)
submission_stores from item r = submission_all (Stores r) from item r refl refl refl refl

pub close_stores : (image : List ℕ → List ℕ) (r : RoundState) → Stores r (round_close image r)
unfolding round_close
close_stores image r = cond_both (is_some r.closed) _ _ (λ (turn : RoundTurn). Stores r turn) (λ _. refl) (λ _. refl)

pub response_stores : (image : List ℕ → List ℕ) (above : Above) (r : RoundState) → Stores r (round_response image above r)
unfolding round_response
response_stores image above r = by r.closed r.answered
  where
    by : (closed : Option (List Entry)) (answered : Option Above) → Stores r (response_where image above closed answered r)
    by None answered = refl
    by (Some []) answered = refl
    by (Some (entry ∷ entries)) (Some first) = refl
    by (Some (entry ∷ entries)) None = refl

pub restart_leaves : (r : RoundState) → AnsweredLast r → stable_round (round_restarted r) ≡ stable_round r
restart_leaves r last = by r.closed r.answered last
  where
    by : (closed : Option (List Entry)) (answered : Option Above) → (closed ≡ None → answered ≡ None) →
        stable_round (if is_some closed then (record r { closed = closed; answered = answered }) else fresh_round) ≡ record { closed = closed; answered = answered }
    by (Some entries) answered so = refl
    by None answered so = ap (λ (o : Option Above). record { closed = None; answered = o }) (sym (so refl))

-- A STEP

-- what a turn stores, its step does, and no other second is another
pub turn_stores : (old new : ℕ → RoundState) (second : ℕ) (turn : RoundTurn) (step : Step) → IsTurn old new second turn step → Stores (old second) turn →
    (t : ℕ) → stable_round (new t) ≡ with_fact step.fact t (stable_round (old t))
turn_stores old new second turn step is stores t =
    ap stable_round (is.after t) ∙ by turn.fact stores
    ∙ ap (λ (fact : Option Fact). with_fact fact t (stable_round (old t))) (sym is.fact)
  where
    here : t == second ≡ true → stable_round (old second) ≡ stable_round (old t)
    here same = ap (λ (u : ℕ). stable_round (old u)) (sym (eqb-true t second same))

    by : (o : Option RoundFact) → stable_round turn.after ≡ with_stored o (stable_round (old second)) →
        stable_round (if t == second then turn.after else old t) ≡ with_fact (option_map (fact_of second) o) t (stable_round (old t))
    by None so = cond_both (t == second) turn.after (old t) (λ (r : RoundState). stable_round r ≡ stable_round (old t)) (λ same. so ∙ here same) (λ _. refl)
    by (Some w) so = both (t == second) refl
      where
        both : (b : Bool) → (t == second) ≡ b → stable_round (if b then turn.after else old t) ≡ (if b then with_what w (stable_round (old t)) else stable_round (old t))
        both true same = so ∙ ap (with_what w) (here same)
        both false other = refl
