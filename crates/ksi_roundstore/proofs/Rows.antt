-- The texts of the facts that rows store.
use Rattle.std.proofs.Common.{◌≡◌, ℕ, Bool, true, false, if◌then◌else◌, List, [], ◌∷◌, is_some, Option, Some, None, IfSome, refl}
use Rattle.ksi_aggtree.specs.declared.item.Item.{Item}
use Rattle.ksi_aggtree.specs.declared.entries.Entry.{Entry}
use Rattle.ksi_aggtree.specs.Entries.{has_from, is_full}
use Rattle.ksi_signature.specs.declared.above.Above.{Above}
use Rattle.ksi_signature.specs.declared.answer.Answer.TheVariants as answers
use Rattle.ksi_aggregator.specs.declared.event.RoundEvent.TheVariants as events
use Rattle.ksi_aggregator.specs.declared.fact.RoundFact.TheVariants.{Closed}
use Rattle.ksi_aggregator.specs.Rounds.{fact_of}
use Rattle.ksi_aggregator.specs.Rows.{RoundState, RoundTurn, round_still, round_added, request_entry, submitted_entry, closed_now, round_request, round_submission, round_close, response_where, round_response}
use Rattle.ksi_roundstore.specs.Texts.{fact_text, lines_of, what_text}

either_none : (b : Bool) (one other : RoundTurn) → one.fact ≡ None → other.fact ≡ None → (if b then one else other).fact ≡ None
either_none true one other first second = first
either_none false one other first second = second

pub request_none : (number : ℕ) (imprint : List ℕ) (name : Option (List ℕ)) (r : RoundState) → (round_request number imprint name r).fact ≡ None
unfolding round_request
request_none number imprint name r =
    either_none (is_some r.closed) (round_still r answers.Late) _ refl (either_none (is_full r.open_items) (round_still r answers.Full) (round_added r (request_entry number imprint name) (answers.Number number)) refl refl)

pub submission_none : (from : ℕ) (item : Item) (r : RoundState) → (round_submission from item r).fact ≡ None
unfolding round_submission
submission_none from item r =
    either_none (is_some r.closed) (round_still r answers.Late) _ refl
    (either_none (has_from from r.open_items) (round_still r answers.Known) _ refl (either_none (is_full r.open_items) (round_still r answers.Full) (round_added r (submitted_entry from item) answers.Done) refl refl))

close_either : (image : List ℕ → List ℕ) (r : RoundState) (second : ℕ) (text : List ℕ) → text ≡ what_text second (Closed r.open_items) → (b : Bool) → IfSome (if b then round_still r answers.Closed else closed_now image r).fact (λ what. text ≡ fact_text (fact_of second what))
close_either image r second text is true = tt
close_either image r second text is false = is

-- a closing stores the open items
pub close_text : (image : List ℕ → List ℕ) (r : RoundState) (second : ℕ) (text : List ℕ) → text ≡ what_text second (Closed r.open_items) → IfSome (round_close image r).fact (λ what. text ≡ fact_text (fact_of second what))
unfolding round_close
close_text image r second text is = close_either image r second text is (is_some r.closed)

response_which : (image : List ℕ → List ℕ) (above : Above) (closed : Option (List Entry)) (answered : Option Above) (r : RoundState) (second : ℕ) (text : List ℕ) → text ≡ lines_of (events.Response second above ∷ [])
    → IfSome (response_where image above closed answered r).fact (λ what. text ≡ fact_text (fact_of second what))
response_which image above None answered r second text is = tt
response_which image above (Some []) answered r second text is = tt
response_which image above (Some (entry ∷ entries)) (Some first) r second text is = tt
response_which image above (Some (entry ∷ entries)) None r second text is = is

-- a response stores what stands above
pub response_text : (image : List ℕ → List ℕ) (above : Above) (r : RoundState) (second : ℕ) (text : List ℕ) → text ≡ lines_of (events.Response second above ∷ []) → IfSome (round_response image above r).fact (λ what. text ≡ fact_text (fact_of second what))
unfolding round_response
response_text image above r second text is = response_which image above r.closed r.answered r second text is
