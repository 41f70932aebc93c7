-- An aggregator's round of one second, and each row of the step table as a function of it.
use Rattle.std.specs.Prelude.{ℕ, if◌then◌else◌, List, [], ◌∷◌, ◌++◌, is_some, Option, Some, None}
use Rattle.ksi_aggtree.specs.declared.item.Item.{Item}
use Rattle.ksi_aggtree.specs.declared.entries.Origin.TheVariants as origins
use Rattle.ksi_aggtree.specs.declared.entries.Entry.{Entry}
use Rattle.ksi_aggtree.specs.Rounds.{as_item, tree_of}
use Rattle.ksi_aggtree.specs.Entries.{items_of, has_from, is_full}
use Rattle.ksi_signature.specs.declared.above.Above.{Above}
use Rattle.ksi_signature.specs.declared.answer.Answer.{Answer}
use Rattle.ksi_signature.specs.declared.answer.Answer.TheVariants as answers
use Rattle.ksi_aggregator.specs.declared.fact.RoundFact.{RoundFact}
use Rattle.ksi_aggregator.specs.declared.fact.RoundFact.TheVariants as what
use Rattle.ksi_aggregator.specs.declared.step.Send.{Send}
use Rattle.ksi_aggregator.specs.declared.step.Send.TheVariants as sends
use Rattle.ksi_aggregator.specs.Responses.{responses}

-- what an aggregator keeps for one second: the items that are not closed yet, those that are, and the first response
pub record RoundState : Type 0 where
  pub open_items : List Entry
  pub closed : Option (List Entry)
  pub answered : Option Above

-- nothing came yet
abbrev pub fresh_round : RoundState
fresh_round = record { open_items = []; closed = None; answered = None }

-- what a step makes of a round: the round after it, the answer, what is stored for good, and what is sent
pub record RoundTurn : Type 0 where
  pub after : RoundState
  pub answer : Answer
  pub fact : Option RoundFact
  pub sends : List Send

-- nothing changes
abbrev pub round_still : RoundState → Answer → RoundTurn
round_still r answer = record { after = r; answer = answer; fact = None; sends = [] }

-- the entry is added
abbrev pub round_added : RoundState → Entry → Answer → RoundTurn
round_added r entry answer = record {
  after = record { open_items = r.open_items ++ entry ∷ []; closed = r.closed; answered = r.answered };
  answer = answer;
  fact = None;
  sends = [];
}

-- REQUEST of an imprint, of this number and with a name where it has one: it is an item of level 0

abbrev pub request_entry : ℕ → List ℕ → Option (List ℕ) → Entry
request_entry number imprint name = record { origin = origins.Request number; item = record { imprint = imprint; level = 0; name = name } }

-- Late where the round is closed; Full at 65,536 items; else the number
unfoldable pub round_request : (number : ℕ) → List ℕ → Option (List ℕ) → RoundState → RoundTurn
round_request number imprint name r =
    if is_some r.closed then round_still r answers.Late
    else if is_full r.open_items then round_still r answers.Full
    else round_added r (request_entry number imprint name) (answers.Number number)

-- SUBMISSION of an item by a lower aggregator

abbrev pub submitted_entry : ℕ → Item → Entry
submitted_entry from item = record { origin = origins.Aggregator from; item = item }

-- Late where the round is closed; Known where an item of that aggregator is there; Full at 65,536 items; else Done
unfoldable pub round_submission : (from : ℕ) → Item → RoundState → RoundTurn
round_submission from item r =
    if is_some r.closed then round_still r answers.Late
    else if has_from from r.open_items then round_still r answers.Known
    else if is_full r.open_items then round_still r answers.Full
    else round_added r (submitted_entry from item) answers.Done

-- RESTART

-- an open round is forgotten, and a closed one stays
abbrev pub round_restarted : RoundState → RoundState
round_restarted r = if is_some r.closed then r else fresh_round

module _ (image : List ℕ → List ℕ) where
  -- CLOSE: the open items are the closed ones, and their tree is submitted to the parent

  -- the item that the round's tree is submitted as, where it has items
  abbrev pub submission_of : List Entry → List Send
  submission_of [] = []
  submission_of (entry ∷ entries) = sends.Submission (as_item (tree_of image (items_of (entry ∷ entries)))) ∷ []

  -- the round from then on
  abbrev pub closed_now : RoundState → RoundTurn
  closed_now r = record {
    after = record { open_items = []; closed = Some r.open_items; answered = r.answered };
    answer = answers.Done;
    fact = Some (what.Closed r.open_items);
    sends = submission_of r.open_items;
  }

  -- Closed where it is closed, else Done
  unfoldable pub round_close : RoundState → RoundTurn
  round_close r = if is_some r.closed then round_still r answers.Closed else closed_now r

  -- RESPONSE: the first one to a closed round with items is kept, and each lower aggregator of the round has one in turn

  -- it is the first
  abbrev pub answered_now : Above → List Entry → RoundState → RoundTurn
  answered_now above entries r = record {
    after = record { open_items = r.open_items; closed = r.closed; answered = Some above };
    answer = answers.Done;
    fact = Some (what.Answered above);
    sends = responses image above entries;
  }

  -- Nothing where the round is not closed, has no items or has a response; else Done
  abbrev pub response_where : Above → Option (List Entry) → Option Above → RoundState → RoundTurn
  response_where above None answered r = round_still r answers.Nothing
  response_where above (Some []) answered r = round_still r answers.Nothing
  response_where above (Some (entry ∷ entries)) (Some first) r = round_still r answers.Nothing
  response_where above (Some (entry ∷ entries)) None r = answered_now above (entry ∷ entries) r

  unfoldable pub round_response : Above → RoundState → RoundTurn
  round_response above r = response_where above r.closed r.answered r
