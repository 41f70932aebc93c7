-- Weights: how many deliveries a message leads to at most, itself among them, where each message is delivered twice.
use Rattle.ksi_schedule.specs.Plans.{core_plan_of}
use Rattle.ksi_replay.specs.Generate.{header}
use Rattle.std.proofs.Common.{◌≡◌, ℕ, zero, suc, ◌+◌, ◌*◌, ◌≤◌, Bool, true, false, List, [], ◌∷◌, ◌++◌, map, Option, Some, None, refl, arith}
use Rattle.ksi_synod.specs.declared.messages.LastVote.{LastVote}
use Rattle.ksi_synod.specs.declared.messages.SynodMessage.{SynodMessage}
use Rattle.ksi_synod.specs.declared.messages.SynodMessage.TheVariants as message
use Rattle.ksi_synod.specs.declared.messages.Begun.{Begun}
use Rattle.ksi_synod.specs.declared.messages.Begun.TheVariants as begun
use Rattle.ksi_synod.specs.declared.messages.Took.{Took}
use Rattle.ksi_synod.specs.declared.messages.Took.TheVariants as took
use Rattle.ksi_synod.specs.VoteState.{VoteState}
use Rattle.ksi_synod.specs.Rows.{ballot_told, held_told, on_next, on_last, on_begin, on_voted, promise_told, decree_begun, vote_told, decree_told, receive}
use Rattle.ksi_aggtree.specs.declared.item.Item.{Item}
use Rattle.ksi_aggtree.specs.declared.entries.Entry.{Entry}
use Rattle.ksi_aggtree.specs.declared.entries.Origin.{Origin}
use Rattle.ksi_aggtree.specs.declared.entries.Origin.TheVariants as origins
use Rattle.ksi_signature.specs.declared.above.Above.{Above}
use Rattle.ksi_corenode.specs.Turns.{told}
use Rattle.ksi_corenode.specs.Rows as rows
use Rattle.ksi_aggregator.specs.Responses as answers
use Rattle.ksi_schedule.specs.declared.actor.Actor.{Actor}
use Rattle.ksi_schedule.specs.declared.actor.Actor.TheVariants as actors
use Rattle.ksi_schedule.specs.Plans.{PlanState}
use Rattle.ksi_world.specs.declared.message.Content.{Content}
use Rattle.ksi_world.specs.declared.message.Content.TheVariants as contents
use Rattle.ksi_world.specs.declared.message.Message.{Message}
use Rattle.ksi_world.specs.Histories.{core_message, round_message}

-- ---- what one delivery leads to

-- of a response to an aggregator: one goes on to the aggregator below it, if there is one
abbrev pub led_below : (aggregator : ℕ) → ℕ
led_below zero = 3
led_below (suc zero) = 1
led_below (suc (suc zero)) = 0
led_below (suc (suc (suc zero))) = 1
led_below (suc (suc (suc (suc k)))) = 0

pub led_below_few : (k : ℕ) → led_below k ≤ 3
led_below_few zero = omega arith
led_below_few (suc zero) = omega arith
led_below_few (suc (suc zero)) = omega arith
led_below_few (suc (suc (suc zero))) = omega arith
led_below_few (suc (suc (suc (suc k)))) = omega arith

abbrev pub led_by_vote : SynodMessage → ℕ
led_by_vote (message.NextBallot b) = 91
led_by_vote (message.LastVote l) = 45
led_by_vote (message.BeginBallot b d) = 7
led_by_vote (message.Voted b) = 3
led_by_vote (message.Success d) = 0

abbrev pub led_by : (addressee : Actor) → Content → ℕ
led_by to (contents.Synod m) = led_by_vote m
led_by to (contents.Submission item) = 0
led_by (actors.Core j) (contents.Response above) = 0
led_by (actors.Aggregator k) (contents.Response above) = led_below k

abbrev pub weight : Message → ℕ
weight m = 1 + 2 * led_by m.addressee m.content

abbrev pub heavy : List Message → ℕ
heavy [] = 0
heavy (m ∷ ms) = weight m + heavy ms

pub heavy_both : (xs ys : List Message) → heavy (xs ++ ys) ≡ heavy xs + heavy ys
heavy_both [] ys = omega arith
heavy_both (x ∷ xs) ys = omega (arith, heavy_both xs ys)

-- ---- the votes

-- all that goes out where a vote's message is to be sent
abbrev pub sent_by : Option SynodMessage → ℕ
sent_by None = 0
sent_by (Some (message.NextBallot b)) = 549
sent_by (Some (message.LastVote l)) = 91
sent_by (Some (message.BeginBallot b d)) = 45
sent_by (Some (message.Voted b)) = 7
sent_by (Some (message.Success d)) = 3

pub heavy_told : (j t from : ℕ) (o : Option SynodMessage) → heavy (map (core_message j t) (told (core_plan_of header) t from o)) ≡ sent_by o
heavy_told j t from None = refl
heavy_told j t from (Some (message.NextBallot b)) = refl
heavy_told j t from (Some (message.LastVote l)) = refl
heavy_told j t from (Some (message.BeginBallot b d)) = refl
heavy_told j t from (Some (message.Voted b)) = refl
heavy_told j t from (Some (message.Success d)) = refl

promised : (o : Option LastVote) → sent_by (promise_told o) ≤ 91
promised None = omega arith
promised (Some l) = omega arith

begins : (b : ℕ) (o : Took) → sent_by (decree_begun b o) ≤ 45
begins b took.Nothing = omega arith
begins b took.Added = omega arith
begins b (took.Decree d) = omega arith

votes : (b : ℕ) (o : Bool) → sent_by (vote_told b o) ≤ 7
votes b true = omega arith
votes b false = omega arith

succeeds : (o : Took) → sent_by (decree_told o) ≤ 3
succeeds took.Nothing = omega arith
succeeds took.Added = omega arith
succeeds (took.Decree d) = omega arith

pub led_by_received : (v : VoteState) (from : ℕ) (m : SynodMessage) → sent_by (receive v from m).1 ≤ led_by_vote m
unfolding receive
led_by_received v from (message.NextBallot b) = promised (on_next v b).1
led_by_received v from (message.LastVote l) = begins l.ballot (on_last v from l.ballot l.vote).1
led_by_received v from (message.BeginBallot b d) = votes b (on_begin v b d).1
led_by_received v from (message.Voted b) = succeeds (on_voted v from b).1
led_by_received v from (message.Success d) = omega arith

pub led_by_ballot : (o : Begun) → sent_by (ballot_told o) ≤ 549
led_by_ballot begun.Unsealed = omega arith
led_by_ballot begun.Last = omega arith
led_by_ballot (begun.Next b) = omega arith

pub led_by_tell : (o : Option (List ℕ)) → sent_by (held_told o) ≤ 3
led_by_tell None = omega arith
led_by_tell (Some d) = omega arith

-- ---- the responses

-- of the response that goes to where an item came from
abbrev pub share : Origin → ℕ
share (origins.Request number) = 0
share (origins.Aggregator from) = 1 + 2 * led_below from

abbrev pub down : List Entry → ℕ
down [] = 0
down (entry ∷ entries) = share entry.origin + down entries

pub down_more : (es : List Entry) (e : Entry) → down (es ++ e ∷ []) ≡ down es + share e.origin
down_more [] e = omega arith
down_more (x ∷ es) e = omega (arith, down_more es e)

pub heavy_core : (j t k : ℕ) (above : ℕ → Above) (es : List Entry) → heavy (map (core_message j t) (rows.responses_from above k es)) ≡ down es
heavy_core j t k above [] = refl
heavy_core j t k above (e ∷ es) = by e.origin (heavy_core j t (suc k) above es)
  where
    by : (o : Origin) → heavy (map (core_message j t) (rows.responses_from above (suc k) es)) ≡ down es → heavy (map (core_message j t) (rows.response_to o (above k) ++ rows.responses_from above (suc k) es)) ≡ share o + down es
    by (origins.Request number) rest = omega (arith, rest)
    by (origins.Aggregator from) rest = omega (arith, rest)

module _ (image : List ℕ → List ℕ) (plan : PlanState) (j t : ℕ) (above : Above) (items : List Item) where
  pub heavy_round : (k : ℕ) (es : List Entry) → heavy (map (round_message plan j t) (answers.responses_from image k above items es)) ≡ down es
  heavy_round k [] = refl
  heavy_round k (e ∷ es) = by e.origin (heavy_round (suc k) es)
    where
      by : (o : Origin) → heavy (map (round_message plan j t) (answers.responses_from image (suc k) above items es)) ≡ down es → heavy (map (round_message plan j t) (answers.told_to o (answers.below image above items k) ++ answers.responses_from image (suc k) above items es)) ≡ share o + down es
      by (origins.Request number) rest = omega (arith, rest)
      by (origins.Aggregator from) rest = omega (arith, rest)
