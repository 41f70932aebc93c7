-- The line of each message of a history is one that its addressee takes.
use Rattle.std.proofs.Common.{◌≡◌, ℕ, zero, suc, ◌+◌, ◌*◌, ◌<◌, ◌≤◌, List, [], ◌∷◌, length, refl, sym, ap, subst, ◌∙◌, arith, Option, Some, None, Ok}
use Rattle.std.specs.Prelude.{slice_get, drop, IfSome}
use Rattle.std.specs.List.{AllByRecursion}
use Rattle.std.proofs.lemmas.List.Elements.{recursion_from_All}
use Rattle.hex.specs.Hex.{IsBytes}
use Rattle.ksi_imprint.proofs.HexDigits.{hex_at-encode_lower, digest_behind}
use Rattle.ksi_tlv.specs.Spelling.{AreBytes}
use Rattle.ksi_split.specs.declared.tree_link.TreeLink.{TreeLink}
use Rattle.ksi_calendar.specs.Covered.{covered_seconds}
use Rattle.ksi_aggtree.specs.declared.item.Item.{Item}
use Rattle.ksi_aggtree.specs.Rounds.{as_node}
use Rattle.ksi_aggtree.specs.declared.chains.node.Node.{Node}
use Rattle.ksi_synod.specs.declared.messages.Vote.{Vote}
use Rattle.ksi_synod.specs.declared.messages.SynodMessage.{SynodMessage}
use Rattle.ksi_synod.specs.declared.messages.SynodMessage.TheVariants as message
use Rattle.ksi_signature.specs.declared.above.Above.{Above}
use Rattle.ksi_signature.specs.declared.above.AboveChain.{AboveChain}
use Rattle.ksi_signature.specs.Above.{AreRoundLinks}
use Rattle.ksi_signature.specs.Carried.{MayBeIssued, IsOfBytes}
use Rattle.ksi_signature.specs.File.{IsSignature}
use Rattle.ksi_signature.specs.Issued.{issued}
use Rattle.ksi_signature.specs.Written.{signature_text}
use Rattle.ksi_aggtree.specs.declared.chains.link.Link.{Link}
use Rattle.ksi_corenode.specs.declared.event.CoreEvent.TheVariants as core_events
use Rattle.ksi_aggregator.specs.declared.event.RoundEvent.TheVariants as round_events
use Rattle.ksi_schedule.specs.Plans.{PlanState, InRange, IsPlan, ReachesCore, parent_of}
use Rattle.ksi_schedule.specs.Events.{AreEvents}
use Rattle.ksi_schedule.specs.declared.actor.Actor.{Actor}
use Rattle.ksi_schedule.specs.declared.actor.Actor.TheVariants as actors
use Rattle.ksi_schedule.specs.declared.event.Event.{Event}
use Rattle.ksi_world.specs.declared.message.Content.{Content}
use Rattle.ksi_world.specs.declared.message.Content.TheVariants as contents
use Rattle.ksi_world.specs.declared.message.Message.{Message}
use Rattle.ksi_world.specs.Histories.{WorldState, after, held_in}
use Rattle.ksi_world.specs.Sound.{depth_of, depth_within, IsSent}
use Rattle.ksi_world.proofs.Carrying.{RoundLaws, IsCarried, AskFor, after_all}
use Rattle.ksi_world.proofs.Deciding.{after_sound}
use Rattle.ksi_world.proofs.Depths.{depth_most}
use Rattle.ksi_world.proofs.Imprinted.{OfChain, EachSibling, calendar_siblings}
use Rattle.ksi_world.proofs.IssuedCarried.{CalendarShort, IsIssuedOf}
use Rattle.ksi_world.proofs.IssuedJoined.{after_joined}
use Rattle.ksi_world.proofs.Joining.{IsClosedAs, IsSo, Joins}
use Rattle.ksi_world.proofs.Sending.{TreeRises}
use Rattle.ksi_world.proofs.KeptOf.{Both, issued_bytes, issued_imprints, is_of_bytes, may_be_issued}
use Rattle.ksi_wire.specs.declared.event.AggregatorLine.TheVariants as lines
use Rattle.ksi_wire.specs.Asked.{core_event_of}
use Rattle.ksi_wire.specs.AskedRounds.{aggregator_line_of}
use Rattle.ksi_wire.specs.Lines.{core_words}
use Rattle.ksi_wire.specs.RoundLines.{asked_words}
use Rattle.ksi_wire.specs.Responses.{input_of, IsTold}
use Rattle.ksi_wire.specs.Taken.{ComesToAggregator, ComesToCore, IsCast, IsDigest, IsSubmitted, IsVote}
use Rattle.ksi_schedule.specs.Printed.{line_of}
use Rattle.ksi_corenode.specs.declared.event.CoreEvent.{CoreEvent}
use Rattle.ksi_wire.specs.declared.event.AggregatorLine.{AggregatorLine}
use Rattle.ksi_laws_records.specs.Messages.{FitsLine, HasSeven, IsTakenAs, content_line}
use Rattle.ksi_laws_records.proofs.Votes.{IsCastSo, IsSaidSo}
use Rattle.ksi_laws_records.proofs.Shortness.{response_short, submission_short, vote_short}
use Rattle.ksi_laws_records.proofs.Decrees.{IsContentSo, after_so}

-- ---- digests

each_byte : (bytes : List ℕ) → AllByRecursion (λ b. b < 256) bytes → IsBytes bytes
each_byte [] are zero = omega arith
each_byte [] are (suc i) = omega arith
each_byte (b ∷ bytes) are zero = are.0
each_byte (b ∷ bytes) are (suc i) = each_byte bytes are.1 i

behind_bytes : (bytes : List ℕ) → IsBytes bytes → IsBytes (drop 1 bytes)
behind_bytes [] are i = are i
behind_bytes (b ∷ bytes) are i = are (suc i)

behind_long : (bytes : List ℕ) → length bytes ≡ 33 → length (drop 1 bytes) ≡ 32
behind_long [] size = absurd (omega (arith, size))
behind_long (b ∷ bytes) size = omega (arith, size)

digest_is : (imprint : List ℕ) → Both imprint → IsDigest imprint
digest_is imprint is =
    hex_at-encode_lower (drop 1 imprint) (behind_bytes imprint (each_byte imprint (recursion_from_All (λ b. b < 256) imprint is.1))) (behind_long imprint is.0.size)
    ∙ ap Ok (digest_behind imprint is.0.algorithm is.0.size)

-- ---- votes

cast_is : (plan : PlanState) (o : Option Vote) → IfSome o (IsCastSo Both plan.cores) → IfSome o (IsCast plan)
cast_is plan None is = tt
cast_is plan (Some vote) is = (is.0, digest_is vote.imprint is.1)

vote_is : (plan : PlanState) (m : SynodMessage) → IsSaidSo Both plan.cores m → IsVote plan m
vote_is plan (message.NextBallot b) is = is
vote_is plan (message.LastVote l) is = (is.0, cast_is plan l.vote is.1)
vote_is plan (message.BeginBallot b d) is = (is.0, digest_is d is.1)
vote_is plan (message.Voted b) is = is
vote_is plan (message.Success d) is = digest_is d is

-- ---- depths

within_most : (plan : PlanState) (n : ℕ) (a : Actor) → depth_within plan n a ≤ n
unfolding depth_within
within_most plan n (actors.Core j) = omega arith
within_most plan zero (actors.Aggregator k) = omega arith
within_most plan (suc n) (actors.Aggregator k) = omega (arith, within_most plan n (parent_of plan k))

within_more : (plan : PlanState) (n : ℕ) (a : Actor) → ReachesCore plan n a → depth_within plan (suc n) a ≡ depth_within plan n a
unfolding depth_within ReachesCore
within_more plan n (actors.Core j) r = refl
within_more plan zero (actors.Aggregator k) r = absurd r
within_more plan (suc n) (actors.Aggregator k) r = ap suc (within_more plan n (parent_of plan k) r)

seven_deep : (plan : PlanState) (k : ℕ) → ReachesCore plan 7 (actors.Aggregator k) → depth_of plan (actors.Aggregator k) ≤ 7
unfolding depth_of
seven_deep plan k r = omega (arith, within_more plan 7 (actors.Aggregator k) r, within_most plan 7 (actors.Aggregator k))

fits_by : (plan : PlanState) → HasSeven plan → (sender addressee : Actor) (content : Content) → IsSent plan sender addressee content → FitsLine content
fits_by plan seven sender addressee (contents.Synod m) sent = tt
fits_by plan seven sender addressee (contents.Submission item) sent = tt
fits_by plan seven (actors.Core from) (actors.Core to) (contents.Response above) sent = absurd sent
fits_by plan seven (actors.Aggregator from) (actors.Core to) (contents.Response above) sent = absurd sent
fits_by plan seven (actors.Core from) (actors.Aggregator to) (contents.Response above) sent = omega (arith, sent.1, seven_deep plan to (seven to sent.0))
fits_by plan seven (actors.Aggregator from) (actors.Aggregator to) (contents.Response above) sent = omega (arith, sent.1, seven_deep plan to (seven to sent.0))

-- ---- what a response leads from

input_is : (above : Above) → Both above.root → AllByRecursion (OfChain Both) above.chains → Both (input_of above)
input_is above root chains = by above.chains chains
  where
    by : (chains : List AboveChain) → AllByRecursion (OfChain Both) chains → Both (Rattle.ksi_wire.specs.Responses.input_in above.root chains)
    by [] of = root
    by (lowest ∷ others) of = of.0.input

links_of : (chains : List AboveChain) → AllByRecursion (OfChain Both) chains → AllByRecursion (λ chain. AreRoundLinks chain.links) chains
links_of [] of = tt
links_of (chain ∷ chains) of = (of.0.limits, links_of chains of.1)

-- the laws of what is issued
pub record IssuedLaws : Type 0 where
  pub signature : (second : ℕ) (input : List ℕ) (links : List Link) (above : Above) → MayBeIssued second input links above →
      IsSignature (signature_text (issued second input links above)) (issued second input links above)
  pub bytes : (second : ℕ) (input : List ℕ) (links : List Link) (above : Above) → MayBeIssued second input links above →
      IsOfBytes input links above → AreBytes (signature_text (issued second input links above))
  pub short : (second : ℕ) (input : List ℕ) (links : List Link) (above : Above) → MayBeIssued second input links above → length (signature_text (issued second input links above)) ≤ 10000

-- the laws of printed lines
pub record LineLaws : Type 0 where
  pub core : (plan : PlanState) (me : ℕ) (event : CoreEvent) → IsPlan plan → ComesToCore plan me event → core_event_of plan me (line_of (core_words event)) ≡ Ok event
  pub aggregator : (plan : PlanState) (me : ℕ) (asked : AggregatorLine) → IsPlan plan → ComesToAggregator plan me asked → aggregator_line_of plan me (line_of (asked_words asked)) ≡ Ok asked

module _ (image : List ℕ → List ℕ) (plan : PlanState) (is : IsPlan plan) (laws : RoundLaws Both image) (brief : CalendarShort image) (issue : IssuedLaws) (print : LineLaws)
    (es : List Event) (are : AreEvents plan es) (ask : AskFor Both es) where
  abbrev w : WorldState
  w = after image plan es

  submitted_is : (me : Actor) (from second : ℕ) (item : Item) → InRange plan second → (from < length plan.parents) × (me ≡ parent_of plan from) × (item.level + 17 * depth_of plan (actors.Aggregator from) ≤ 153)
      → IsCarried Both (contents.Submission item) → IsClosedAs image plan w from second item → IsSubmitted plan me from second item
  submitted_is me from second item range sent carried closed = record {
    there = sent.0;
    below = sym sent.1;
    in_range = range;
    digest = digest_is item.imprint carried.0;
    level = omega (arith, sent.2);
    named = sym (ap (λ (item : Item). item.name) closed.item_is);
  }

  -- a response is what a signature may be issued of, without links of an item's own
  issued_so : (second : ℕ) (above : Above) (node : Node) → InRange plan second → length above.chains ≤ 8 → AllByRecursion (OfChain Both) above.chains → Joins image plan w second node above → IsIssuedOf Both second (input_of above) [] above
  issued_so second above node range few carried joins = record {
    early = omega (arith, range.1, is.core_plan.early);
    imprint = input_is above (held_both second above.root joins.held) carried;
    limits = record { count = omega arith; lowest = tt; others = tt };
    are = tt;
    root = held_both second above.root joins.held;
    count = few;
    chains = carried;
    few = subst (λ (links : List (TreeLink (List ℕ))). length links ≤ 63) (sym joins.calendar) (brief (covered_seconds (held_in w joins.core) plan.start second) second second (omega (arith, range.1, is.core_plan.early)));
    calendar = subst (EachSibling Both) (sym joins.calendar) (calendar_siblings Both laws.zero_too image laws.images (held_in w joins.core) held_both plan.start second second second);
  }
    where
      held_both : (t : ℕ) (root : List ℕ) → held_in w joins.core t ≡ Some root → Both root
      held_both t root same = subst (λ (o : Option (List ℕ)). IfSome o Both) same ((after_so Both plan image is laws es are ask).votes joins.core t).held

  may_be : (second : ℕ) (above : Above) → IsIssuedOf Both second (input_of above) [] above → MayBeIssued second (input_of above) [] above
  may_be second above of = may_be_issued second (input_of above) [] above (issued_imprints second (input_of above) [] above of)

  told_is : (second : ℕ) (above : Above) → length above.chains ≤ 7 → AllByRecursion (OfChain Both) above.chains → IsIssuedOf Both second (input_of above) [] above → IsTold second above
  told_is second above few carried of = record {
    few = few;
    links = links_of above.chains carried;
    bytes = issue.bytes second (input_of above) [] above (may_be second above of) (is_of_bytes laws.names second (input_of above) [] above (issued_bytes second (input_of above) [] above of));
    again = issue.signature second (input_of above) [] above (may_be second above of);
  }

  taken_as : (sender addressee : Actor) (second : ℕ) (content : Content) → InRange plan second → IsSent plan sender addressee content → IsCarried Both content → IsContentSo Both plan content
      → IsSo image plan w sender addressee second content → FitsLine content → IsTakenAs plan sender addressee second content
  taken_as (actors.Core from) (actors.Core to) second (contents.Synod m) range sent carried so joined fits =
      print.core plan to (core_events.Receive from second m) is (sent.0, range, vote_is plan m so)
  taken_as (actors.Core from) (actors.Core to) second (contents.Submission item) range sent carried so joined fits = absurd sent
  taken_as (actors.Core from) (actors.Core to) second (contents.Response above) range sent carried so joined fits = absurd sent
  taken_as (actors.Core from) (actors.Aggregator to) second (contents.Synod m) range sent carried so joined fits = absurd sent
  taken_as (actors.Core from) (actors.Aggregator to) second (contents.Submission item) range sent carried so joined fits = absurd sent
  taken_as (actors.Core from) (actors.Aggregator to) second (contents.Response above) range sent carried so joined fits =
      print.aggregator plan to (lines.Event (round_events.Response second above)) is (range, told_is second above fits carried (issued_so second above (as_node joined.1.item) range (omega (arith, fits)) carried joined.1.joins))
  taken_as (actors.Aggregator from) (actors.Core to) second (contents.Synod m) range sent carried so joined fits = absurd sent
  taken_as (actors.Aggregator from) (actors.Core to) second (contents.Submission item) range sent carried so joined fits =
      print.core plan to (core_events.Submission from second item) is (submitted_is (actors.Core to) from second item range sent carried joined)
  taken_as (actors.Aggregator from) (actors.Core to) second (contents.Response above) range sent carried so joined fits = absurd sent
  taken_as (actors.Aggregator from) (actors.Aggregator to) second (contents.Synod m) range sent carried so joined fits = absurd sent
  taken_as (actors.Aggregator from) (actors.Aggregator to) second (contents.Submission item) range sent carried so joined fits =
      print.aggregator plan to (lines.Event (round_events.Submission from second item)) is (submitted_is (actors.Aggregator to) from second item range sent carried joined)
  taken_as (actors.Aggregator from) (actors.Aggregator to) second (contents.Response above) range sent carried so joined fits =
      print.aggregator plan to (lines.Event (round_events.Response second above)) is (range, told_is second above fits carried (issued_so second above (as_node joined.1.item) range (omega (arith, fits)) carried joined.1.joins))

  short_as : (sender addressee : Actor) (second : ℕ) (content : Content) → InRange plan second → IsSent plan sender addressee content → IsCarried Both content → IsContentSo Both plan content
      → IsSo image plan w sender addressee second content → length (content_line sender second content) ≤ 32000
  short_as (actors.Core from) (actors.Core to) second (contents.Synod m) range sent carried so joined =
      vote_short plan.cores from second m (omega (arith, sent.0, is.core_plan.few)) (omega (arith, range.1, is.core_plan.early)) so
  short_as (actors.Core from) (actors.Core to) second (contents.Submission item) range sent carried so joined = absurd sent
  short_as (actors.Core from) (actors.Core to) second (contents.Response above) range sent carried so joined = absurd sent
  short_as (actors.Core from) (actors.Aggregator to) second (contents.Synod m) range sent carried so joined = absurd sent
  short_as (actors.Core from) (actors.Aggregator to) second (contents.Submission item) range sent carried so joined = absurd sent
  short_as (actors.Core from) (actors.Aggregator to) second (contents.Response above) range sent carried so joined =
      response_short second above (omega (arith, range.1, is.core_plan.early)) (issue.short second (input_of above) [] above (may_be second above
      (issued_so second above (as_node joined.1.item) range (omega (arith, sent.1, depth_most plan (actors.Aggregator to))) carried joined.1.joins)))
  short_as (actors.Aggregator from) (actors.Core to) second (contents.Synod m) range sent carried so joined = absurd sent
  short_as (actors.Aggregator from) (actors.Core to) second (contents.Submission item) range sent carried so joined =
      submission_short from second item (omega (arith, sent.0, is.many)) (omega (arith, range.1, is.core_plan.early)) (omega (arith, sent.2)) carried.0 carried.1
  short_as (actors.Aggregator from) (actors.Core to) second (contents.Response above) range sent carried so joined = absurd sent
  short_as (actors.Aggregator from) (actors.Aggregator to) second (contents.Synod m) range sent carried so joined = absurd sent
  short_as (actors.Aggregator from) (actors.Aggregator to) second (contents.Submission item) range sent carried so joined =
      submission_short from second item (omega (arith, sent.0, is.many)) (omega (arith, range.1, is.core_plan.early)) (omega (arith, sent.2)) carried.0 carried.1
  short_as (actors.Aggregator from) (actors.Aggregator to) second (contents.Response above) range sent carried so joined =
      response_short second above (omega (arith, range.1, is.core_plan.early)) (issue.short second (input_of above) [] above (may_be second above
      (issued_so second above (as_node joined.1.item) range (omega (arith, sent.1, depth_most plan (actors.Aggregator to))) carried joined.1.joins)))

  pub message_taken : (number : ℕ) (m : Message) → slice_get w.wire number ≡ Some m → FitsLine m.content → IsTakenAs plan m.sender m.addressee m.second m.content
  message_taken number m at fits =
      let post = (after_sound image plan is laws.rises es are).wire number m at in
      taken_as m.sender m.addressee m.second m.content post.second post.sent ((after_all Both image plan is laws es are ask).wire number m at)
      ((after_so Both plan image is laws es are ask).wire number m at) ((after_joined image plan is laws.rises laws.climb es are).wire number m at) fits

  pub message_short : (number : ℕ) (m : Message) → slice_get w.wire number ≡ Some m → length (content_line m.sender m.second m.content) ≤ 32000
  message_short number m at =
      let post = (after_sound image plan is laws.rises es are).wire number m at in
      short_as m.sender m.addressee m.second m.content post.second post.sent ((after_all Both image plan is laws es are ask).wire number m at)
      ((after_so Both plan image is laws es are ask).wire number m at) ((after_joined image plan is laws.rises laws.climb es are).wire number m at)

-- if at most seven aggregators are above one another, each message fits
pub message_fits : (image : List ℕ → List ℕ) (plan : PlanState) → IsPlan plan → TreeRises image → (es : List Event) → AreEvents plan es → HasSeven plan
    → (number : ℕ) (m : Message) → slice_get (after image plan es).wire number ≡ Some m → FitsLine m.content
message_fits image plan is rises es are seven number m at = fits_by plan seven m.sender m.addressee m.content ((after_sound image plan is rises es are).wire number m at).sent
