-- What is issued is joined to what is kept.
use Rattle.std.proofs.Common.{◌≡◌, ℕ, ◌<◌, List, [], ◌∷◌, length, refl, sym, ap, subst, ◌∙◌, Some}
use Rattle.std.specs.Prelude.{slice_get}
use Rattle.ksi_calendar.specs.Calendar.{Seconds, calendar_path}
use Rattle.ksi_aggtree.specs.declared.chains.node.Node.{Node}
use Rattle.ksi_aggtree.specs.declared.item.Item.{Item}
use Rattle.ksi_aggtree.specs.Rounds.{as_node, item_at, tree_of}
use Rattle.ksi_aggtree.specs.Paths.{chain_of}
use Rattle.ksi_aggtree.specs.Entries.{items_of}
use Rattle.ksi_signature.specs.Issued.{own_chain}
use Rattle.ksi_aggregator.specs.Issuing.{from_request, IsIssuedAt}
use Rattle.ksi_aggregator.specs.Responses as told
use Rattle.ksi_corenode.specs.SecondState.{fresh_second}
use Rattle.ksi_schedule.specs.declared.actor.Actor.TheVariants as actors
use Rattle.ksi_schedule.specs.declared.event.Event.{Event}
use Rattle.ksi_schedule.specs.Plans.{PlanState, IsPlan}
use Rattle.ksi_schedule.specs.Events.{AreEvents}
use Rattle.ksi_world.specs.declared.outcome.Asked.{Asked}
use Rattle.ksi_world.specs.Histories.{WorldState, happens, held_in, first_world, run, after}
use Rattle.ksi_world.specs.Records.{kept_root, issued_of}
use Rattle.ksi_world.specs.Sound.{IsRoundAt, IsSound}
use Rattle.ksi_world.specs.Joined.{ChainsClimb, IsJoined}
use Rattle.ksi_world.proofs.Covering.{HeldToo, all_too, seconds_same}
use Rattle.ksi_world.proofs.Deciding.{StepsAgree, after_sound}
use Rattle.ksi_world.proofs.IssuedOf.{issued_there}
use Rattle.ksi_world.proofs.JoinedRows.{happens_joined}
use Rattle.ksi_world.proofs.JoinedTurns.{AllJoined, fresh_joined}
use Rattle.ksi_world.proofs.Joining.{ItemClimbs, Joins, IsAnswer, none_submitted, entry_at, round_is, joins_below}
use Rattle.ksi_world.proofs.Numbered.{IsAskedAt, asked_at, after_numbered}
use Rattle.ksi_world.proofs.Rooted.{kept_holds, kept_too}
use Rattle.ksi_world.proofs.Sending.{TreeRises}
use Rattle.ksi_world.proofs.Sounding.{happens_sound, first_sound}
use Rattle.ksi_world.proofs.Voted.{Voted, happens_voted, first_voted}

module _ (image : List ℕ → List ℕ) (plan : PlanState) (is : IsPlan plan) (rises : TreeRises image) (climb : ItemClimbs image) where
  run_joined : (es : List Event) (w : WorldState) → AreEvents plan es → IsSound plan w → Voted image plan w → AllJoined image plan w → AllJoined image plan (run image plan w es)
  run_joined [] w are sound voted joined = joined
  run_joined (e ∷ es) w are sound voted joined = run_joined es (happens image plan w e).world are.1
      (happens_sound image plan is rises w e are.0 sound) (happens_voted image plan w voted e is.core_plan.few are.0) (happens_joined image plan is rises climb w sound voted joined e are.0)

  first_joined : AllJoined image plan (first_world plan)
  unfolding first_world fresh_second
  first_joined = record {
    wire = λ i m at. absurd (cc at);
    seconds = λ j t. record { open_items = none_submitted image plan (first_world plan) t; sealed = λ entries at. absurd (cc at) };
    rounds = λ k t. fresh_joined image plan (first_world plan) k t;
  }

  pub after_joined : (es : List Event) → AreEvents plan es → AllJoined image plan (after image plan es)
  unfolding after
  after_joined es are = run_joined es (first_world plan) are (first_sound plan is) (first_voted image plan) first_joined

  module _ (law : StepsAgree) (es : List Event) (are : AreEvents plan es) where
    -- by the item's round and its response
    unfoldable pub joined_at : (w : WorldState) → w ≡ after image plan es → (number : ℕ) (text : List ℕ) (asked : Asked) → slice_get w.requests number ≡ Some asked → (t k : ℕ) → IsIssuedAt image (w.rounds asked.aggregator t) number t k text → IsJoined image plan (after image plan es) number text
    joined_at w w_is number text asked accepted t k at = record {
      asked = asked_at a t at.item;
      accepted = asked_is.asked;
      links = chain_of image (items_of at.entries) k;
      above = at.above;
      text_is = at.text;
      top = joins.top;
      climbs = subst (λ (start : Node). ChainsClimb image start (own_chain at.item.imprint (chain_of image (items_of at.entries) k) ∷ at.above.chains) joins.top) item_is
          (subst (λ input. ChainsClimb image (as_node at.item) (own_chain input (chain_of image (items_of at.entries) k) ∷ at.above.chains) joins.top) (ap (λ (x : Item). x.imprint) there.0) joins.climbs);
      root_is = joins.root_is;
      kept = kept_holds image plan is law es are joins.core t at.above.root joins.there joins.held;
      real = joins.real;
      covered = record { from = joins.from; each = all_too (held_in final joins.core) (kept_root plan final) plan.start t joins.all too };
      calendar = joins.calendar ∙ ap (λ (seconds : Seconds). calendar_path image seconds t t) (seconds_same (held_in final joins.core) (kept_root plan final) plan.start t joins.all too);
    }
      where
        final : WorldState
        final = after image plan es

        a : ℕ
        a = asked.aggregator

        closed : ((after image plan es).rounds asked.aggregator t).closed ≡ Some at.entries
        closed = ap (λ (w : WorldState). (w.rounds asked.aggregator t).closed) (sym w_is) ∙ at.answered.closed

        answered : ((after image plan es).rounds asked.aggregator t).answered ≡ Some at.above
        answered = ap (λ (w : WorldState). (w.rounds asked.aggregator t).answered) (sym w_is) ∙ at.answered.answered

        asked_is : IsAskedAt (after image plan es).requests asked.aggregator t number at.item
        asked_is = ((after_numbered image plan es asked.aggregator t).closed at.entries closed).asked k number at.item at.request

        answer : IsAnswer image plan (after image plan es) asked.aggregator t at.above
        answer = ((after_joined es are).rounds asked.aggregator t).answered at.above answered

        round : IsRoundAt plan (actors.Aggregator asked.aggregator) (length (after image plan es).requests) at.entries
        round = ((after_sound image plan is rises es are).rounds asked.aggregator t).closed at.entries closed

        tree_is : tree_of image (items_of at.entries) ≡ as_node answer.item
        tree_is =
            let both : Some at.entries ≡ Some answer.closed.entries = sym closed ∙ answer.closed.closed in
            let same : at.entries ≡ answer.closed.entries = cc both in
            ap (λ es. tree_of image (items_of es)) same ∙ ap as_node answer.closed.item_is

        there : (item_at (items_of at.entries) k ≡ at.item) × (k < length (items_of at.entries))
        there = entry_at image plan at.entries k (from_request number at.item) at.request

        joins : Joins image plan (after image plan es) t (as_node at.item) (told.below image at.above (items_of at.entries) k)
        joins = joins_below image plan climb (after image plan es) t at.above at.entries
            (round_is image plan is (actors.Aggregator asked.aggregator) (length (after image plan es).requests) at.entries round.are round.few)
            (subst (λ (node : Node). Joins image plan (after image plan es) t node at.above) (sym tree_is) answer.joins)
            k (from_request number at.item) at.request

        too : HeldToo (held_in (after image plan es) joins.core) (kept_root plan (after image plan es)) plan.start t
        too = kept_too image plan is law es are joins.core t joins.there

        item_is : as_node at.item ≡ record { imprint = at.item.imprint; level = 0 }
        item_is = let leveled : ℕ → Node = λ level. record { imprint = at.item.imprint; level = level } in ap leveled asked_is.level

    pub issued_joined : (number : ℕ) (text : List ℕ) → issued_of image (after image plan es) number ≡ Some text → IsJoined image plan (after image plan es) number text
    issued_joined number text is_issued =
        let p = issued_there image (after image plan es) number text is_issued in
        joined_at (after image plan es) refl number text p.asked p.accepted p.issued.0 p.issued.1 p.issued.2
