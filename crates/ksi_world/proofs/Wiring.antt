-- Each Response that was ever sent leads from a round's item to a root that is held.
use Rattle.std.proofs.Common.{◌≡◌, ℕ, zero, suc, ◌+◌, ◌-◌, ◌<◌, ◌≤◌, Bool, true, false, nat_lt, if◌then◌else◌, List, [], ◌∷◌, length, refl, sym, ap, subst, ◌∙◌, arith, Some}
use Rattle.std.specs.Prelude.{slice_get, slice_index_or, unwrap_or}
use Rattle.std.specs.List.{AllByRecursion}
use Rattle.std.proofs.lemmas.Bool.{ltb-true}
use Rattle.ksi_imprint.specs.Imprints.{IsImprint, zero_imprint}
use Rattle.ksi_split.specs.declared.tree_link.TreeLink.{TreeLink}
use Rattle.ksi_calendar.specs.Climbing.{ClimbsCalendar}
use Rattle.ksi_calendar.specs.Calendar.{Seconds, calendar_leaf, calendar_path, calendar_root}
use Rattle.ksi_aggtree.specs.declared.chains.node.Node.{Node}
use Rattle.ksi_aggtree.specs.Rounds.{as_node}
use Rattle.ksi_signature.specs.declared.above.Above.{Above}
use Rattle.ksi_signature.specs.declared.above.AboveChain.{AboveChain}
use Rattle.ksi_calendar.specs.Covered.{Roots, roots_among, covered_seconds, covered_root}
use Rattle.ksi_schedule.specs.declared.actor.Actor.{Actor}
use Rattle.ksi_schedule.specs.declared.actor.Actor.TheVariants as actors
use Rattle.ksi_schedule.specs.declared.event.Event.{Event}
use Rattle.ksi_schedule.specs.Plans.{PlanState, IsPlan}
use Rattle.ksi_schedule.specs.Events.{AreEvents}
use Rattle.ksi_world.specs.declared.message.Content.TheVariants as contents
use Rattle.ksi_world.specs.declared.message.Message.{Message}
use Rattle.ksi_world.specs.Histories.{WorldState, held_in, after}
use Rattle.ksi_world.specs.Joined.{ChainsClimb}
use Rattle.ksi_world.specs.Sound.{depth_of, IsSent}
use Rattle.ksi_world.specs.Wire.{IsHeldBySender, IsLinked, ResponsesClimb}
use Rattle.ksi_world.proofs.Carrying.{RoundLaws, IsCarried, AskFor, after_all}
use Rattle.ksi_world.proofs.Deciding.{after_sound}
use Rattle.ksi_world.proofs.Depths.{depth_most}
use Rattle.ksi_world.proofs.Imprinted.{OfChain}
use Rattle.ksi_world.proofs.IssuedCarried.{CalendarShort}
use Rattle.ksi_world.proofs.IssuedJoined.{after_joined}
use Rattle.ksi_world.proofs.Joining.{IsHeldBy, IsResponse, IsSo}

-- a calendar's path climbs from the leaf of its second to the root
abbrev pub PathClimbs : (List ℕ → List ℕ) → Type 0
PathClimbs image = (seconds : Seconds) (t p : ℕ) → t ≤ p → ClimbsCalendar image (calendar_leaf seconds t) (calendar_path image seconds t p) (calendar_root image seconds p)

-- THE LEAF OF A HELD SECOND

among : (held : Roots) (s n k : ℕ) (root : List ℕ) → k < n → held (s + k) ≡ Some root → slice_index_or (roots_among held s n) k zero_imprint ≡ root
among held s zero k root lt is = absurd (omega (arith, lt))
among held s (suc n) zero root lt is =
    let same : s ≡ s + 0 = omega arith in ap (λ (t : ℕ). unwrap_or (held t) zero_imprint) same ∙ ap (λ o. unwrap_or o zero_imprint) is
among held s (suc n) (suc k) root lt is =
    let same : suc s + k ≡ s + suc k = omega arith in among held (suc s) n k root (omega (arith, lt)) (ap held same ∙ is)

leaf_by : (held : Roots) (start t : ℕ) (root : List ℕ) → start ≤ t → held t ≡ Some root → (b : Bool) → nat_lt t start ≡ b
    → (if b then zero_imprint else slice_index_or (roots_among held start (suc t - start)) (t - start) zero_imprint) ≡ root
leaf_by held start t root from is true early = let lt = ltb-true t start early in absurd (omega (arith, from, lt))
leaf_by held start t root from is false late =
    let same : start + (t - start) ≡ t = omega (arith, from) in
    among held start (suc t - start) (t - start) root (omega (arith, from)) (ap held same ∙ is)

leaf_held : (held : Roots) (start t : ℕ) (root : List ℕ) → start ≤ t → held t ≡ Some root → calendar_leaf (covered_seconds held start t) t ≡ root
unfolding covered_seconds
leaf_held held start t root from is = leaf_by held start t root from is (nat_lt t start) refl

-- WHAT A RESPONSE IS

-- it goes to an aggregator of the plan
goes_to : (plan : PlanState) (sender addressee : Actor) (above : Above) → IsSent plan sender addressee (contents.Response above)
    → (k : ℕ) × (addressee ≡ actors.Aggregator k) × (k < length plan.parents) × (length above.chains ≤ depth_of plan (actors.Aggregator k))
goes_to plan (actors.Core from) (actors.Core j) above sent = absurd sent
goes_to plan (actors.Aggregator from) (actors.Core j) above sent = absurd sent
goes_to plan (actors.Core from) (actors.Aggregator k) above sent = (k, refl, sent.0, sent.1)
goes_to plan (actors.Aggregator from) (actors.Aggregator k) above sent = (k, refl, sent.0, sent.1)

held_by_sender : (image : List ℕ → List ℕ) (plan : PlanState) (w : WorldState) (sender : Actor) (t : ℕ) (above : Above) → IsHeldBy image plan w sender t above → IsHeldBySender w sender t above.root
held_by_sender image plan w (actors.Core j) t above is = is
held_by_sender image plan w (actors.Aggregator k) t above is = tt

short_chains : (chains : List AboveChain) → AllByRecursion (OfChain IsImprint) chains → AllByRecursion (λ chain. length chain.links ≤ 17) chains
short_chains [] all = tt
short_chains (chain ∷ chains) all = (omega (arith, all.0.limits.count), short_chains chains all.1)

module _ (image : List ℕ → List ℕ) (plan : PlanState) (is : IsPlan plan) (laws : RoundLaws IsImprint image) (climbs : PathClimbs image) (brief : CalendarShort image)
    (es : List Event) (are : AreEvents plan es) (ask : AskFor IsImprint es) where
  linked : (number : ℕ) (message : Message) (above : Above) → slice_get (after image plan es).wire number ≡ Some message → message.content ≡ contents.Response above →
      (to : (k : ℕ) × (message.addressee ≡ actors.Aggregator k) × (k < length plan.parents) × (length above.chains ≤ depth_of plan (actors.Aggregator k))) →
      IsResponse image plan (after image plan es) message.sender (actors.Aggregator to.0) message.second above → IsLinked image plan (after image plan es) message above
  linked number message above at content to response =
      let w = after image plan es in
      let t = message.second in
      let joins = response.1.joins in
      let range = ((after_sound image plan is laws.rises es are).wire number message at).second in
      let carried = subst (IsCarried IsImprint) content ((after_all IsImprint image plan is laws es are ask).wire number message at) in
      record {
        aggregator = to.0;
        to = to.1;
        planned = to.2;
        entries = response.1.closed.entries;
        closed = response.1.closed.closed;
        top = joins.top;
        climbs = subst (λ (node : Node). ChainsClimb image node above.chains joins.top) (sym (ap as_node response.1.closed.item_is)) joins.climbs;
        root_is = joins.root_is;
        core = joins.core;
        there = joins.there;
        held = joins.held;
        sender = held_by_sender image plan w message.sender t above response.0;
        leads_on = subst (λ links. ClimbsCalendar image above.root links (covered_root image (held_in w joins.core) plan.start t)) (sym joins.calendar)
            (subst (λ leaf. ClimbsCalendar image leaf (calendar_path image (covered_seconds (held_in w joins.core) plan.start t) t t) (covered_root image (held_in w joins.core) plan.start t))
            (leaf_held (held_in w joins.core) plan.start t above.root joins.from joins.held)
            (climbs (covered_seconds (held_in w joins.core) plan.start t) t t (omega arith)));
        covered = record { from = joins.from; each = joins.all };
        real = joins.real;
        few = omega (arith, to.3, depth_most plan (actors.Aggregator to.0));
        short = short_chains above.chains carried;
        low = joins.low;
        brief = subst (λ (links : List (TreeLink (List ℕ))). length links ≤ 63) (sym joins.calendar) (brief (covered_seconds (held_in w joins.core) plan.start t) t t (omega (arith, range.1, is.core_plan.early)));
      }

  pub all_linked : ResponsesClimb image plan (after image plan es)
  all_linked number message above at content =
      let w = after image plan es in
      let sent = subst (λ c. IsSent plan message.sender message.addressee c) content ((after_sound image plan is laws.rises es are).wire number message at).sent in
      let to = goes_to plan message.sender message.addressee above sent in
      let so = subst (λ c. IsSo image plan w message.sender message.addressee message.second c) content ((after_joined image plan is laws.rises laws.climb es are).wire number message at) in
      linked number message above at content to (subst (λ addressee. IsResponse image plan w message.sender addressee message.second above) to.1 so)
