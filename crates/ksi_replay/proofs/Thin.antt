-- The rounds of this plan: each actor has at most one aggregator below it, and at most one item of it in a round.
use Rattle.std.proofs.Common.{◌≡◌, ℕ, zero, suc, ◌+◌, ◌<◌, ◌≤◌, ◌||◌, false, Option, List, [], ◌∷◌, ◌++◌, refl, sym, ap, subst, ◌∙◌, arith, true≢false, eq-eqb}
use Rattle.ksi_aggtree.specs.declared.item.Item.{Item}
use Rattle.ksi_aggtree.specs.declared.entries.Entry.{Entry}
use Rattle.ksi_aggtree.specs.declared.entries.Origin.{Origin}
use Rattle.ksi_aggtree.specs.declared.entries.Origin.TheVariants as origins
use Rattle.ksi_aggtree.specs.Entries.{has_from, is_from}
use Rattle.ksi_aggregator.specs.Rows.{request_entry, submitted_entry}
use Rattle.ksi_schedule.specs.declared.actor.Actor.{Actor}
use Rattle.ksi_schedule.specs.declared.actor.Actor.TheVariants as actors
use Rattle.ksi_schedule.specs.Plans.{parent_of}
use Rattle.ksi_replay.specs.Generate.{header}
use Rattle.ksi_replay.proofs.Weights.{led_below, share, down, down_more}

-- the aggregator below an actor; 6 where there is none
abbrev pub child : Actor → ℕ
child (actors.Core j) = j
child (actors.Aggregator zero) = 3
child (actors.Aggregator (suc zero)) = 4
child (actors.Aggregator (suc (suc zero))) = 6
child (actors.Aggregator (suc (suc (suc zero)))) = 5
child (actors.Aggregator (suc (suc (suc (suc k))))) = 6

child_of : (from : ℕ) → from < 6 → from ≡ child (parent_of header from)
child_of zero lt = refl
child_of (suc zero) lt = refl
child_of (suc (suc zero)) lt = refl
child_of (suc (suc (suc zero))) lt = refl
child_of (suc (suc (suc (suc zero)))) lt = refl
child_of (suc (suc (suc (suc (suc zero))))) lt = refl
child_of (suc (suc (suc (suc (suc (suc k)))))) lt = absurd (omega (arith, lt))

-- what the items of a round lead to at most
abbrev pub room : Actor → ℕ
room (actors.Core j) = 7
room (actors.Aggregator k) = led_below k

room_of : (from : ℕ) → from < 6 → share (origins.Aggregator from) ≤ room (parent_of header from)
room_of zero lt = omega arith
room_of (suc zero) lt = omega arith
room_of (suc (suc zero)) lt = omega arith
room_of (suc (suc (suc zero))) lt = omega arith
room_of (suc (suc (suc (suc zero)))) lt = omega arith
room_of (suc (suc (suc (suc (suc zero))))) lt = omega arith
room_of (suc (suc (suc (suc (suc (suc k)))))) lt = absurd (omega (arith, lt))

-- ---- a round's items

-- the item is a request's, or of this aggregator
abbrev pub IsBelow : (from : ℕ) → Origin → Type 0
IsBelow from (origins.Request number) = Unit {0}
IsBelow from (origins.Aggregator k) = k ≡ from

abbrev pub AreBelow : (from : ℕ) → List Entry → Type 0
AreBelow from [] = Unit {0}
AreBelow from (e ∷ es) = IsBelow from e.origin × AreBelow from es

pub record IsThin (here : Actor) (es : List Entry) : Type 0 where
  pub below : AreBelow (child here) es
  pub few : down es ≤ room here

pub thin_none : (here : Actor) → IsThin here []
thin_none here = record { below = tt; few = omega arith }

below_more : (from : ℕ) (es : List Entry) (e : Entry) → AreBelow from es → IsBelow from e.origin → AreBelow from (es ++ e ∷ [])
below_more from [] e are is = (is, tt)
below_more from (x ∷ es) e are is = (are.0, below_more from es e are.1 is)

-- where none is of the aggregator, none is of any
none_below : (from : ℕ) (es : List Entry) → AreBelow from es → has_from from es ≡ false → down es ≡ 0
none_below from [] are none = refl
none_below from (e ∷ es) are none = by e.origin are.0 none (none_below from es are.1)
  where
    by : (o : Origin) → IsBelow from o → (is_from from o || has_from from es) ≡ false → (has_from from es ≡ false → down es ≡ 0) → share o + down es ≡ 0
    by (origins.Request number) is none rest = omega (arith, rest none)
    by (origins.Aggregator k) is none rest = absurd (true≢false (sym (ap (λ b. b || has_from from es) (eq-eqb k from is)) ∙ none))

pub thin_request : (here : Actor) (es : List Entry) (number : ℕ) (imprint : List ℕ) (name : Option (List ℕ)) → IsThin here es → IsThin here (es ++ request_entry number imprint name ∷ [])
thin_request here es number imprint name thin = record {
  below = below_more (child here) es (request_entry number imprint name) thin.below tt;
  few = omega (arith, down_more es (request_entry number imprint name), thin.few);
}

pub thin_item : (here : Actor) (es : List Entry) (from : ℕ) (item : Item) → from < 6 → here ≡ parent_of header from → has_from from es ≡ false → IsThin here es →
    IsThin here (es ++ submitted_entry from item ∷ [])
thin_item here es from item lt parent none thin =
    let is : from ≡ child here = child_of from lt ∙ ap child (sym parent) in
    let none_there : down es ≡ 0 = none_below (child here) es thin.below (ap (λ k. has_from k es) (sym is) ∙ none) in
    let fits : share (origins.Aggregator from) ≤ room here = subst (λ here. share (origins.Aggregator from) ≤ room here) (sym parent) (room_of from lt) in
    record {
      below = below_more (child here) es (submitted_entry from item) thin.below is;
      few = omega (arith, down_more es (submitted_entry from item), none_there, fits);
    }
