-- What always holds of the world of a plan, whatever happens: bounds on ballots, levels, chains and origins.
use Rattle.std.specs.Prelude.{◌≡◌, ℕ, zero, suc, ◌+◌, ◌*◌, ◌^◌, ◌<◌, ◌≤◌, if◌then◌else◌, List, [], ◌∷◌, length, slice_get, Some}
use Rattle.ksi_aggtree.specs.declared.item.Item.{Item}
use Rattle.ksi_aggtree.specs.declared.entries.Entry.{Entry}
use Rattle.ksi_aggtree.specs.declared.entries.Origin.{Origin}
use Rattle.ksi_aggtree.specs.declared.entries.Origin.TheVariants as origins
use Rattle.ksi_aggtree.specs.Rounds.{most_items}
use Rattle.ksi_aggtree.specs.Entries.{is_from}
use Rattle.ksi_synod.specs.VoteState.{VoteState}
use Rattle.ksi_synod.specs.Rows.{OfBallot}
use Rattle.ksi_corenode.specs.Owners.{NamesOwned}
use Rattle.ksi_aggregator.specs.Rows.{RoundState}
use Rattle.ksi_schedule.specs.declared.actor.Actor.{Actor}
use Rattle.ksi_schedule.specs.declared.actor.Actor.TheVariants as actors
use Rattle.ksi_world.specs.declared.message.Content.{Content}
use Rattle.ksi_world.specs.declared.message.Content.TheVariants as contents
use Rattle.ksi_world.specs.declared.message.Message.{Message}
use Rattle.ksi_schedule.specs.Plans.{PlanState, parent_of, InRange}
use Rattle.ksi_world.specs.Histories.{WorldState}

-- how many aggregators are on the path from an actor up to a core, including itself, if they are no more than these
unfoldable pub depth_within : PlanState → (most : ℕ) → Actor → ℕ
depth_within plan most (actors.Core j) = 0
depth_within plan zero (actors.Aggregator k) = 0
depth_within plan (suc most) (actors.Aggregator k) = suc (depth_within plan most (parent_of plan k))

unfoldable pub depth_of : PlanState → Actor → ℕ
depth_of plan actor = depth_within plan 8 actor

-- the item may go up from an actor: 17 levels are left for each aggregator above it, and for this one, 16 of them for the
-- tree of a round and one for a name
abbrev pub IsLow : PlanState → Actor → Item → Type 0
IsLow plan sender item = item.level + 17 * depth_of plan sender ≤ 153

-- the core's ballots are ballots, and it is one of this many cores
pub record IsSmall (cores : ℕ) (v : VoteState) : Type 0 where
  pub tried : v.tried < 2 ^ 36
  pub promised : v.promised < 2 ^ 36
  pub me : v.me < 16
  pub there : v.me < cores

-- WHAT IS SENT, by whom and to whom

-- a message of the vote names a ballot of one of the cores, if any
abbrev pub IsSent : PlanState → (sender addressee : Actor) → Content → Type 0
IsSent plan (actors.Core from) (actors.Core to) (contents.Synod m) = (from < plan.cores) × (to < plan.cores) × OfBallot m × NamesOwned plan.cores m
IsSent plan (actors.Aggregator from) to (contents.Submission item) = (from < length plan.parents) × (to ≡ parent_of plan from) × IsLow plan (actors.Aggregator from) item
IsSent plan sender (actors.Aggregator to) (contents.Response above) = (to < length plan.parents) × (length above.chains ≤ depth_of plan (actors.Aggregator to))
IsSent plan _ _ _ = ⊥

pub record IsPost (plan : PlanState) (m : Message) : Type 0 where
  pub second : InRange plan m.second
  pub sent : IsSent plan m.sender m.addressee m.content

-- THE ITEMS OF A ROUND

-- an item at an actor is of a request that was accepted, or of an aggregator whose parent the actor is
abbrev pub IsOf : PlanState → (here : Actor) (accepted : ℕ) → Origin → Item → Type 0
IsOf plan here accepted (origins.Request number) item = (number < accepted) × (item.level ≡ 0)
IsOf plan here accepted (origins.Aggregator from) item = (from < length plan.parents) × (here ≡ parent_of plan from) × IsLow plan (actors.Aggregator from) item

abbrev pub AreOf : PlanState → (here : Actor) (accepted : ℕ) → List Entry → Type 0
AreOf plan here accepted [] = Unit {0}
AreOf plan here accepted (entry ∷ entries) = IsOf plan here accepted entry.origin entry.item × AreOf plan here accepted entries

-- how many items of an aggregator there are
abbrev pub count_from : (from : ℕ) → List Entry → ℕ
count_from from [] = 0
count_from from (entry ∷ entries) = (if is_from from entry.origin then 1 else 0) + count_from from entries

-- at most 65,536 items, at most one of each aggregator
pub record IsRoundAt (plan : PlanState) (here : Actor) (accepted : ℕ) (entries : List Entry) : Type 0 where
  pub are : AreOf plan here accepted entries
  pub few : length entries ≤ most_items
  pub once : (from : ℕ) → count_from from entries ≤ 1

pub record IsRoundState (plan : PlanState) (k accepted : ℕ) (r : RoundState) : Type 0 where
  pub open_items : IsRoundAt plan (actors.Aggregator k) accepted r.open_items
  pub closed : (entries : List Entry) → r.closed ≡ Some entries → IsRoundAt plan (actors.Aggregator k) accepted entries

pub record IsSound (plan : PlanState) (w : WorldState) : Type 0 where
  pub small : (j t : ℕ) → j < plan.cores → IsSmall plan.cores (w.seconds j t).vote
  pub open_items : (j t : ℕ) → AreOf plan (actors.Core j) (length w.requests) (w.seconds j t).open_items
  pub sealed : (j t : ℕ) (entries : List Entry) → (w.seconds j t).sealed ≡ Some entries → AreOf plan (actors.Core j) (length w.requests) entries
  pub rounds : (k t : ℕ) → IsRoundState plan k (length w.requests) (w.rounds k t)
  pub wire : (number : ℕ) (m : Message) → slice_get w.wire number ≡ Some m → IsPost plan m
