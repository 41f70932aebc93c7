-- What is sent, and the items that came in, are as they always are.
use Rattle.ksi_schedule.specs.Plans.{core_plan_of}
use Rattle.std.proofs.Common.{◌≡◌, ℕ, zero, suc, ◌+◌, ◌-◌, ◌*◌, ◌<◌, ◌≤◌, false, cond, eqb, List, [], ◌∷◌, ◌++◌, length, refl, ap, subst, arith, ◌⊎◌, inl, inr, Option, Some, None, length-append}
use Rattle.std.specs.Prelude.{slice_get, map}
use Rattle.std.proofs.lemmas.Bool.{cond_both, cond-false, eqb-true, eqb-false, or_parts}
use Rattle.std.proofs.lemmas.List.{length-map}
use Rattle.ksi_aggtree.specs.declared.item.Item.{Item}
use Rattle.ksi_aggtree.specs.declared.entries.Entry.{Entry}
use Rattle.ksi_aggtree.specs.declared.entries.Origin.{Origin}
use Rattle.ksi_aggtree.specs.declared.entries.Origin.TheVariants as origins
use Rattle.ksi_aggtree.specs.Rounds.{as_item, item_at, named_level, leaf_level, tree_of}
use Rattle.ksi_aggtree.specs.Entries.{items_of, is_from, has_from, is_full}
use Rattle.ksi_synod.specs.declared.messages.SynodMessage.{SynodMessage}
use Rattle.ksi_synod.specs.declared.messages.SynodMessage.TheVariants as message
use Rattle.ksi_synod.specs.Voters.{cores_below}
use Rattle.ksi_synod.specs.CorePlans.{IsCorePlan, voters_of}
use Rattle.ksi_synod.specs.Rows.{OfBallot}
use Rattle.ksi_corenode.specs.Owners.{NamesOwned}
use Rattle.ksi_world.proofs.Small.{OfCores}
use Rattle.ksi_signature.specs.declared.above.Above.{Above}
use Rattle.ksi_corenode.specs.declared.step.Send as core_step
use Rattle.ksi_corenode.specs.declared.step.Send.TheVariants as core_sends
use Rattle.ksi_corenode.specs.Turns.{to_each}
use Rattle.ksi_corenode.specs.Turns as turns
use Rattle.ksi_corenode.specs.Rows.{responses_from, response_to}
use Rattle.ksi_aggregator.specs.declared.step.Send as round_step
use Rattle.ksi_aggregator.specs.declared.step.Send.TheVariants as round_sends
use Rattle.ksi_aggregator.specs.Responses as told
use Rattle.ksi_aggregator.specs.Rows.{request_entry, submitted_entry}
use Rattle.ksi_schedule.specs.declared.actor.Actor.{Actor}
use Rattle.ksi_schedule.specs.declared.actor.Actor.TheVariants as actors
use Rattle.ksi_world.specs.declared.message.Message.{Message}
use Rattle.ksi_schedule.specs.Plans.{PlanState, IsPlan, InRange}
use Rattle.ksi_world.specs.Histories.{core_message, round_message}
use Rattle.ksi_world.specs.Sound.{depth_of, IsLow, IsPost, IsOf, AreOf, count_from, IsRoundAt}
use Rattle.ksi_world.proofs.Voters.{AreCoresOf, below_of, voters_of-there}
use Rattle.ksi_world.proofs.Depths.{depth_most, depth_child}

-- LISTS

pub get_in_either : {A : Type 0} (xs ys : List A) (k : ℕ) (x : A) → slice_get (xs ++ ys) k ≡ Some x → (slice_get xs k ≡ Some x) ⊎ ((i : ℕ) × (slice_get ys i ≡ Some x))
get_in_either [] ys k x at = inr (k, at)
get_in_either (y ∷ xs) ys zero x at = inl at
get_in_either (y ∷ xs) ys (suc k) x at = get_in_either xs ys k x at

-- a leaf is at most one level above its item
pub leaf_most : (item : Item) → leaf_level item ≤ item.level + 1
leaf_most item = by item.name
  where
    by : (name : Option (List ℕ)) → named_level item.level name ≤ item.level + 1
    by None = omega arith
    by (Some name) = omega arith

-- the law of levels
abbrev pub TreeRises : (List ℕ → List ℕ) → Type 0
TreeRises image = (items : List Item) (most : ℕ) → length items ≤ 65536 → ((k : ℕ) → leaf_level (item_at items k) ≤ most) → (tree_of image items).level ≤ most + 16

-- each message is a post
abbrev pub ArePosts : PlanState → List Message → Type 0
ArePosts plan ms = (number : ℕ) (m : Message) → slice_get ms number ≡ Some m → IsPost plan m

module _ (plan : PlanState) where
  pub both_posts : (xs ys : List Message) → ArePosts plan xs → ArePosts plan ys → ArePosts plan (xs ++ ys)
  both_posts xs ys h k number m at = elim (get_in_either xs ys number m at) [ inl old ↦ h number m old | inr new ↦ k new.0 m new.1 ]

  pub no_posts : ArePosts plan []
  no_posts number m at = absurd (cc at)

  pub one_post : (m : Message) (ms : List Message) → IsPost plan m → ArePosts plan ms → ArePosts plan (m ∷ ms)
  one_post m ms is are zero x at = let same : m ≡ x = cc at in subst (λ x. IsPost plan x) same is
  one_post m ms is are (suc k) x at = are k x at

  -- WHAT A CORE SENDS

  abbrev pub FineSend : (j : ℕ) → core_step.Send → Type 0
  FineSend j (core_sends.Synod to m) = (to < plan.cores) × OfBallot m × NamesOwned plan.cores m
  FineSend j (core_sends.Response to above) = (to < length plan.parents) × (length above.chains ≤ depth_of plan (actors.Aggregator to))

  abbrev pub FineSends : (j : ℕ) → List core_step.Send → Type 0
  FineSends j [] = Unit {0}
  FineSends j (s ∷ ss) = FineSend j s × FineSends j ss

  pub fine_both : (j : ℕ) (xs ys : List core_step.Send) → FineSends j xs → FineSends j ys → FineSends j (xs ++ ys)
  fine_both j [] ys h k = k
  fine_both j (x ∷ xs) ys h k = (h.0, fine_both j xs ys h.1 k)

  pub fine_each : (j : ℕ) (to : List ℕ) (m : SynodMessage) → AreCoresOf plan.cores to → OfBallot m × NamesOwned plan.cores m → FineSends j (to_each to m)
  fine_each j [] m are is = tt
  fine_each j (core ∷ to) m are is = ((are.0, is.0, is.1), fine_each j to m are.1 is)

  pub fine_told : IsCorePlan (core_plan_of plan) → (j second from : ℕ) (o : Option SynodMessage) → from < plan.cores → OfCores plan.cores o → FineSends j (turns.told (core_plan_of plan) second from o)
  fine_told planned j second from None lt is = tt
  fine_told planned j second from (Some (message.LastVote l)) lt is = ((lt, is.0, is.1), tt)
  fine_told planned j second from (Some (message.Voted b)) lt is = ((lt, is.0, is.1), tt)
  fine_told planned j second from (Some (message.NextBallot b)) lt is = fine_each j (voters_of (core_plan_of plan) second) (message.NextBallot b) (voters_of-there (core_plan_of plan) second planned) is
  fine_told planned j second from (Some (message.BeginBallot b d)) lt is = fine_each j (voters_of (core_plan_of plan) second) (message.BeginBallot b d) (voters_of-there (core_plan_of plan) second planned) is
  fine_told planned j second from (Some (message.Success d)) lt is = fine_each j (cores_below plan.cores) (message.Success d) (below_of plan.cores plan.cores (omega arith)) is

  pub core_posts : (j t : ℕ) (sends : List core_step.Send) → j < plan.cores → InRange plan t → FineSends j sends → ArePosts plan (map (core_message j t) sends)
  core_posts j t [] lt range fine = no_posts
  core_posts j t (core_sends.Synod to m ∷ ss) lt range fine = one_post _ _ (record { second = range; sent = (lt, fine.0.0, fine.0.1, fine.0.2) }) (core_posts j t ss lt range fine.1)
  core_posts j t (core_sends.Response to above ∷ ss) lt range fine = one_post _ _ (record { second = range; sent = fine.0 }) (core_posts j t ss lt range fine.1)

  -- WHAT AN AGGREGATOR SENDS

  abbrev pub FineOut : (k : ℕ) → round_step.Send → Type 0
  FineOut k (round_sends.Submission item) = IsLow plan (actors.Aggregator k) item
  FineOut k (round_sends.Response to above) = (to < length plan.parents) × (length above.chains ≤ depth_of plan (actors.Aggregator to))

  abbrev pub FineOuts : (k : ℕ) → List round_step.Send → Type 0
  FineOuts k [] = Unit {0}
  FineOuts k (s ∷ ss) = FineOut k s × FineOuts k ss

  pub out_both : (k : ℕ) (xs ys : List round_step.Send) → FineOuts k xs → FineOuts k ys → FineOuts k (xs ++ ys)
  out_both k [] ys h h' = h'
  out_both k (x ∷ xs) ys h h' = (h.0, out_both k xs ys h.1 h')

  pub round_posts : (k t : ℕ) (sends : List round_step.Send) → k < length plan.parents → InRange plan t → FineOuts k sends → ArePosts plan (map (round_message plan k t) sends)
  round_posts k t [] lt range fine = no_posts
  round_posts k t (round_sends.Submission item ∷ ss) lt range fine = one_post _ _ (record { second = range; sent = (lt, refl, fine.0) }) (round_posts k t ss lt range fine.1)
  round_posts k t (round_sends.Response to above ∷ ss) lt range fine = one_post _ _ (record { second = range; sent = fine.0 }) (round_posts k t ss lt range fine.1)

  -- ITEMS

  pub of_more : (here : Actor) (n n' : ℕ) (o : Origin) (item : Item) → n ≤ n' → IsOf plan here n o item → IsOf plan here n' o item
  of_more here n n' (origins.Request number) item le is = (omega (arith, is.0), is.1)
  of_more here n n' (origins.Aggregator from) item le is = is

  pub are_more : (here : Actor) (n n' : ℕ) (es : List Entry) → n ≤ n' → AreOf plan here n es → AreOf plan here n' es
  are_more here n n' [] le are = tt
  are_more here n n' (e ∷ es) le are = (of_more here n n' e.origin e.item le are.0, are_more here n n' es le are.1)

  pub are_push : (here : Actor) (n : ℕ) (es : List Entry) (e : Entry) → AreOf plan here n es → IsOf plan here n e.origin e.item → AreOf plan here n (es ++ e ∷ [])
  are_push here n [] e are is = (is, tt)
  are_push here n (x ∷ es) e are is = (are.0, are_push here n es e are.1 is)

  pub round_more : (here : Actor) (n n' : ℕ) (es : List Entry) → n ≤ n' → IsRoundAt plan here n es → IsRoundAt plan here n' es
  round_more here n n' es le r = record { are = are_more here n n' es le r.are; few = r.few; once = r.once }

  pub no_round : (here : Actor) (n : ℕ) → IsRoundAt plan here n []
  no_round here n = record { are = tt; few = omega arith; once = λ from. omega arith }

  -- ONE ITEM OF EACH AGGREGATOR

  count_push : (from : ℕ) (es : List Entry) (e : Entry) → count_from from (es ++ e ∷ []) ≡ count_from from es + cond (is_from from e.origin) 1 0
  count_push from [] e = omega arith
  count_push from (x ∷ es) e = omega (arith, count_push from es e)

  none_from : (from : ℕ) (es : List Entry) → has_from from es ≡ false → count_from from es ≡ 0
  none_from from [] none = refl
  none_from from (e ∷ es) none =
      let parts = or_parts (is_from from e.origin) (has_from from es) none in
      let one : ℕ = 1 in
      let none_here : cond (is_from from e.origin) one 0 ≡ 0 = cond-false (is_from from e.origin) one 0 parts.0 in
      omega (arith, none_from from es parts.1, none_here)

  -- where the list has room and none of the sender, a sender's item may be added
  pub round_push : (here : Actor) (n : ℕ) (es : List Entry) (from : ℕ) (item : Item) → IsRoundAt plan here n es → has_from from es ≡ false → is_full es ≡ false → IsOf plan here n (origins.Aggregator from) item →
      IsRoundAt plan here n (es ++ submitted_entry from item ∷ [])
  round_push here n es from item r none room is = record {
    are = are_push here n es (submitted_entry from item) r.are is;
    few = let ne : length es ≡ 65536 → ⊥ = eqb-false (length es) 65536 room in omega (arith, length-append es (submitted_entry from item ∷ []), r.few, ne);
    once = λ a. let one = cond_both (eqb from a) 1 0 (λ m. count_from a es + m ≤ 1) (λ same. omega (arith, ap (λ a. count_from a es) (eqb-true from a same), none_from from es none)) (λ _. omega (arith, r.once a)) in omega (arith, one, count_push a es (submitted_entry from item));
  }

  pub request_push : (here : Actor) (n : ℕ) (es : List Entry) (imprint : List ℕ) (name : Option (List ℕ)) → IsRoundAt plan here n es → is_full es ≡ false → IsRoundAt plan here (suc n) (es ++ request_entry n imprint name ∷ [])
  request_push here n es imprint name r room = record {
    are = are_push here (suc n) es (request_entry n imprint name) (are_more here n (suc n) es (omega arith) r.are) (omega arith, refl);
    few = let ne : length es ≡ 65536 → ⊥ = eqb-false (length es) 65536 room in omega (arith, length-append es (request_entry n imprint name ∷ []), r.few, ne);
    once = λ a. omega (arith, count_push a es (request_entry n imprint name), r.once a);
  }

  -- LEVELS AND RESPONSES

  module _ (is : IsPlan plan) where
    of_low : (here : Actor) (n : ℕ) (o : Origin) (item : Item) → IsOf plan here n o item → leaf_level item + 17 * depth_of plan here ≤ 137
    of_low here n (origins.Request number) item r = omega (arith, r.1, leaf_most item, depth_most plan here)
    of_low here n (origins.Aggregator from) item r = omega (arith, r.2, leaf_most item, depth_child plan is from r.0, ap (depth_of plan) r.1)

    pub are_low : (here : Actor) (n : ℕ) (es : List Entry) → AreOf plan here n es → (i : ℕ) → leaf_level (item_at (items_of es) i) ≤ 137 - 17 * depth_of plan here
    are_low here n [] r zero = omega arith
    are_low here n [] r (suc i) = omega arith
    are_low here n (e ∷ es) r zero = omega (arith, of_low here n e.origin e.item r.0)
    are_low here n (e ∷ es) r (suc i) = are_low here n es r.1 i

    pub tree_low : (image : List ℕ → List ℕ) → TreeRises image → (here : Actor) (n : ℕ) (es : List Entry) → IsRoundAt plan here n es → IsLow plan here (as_item (tree_of image (items_of es)))
    tree_low image rises here n es r =
        let f : Entry → Item = λ e. e.item in
        omega (arith, depth_most plan here, rises (items_of es) (137 - 17 * depth_of plan here) (omega (arith, length-map es f, r.few)) (are_low here n es r.are))

    pub core_responses : (j n k : ℕ) (above : ℕ → Above) (es : List Entry) → ((i : ℕ) → length (above i).chains ≤ 1) → AreOf plan (actors.Core j) n es → FineSends j (responses_from above k es)
    core_responses j n k above [] short are = tt
    core_responses j n k above (e ∷ es) short are = fine_both j (response_to e.origin (above k)) (responses_from above (suc k) es) (one e.origin e.item are.0) (core_responses j n (suc k) above es short are.1)
      where
        one : (o : Origin) (item : Item) → IsOf plan (actors.Core j) n o item → FineSends j (response_to o (above k))
        one (origins.Request number) item r = tt
        one (origins.Aggregator from) item r = ((r.0, omega (arith, depth_child plan is from r.0, short k)), tt)

    module _ (image : List ℕ → List ℕ) (k n : ℕ) (above : Above) (items : List Item) (few : length above.chains ≤ depth_of plan (actors.Aggregator k)) where
      pub round_responses : (i : ℕ) (es : List Entry) → AreOf plan (actors.Aggregator k) n es → FineOuts k (told.responses_from image i above items es)
      round_responses i [] are = tt
      round_responses i (e ∷ es) are = out_both k (told.told_to e.origin (told.below image above items i)) (told.responses_from image (suc i) above items es) (one e.origin e.item are.0) (round_responses (suc i) es are.1)
        where
          one : (o : Origin) (item : Item) → IsOf plan (actors.Aggregator k) n o item → FineOuts k (told.told_to o (told.below image above items i))
          one (origins.Request number) item r = tt
          one (origins.Aggregator from) item r = ((r.0, omega (arith, depth_child plan is from r.0, ap (depth_of plan) r.1, few)), tt)
