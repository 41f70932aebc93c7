-- What a node may take, by what always holds of the world.
use Rattle.std.proofs.Common.{◌≡◌, ℕ, zero, suc, ◌+◌, ◌≤◌, true, ◌||◌, cond, eqb, ltb, List, [], ◌∷◌, length, refl, sym, ap, subst, ◌∙◌, arith, inl, inr, Option, Some, None, length-append}
use Rattle.std.specs.Prelude.{slice_get, unwrap_or}
use Rattle.std.proofs.lemmas.Bool.{cases_lt, cases_eq, cond-true, cond-false, lt-ltb, le-ltb, eq-eqb}
use Rattle.ksi_aggtree.specs.declared.item.Item.{Item}
use Rattle.ksi_aggtree.specs.declared.entries.Entry.{Entry}
use Rattle.ksi_aggtree.specs.declared.entries.Origin.{Origin}
use Rattle.ksi_aggtree.specs.declared.entries.Origin.TheVariants as origins
use Rattle.ksi_aggtree.specs.Entries.{items_of, is_from}
use Rattle.ksi_signature.specs.declared.above.Above.{Above}
use Rattle.ksi_aggregator.specs.Responses as told
use Rattle.ksi_aggregator.specs.Responses.{has_lower, is_lower, responses}
use Rattle.ksi_aggregator.specs.Rows.{RoundState, round_response, response_where}
use Rattle.ksi_aggregator.specs.Rounds.{AggregatorState, rounds_of, items_in, IsNew, HasPlace}
use Rattle.ksi_schedule.specs.declared.actor.Actor.{Actor}
use Rattle.ksi_schedule.specs.declared.actor.Actor.TheVariants as actors
use Rattle.ksi_world.specs.declared.message.Content.TheVariants as contents
use Rattle.ksi_schedule.specs.Plans.{PlanState, IsPlan}
use Rattle.ksi_world.specs.Histories.{WorldState}
use Rattle.ksi_world.specs.Sound.{depth_of, IsOf, AreOf, count_from, IsRoundAt, IsRoundState, IsSound}
use Rattle.ksi_world.specs.Nodes.{AreAggregators, EachAggregator, CanTake}
use Rattle.ksi_world.proofs.Depths.{depth_most, depth_child}

module _ (plan : PlanState) where
  -- A NEW NUMBER

  pub entry_of : (here : Actor) (n : ℕ) (es : List Entry) (i : ℕ) (e : Entry) → AreOf plan here n es → slice_get es i ≡ Some e → IsOf plan here n e.origin e.item
  entry_of here n [] i e are at = absurd (cc at)
  entry_of here n (x ∷ es) zero e are at = let same : x ≡ e = cc at in subst (λ (e : Entry). IsOf plan here n e.origin e.item) same are.0
  entry_of here n (x ∷ es) (suc i) e are at = entry_of here n es i e are.1 at

  pub round_in : (k n : ℕ) (r : RoundState) → IsRoundState plan k n r → IsRoundAt plan (actors.Aggregator k) n (items_in r)
  round_in k n r is = by r.closed refl
    where
      by : (closed : Option (List Entry)) → r.closed ≡ closed → IsRoundAt plan (actors.Aggregator k) n (unwrap_or closed r.open_items)
      by None at = is.open_items
      by (Some entries) at = is.closed entries at

  pub new_number : (w : WorldState) (aggregators : List AggregatorState) (n : ℕ) → IsSound plan w → AreAggregators plan w.rounds aggregators → n ≡ length w.requests → EachAggregator (λ a. IsNew n (rounds_of a)) aggregators
  new_number w aggregators n sound are count k a at t i item there =
      let r = w.rounds k t in
      let found : slice_get (items_in r) i ≡ Some (record { origin = origins.Request n; item = item }) = ap (λ (r : RoundState). slice_get (items_in r) i) (sym ((are.each k a at).keeps t)) ∙ there in
      let is = entry_of (actors.Aggregator k) (length w.requests) (items_in r) i (record { origin = origins.Request n; item = item }) (round_in k (length w.requests) r (sound.rounds k t)).are found in
      omega (arith, is.0, count)

  -- A RESPONSE

  -- one where the origin is an aggregator below n
  abbrev flag_below : (n : ℕ) → Origin → ℕ
  flag_below n (origins.Request number) = 0
  flag_below n (origins.Aggregator from) = cond (ltb from n) 1 0

  abbrev count_below : (n : ℕ) → List Entry → ℕ
  count_below n [] = 0
  count_below n (e ∷ es) = flag_below n e.origin + count_below n es

  abbrev flag_of : ℕ → Origin → ℕ
  flag_of m o = cond (is_from m o) 1 0

  flag_none : (o : Origin) → flag_below 0 o ≡ 0
  flag_none (origins.Request number) = refl
  flag_none (origins.Aggregator from) = let one : ℕ = 1 in cond-false (ltb from 0) one 0 (le-ltb from 0 (omega arith))

  count_none : (es : List Entry) → count_below 0 es ≡ 0
  count_none [] = refl
  count_none (e ∷ es) = omega (arith, flag_none e.origin, count_none es)

  flag_more : (m : ℕ) (o : Origin) → flag_below (suc m) o ≤ flag_below m o + flag_of m o
  flag_more m (origins.Request number) = omega arith
  flag_more m (origins.Aggregator from) = let one : ℕ = 1 in elim (cases_lt from m) [
    | inl lt ↦ omega (arith, cond-true (ltb from m) one 0 (lt-ltb from m lt), cond-true (ltb from (suc m)) one 0 (lt-ltb from (suc m) (omega (arith, lt))))
    | inr le ↦ elim (cases_eq from m) [
      | inl same ↦ omega (arith, cond-true (eqb from m) one 0 (eq-eqb from m same), cond-true (ltb from (suc m)) one 0 (lt-ltb from (suc m) (omega (arith, same))))
      | inr other ↦ omega (arith, cond-false (ltb from (suc m)) one 0 (le-ltb from (suc m) (omega (arith, le, other))))
    ]
  ]

  count_more : (m : ℕ) (es : List Entry) → count_below (suc m) es ≤ count_below m es + count_from m es
  count_more m [] = omega arith
  count_more m (e ∷ es) = omega (arith, flag_more m e.origin, count_more m es)

  few_below : (n : ℕ) (es : List Entry) → ((from : ℕ) → count_from from es ≤ 1) → count_below n es ≤ n
  few_below zero es once = omega (arith, count_none es)
  few_below (suc m) es once = omega (arith, count_more m es, few_below m es once, once m)

  flag_lower : (here : Actor) (n : ℕ) (o : Origin) (item : Item) (above : Above) → IsOf plan here n o item → length (told.told_to o above) ≡ flag_below (length plan.parents) o
  flag_lower here n (origins.Request number) item above is = refl
  flag_lower here n (origins.Aggregator from) item above is = let one : ℕ = 1 in sym (cond-true (ltb from (length plan.parents)) one 0 (lt-ltb from (length plan.parents) is.0))

  count_lower : (image : List ℕ → List ℕ) (here : Actor) (n i : ℕ) (above : Above) (items : List Item) (es : List Entry) → AreOf plan here n es → length (told.responses_from image i above items es) ≡ count_below (length plan.parents) es
  count_lower image here n i above items [] are = refl
  count_lower image here n i above items (e ∷ es) are = omega (arith, length-append (told.told_to e.origin (told.below image above items i)) (told.responses_from image (suc i) above items es), flag_lower here n e.origin e.item (told.below image above items i) are.0, count_lower image here n (suc i) above items es are.1)

  few_responses : (image : List ℕ → List ℕ) (k n : ℕ) (above : Above) (r : RoundState) → IsRoundState plan k n r → length (round_response image above r).sends ≤ length plan.parents
  unfolding round_response responses
  few_responses image k n above r is = by r.closed refl r.answered
    where
      by : (closed : Option (List Entry)) → r.closed ≡ closed → (answered : Option Above) → length (response_where image above closed answered r).sends ≤ length plan.parents
      by None at answered = omega arith
      by (Some []) at answered = omega arith
      by (Some (e ∷ es)) at (Some first) = omega arith
      by (Some (e ∷ es)) at None = let round = is.closed (e ∷ es) at in
          omega (arith, count_lower image (actors.Aggregator k) n 0 above (items_of (e ∷ es)) (e ∷ es) round.are, few_below (length plan.parents) (e ∷ es) round.once)

  module _ (is : IsPlan plan) where
    pub lower_depth : (here : Actor) (n : ℕ) (es : List Entry) → AreOf plan here n es → has_lower es ≡ true → suc (depth_of plan here) ≤ 8
    lower_depth here n [] are lower = absurd (cc lower)
    lower_depth here n (e ∷ es) are lower = by e.origin e.item are.0 (lower_depth here n es are.1) lower
      where
        by : (o : Origin) (item : Item) → IsOf plan here n o item → (has_lower es ≡ true → suc (depth_of plan here) ≤ 8) → (is_lower o || has_lower es) ≡ true → suc (depth_of plan here) ≤ 8
        by (origins.Request number) item of rest lower = rest lower
        by (origins.Aggregator from) item of rest lower = omega (arith, depth_child plan is from of.0, ap (depth_of plan) of.1, depth_most plan (actors.Aggregator from))

    pub can_take : (image : List ℕ → List ℕ) (w : WorldState) (aggregators : List AggregatorState) (k t : ℕ) (above : Above) → IsSound plan w → AreAggregators plan w.rounds aggregators → length above.chains ≤ depth_of plan (actors.Aggregator k) → CanTake image plan k t aggregators (contents.Response above)
    can_take image w aggregators k t above sound are few a at =
        let r = w.rounds k t in
        let state = sound.rounds k t in
        subst (λ r. HasPlace r above × (length (round_response image above r).sends ≤ length plan.parents)) (sym ((are.each k a at).keeps t)) (
          (λ lower. omega (arith, few, lower_depth (actors.Aggregator k) (length w.requests) (items_in r) (round_in k (length w.requests) r state).are lower)),
          few_responses image k (length w.requests) above r state,
        )
