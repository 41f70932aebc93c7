-- What is listed of the cores is what is kept.
use Rattle.std.proofs.Common.{◌≡◌, ℕ, ◌^◌, ◌<◌, ◌≤◌, cond, List, [], refl, ap, subst, ◌∙◌, arith, Option, Some, None}
use Rattle.std.specs.Prelude.{option_map, unwrap_or}
use Rattle.std.specs.Str.{bytes_eq}
use Rattle.ksi_imprint.specs.Imprints.{zero_imprint}
use Rattle.ksi_corenode.specs.SecondState.{SecondState}
use Rattle.ksi_corenode.specs.CoreState.{CoreState, state_of, held_by}
use Rattle.ksi_schedule.specs.Plans.{PlanState, InRange}
use Rattle.ksi_aggtree.specs.declared.second.Second.{Second}
use Rattle.ksi_world.specs.Histories.{WorldState, held_in}
use Rattle.ksi_world.specs.Sound.{IsSound}
use Rattle.ksi_world.specs.Nodes.{NodesState, AreCores, Fits}
use Rattle.ksi_world.specs.Records.{lowest, kept_root, kept_with, sealed_as, kept_items, kept_at, kept_among, kept_seconds}
use Rattle.ksi_world.specs.Deciding.{IsTold}
use Rattle.ksi_world.specs.Keeping.{root_among, sealed_among, items_among, second_among, AreIdle}
use Rattle.ksi_world.proofs.Fitting.{same_function}
use Rattle.ksi_world.proofs.Voting.{IsVoted}
use Rattle.ksi_world.proofs.Lowest.{first_lowest, first_none}

module _ (image : List ℕ → List ℕ) (plan : PlanState) (w : WorldState) where
  -- the cores show what the world's cores hold and sealed
  module _ (cores : List CoreState) (are : AreCores plan w.seconds cores) where
    root_is : (t : ℕ) → root_among cores t ≡ kept_root plan w t
    root_is t = first_lowest (λ (core : CoreState). held_by core t) (λ core. held_in w core t) cores 0
        (λ i j core is at. ap (λ (s : SecondState). s.vote.held) ((are.each j core at).keeps t) ∙ ap (λ j. held_in w j t) (omega (arith, is)))
        ∙ ap (λ n. lowest (λ core. held_in w core t) 0 n) are.many

    sealed_is : (t : ℕ) (root : List ℕ) → sealed_among image cores t root ≡ lowest (λ core. sealed_as image root (w.seconds core t).sealed) 0 plan.cores
    sealed_is t root = first_lowest (λ (core : CoreState). sealed_as image root (state_of core t).sealed) (λ core. sealed_as image root (w.seconds core t).sealed) cores 0
        (λ i j core is at. ap (λ (s : SecondState). sealed_as image root s.sealed) ((are.each j core at).keeps t) ∙ ap (λ j. sealed_as image root (w.seconds j t).sealed) (omega (arith, is)))
        ∙ ap (λ n. lowest (λ core. sealed_as image root (w.seconds core t).sealed) 0 n) are.many

    items_is : (t : ℕ) (root : List ℕ) → items_among image cores t root ≡ kept_items image plan w t root
    items_is t root = ap (λ o. cond (bytes_eq root zero_imprint) [] (unwrap_or o [])) (sealed_is t root)

    pub second_same : (t : ℕ) → second_among image cores t ≡ kept_at image plan w t
    unfolding second_among
    second_same t = by (root_among cores t) ∙ ap (option_map (λ root. kept_with t root (kept_items image plan w t root))) (root_is t)
      where
        by : (o : Option (List ℕ)) → option_map (λ root. kept_with t root (items_among image cores t root)) o ≡ option_map (λ root. kept_with t root (kept_items image plan w t root)) o
        by None = refl
        by (Some root) = ap (λ items. Some (kept_with t root items)) (items_is t root)

  module _ (voted : IsVoted image plan w.seconds w.wire) (sound : IsSound plan w) where
    told_range : (t : ℕ) → IsTold w.wire t → InRange plan t
    told_range t told = subst (λ t. InRange plan t) told.about (sound.wire told.number told.message told.at).second

    pub held_range : (j t : ℕ) (root : List ℕ) → held_in w j t ≡ Some root → InRange plan t
    held_range j t root held = told_range t (voted.told j t root held)

  pub listed_is : (nodes : NodesState) (kept : List Second) (start many : ℕ) → Fits plan w nodes → start ≡ plan.start → many ≡ 2 ^ 24 →
      kept ≡ kept_among (second_among image nodes.cores) start many → kept ≡ kept_seconds image plan w
  unfolding kept_seconds
  listed_is nodes kept start many fits begins all are =
      are
      ∙ ap (λ (f : ℕ → Option Second). kept_among f start many) (same_function (second_among image nodes.cores) (kept_at image plan w) (second_same nodes.cores fits.cores))
      ∙ ap (λ t. kept_among (kept_at image plan w) t many) begins
      ∙ ap (λ n. kept_among (kept_at image plan w) plan.start n) all

-- where no core holds anything, nothing is listed
pub none_listed : (image : List ℕ → List ℕ) (cores : List CoreState) (from end : ℕ) → AreIdle cores from end → (t : ℕ) → from ≤ t → t < end → second_among image cores t ≡ None
unfolding second_among
none_listed image cores from end idle t low up =
    ap (option_map (λ root. kept_with t root (items_among image cores t root))) (first_none (λ (core : CoreState). held_by core t) cores (λ j core at. idle j core at t low up))
