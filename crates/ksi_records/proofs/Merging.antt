-- The logs of nodes, each by itself, and all of them in one order.
use Rattle.std.proofs.Common.{◌≡◌, ◌==◌, ℕ, Bool, true, false, cond, List, [], ◌∷◌, refl, subst}
use Rattle.ksi_corenode.specs.SecondState.{SecondState}
use Rattle.ksi_corenode.specs.Rows.{restart_row}
use Rattle.ksi_aggregator.specs.Rows.{RoundState, round_restarted}
use Rattle.ksi_schedule.specs.Plans.{PlanState}
use Rattle.ksi_records.specs.Logs.{Deed, AggregatorAgrees, AggregatorStarts, AtAggregator, AtCore, CoreAgrees, CoreStarts, Which, core_after, core_says, log_of_aggregator, log_of_core, round_after, round_says}

module _ (image : List ℕ → List ℕ) (plan : PlanState) where
  -- of entries of all nodes, a core's own are enough
  pub core_among : (j : ℕ) (seconds : ℕ → SecondState) (deeds : List Deed) → CoreAgrees image plan j seconds (log_of_core j deeds) → CoreAgrees image plan j seconds deeds
  core_among j seconds [] agree = tt
  core_among j seconds (AtCore i event said ∷ deeds) agree =
      by (j == i) refl agree (λ own. core_among j (core_after image plan j seconds event) deeds own) (λ own. core_among j seconds deeds own)
    where
      by : (here : Bool) → (j == i) ≡ here → CoreAgrees image plan j seconds (cond here (AtCore i event said ∷ log_of_core j deeds) (log_of_core j deeds))
          → (CoreAgrees image plan j (core_after image plan j seconds event) (log_of_core j deeds) → CoreAgrees image plan j (core_after image plan j seconds event) deeds)
          → (CoreAgrees image plan j seconds (log_of_core j deeds) → CoreAgrees image plan j seconds deeds) → Which here ((said ≡ core_says image plan j seconds event) × CoreAgrees image plan j (core_after image plan j seconds event) deeds) (CoreAgrees image plan j seconds deeds)
      by true is agree goes passes = let own = subst (λ (b : Bool). Which b ((said ≡ core_says image plan j seconds event) × CoreAgrees image plan j (core_after image plan j seconds event) (log_of_core j deeds)) (CoreAgrees image plan j seconds (log_of_core j deeds))) is agree in (own.0, goes own.1)
      by false is agree goes passes = passes agree
  core_among j seconds (AtAggregator k event said ∷ deeds) agree = core_among j seconds deeds agree
  core_among j seconds (CoreStarts i ∷ deeds) agree = by (j == i) refl agree (λ own. core_among j (λ t. restart_row (seconds t)) deeds own) (λ own. core_among j seconds deeds own)
    where
      by : (here : Bool) → (j == i) ≡ here → CoreAgrees image plan j seconds (cond here (CoreStarts i ∷ log_of_core j deeds) (log_of_core j deeds))
          → (CoreAgrees image plan j (λ t. restart_row (seconds t)) (log_of_core j deeds) → CoreAgrees image plan j (λ t. restart_row (seconds t)) deeds)
          → (CoreAgrees image plan j seconds (log_of_core j deeds) → CoreAgrees image plan j seconds deeds)
          → Which here (CoreAgrees image plan j (λ t. restart_row (seconds t)) deeds) (CoreAgrees image plan j seconds deeds)
      by true is agree goes passes = goes (subst (λ (b : Bool). Which b (CoreAgrees image plan j (λ t. restart_row (seconds t)) (log_of_core j deeds)) (CoreAgrees image plan j seconds (log_of_core j deeds))) is agree)
      by false is agree goes passes = passes agree
  core_among j seconds (AggregatorStarts k ∷ deeds) agree = core_among j seconds deeds agree

  -- and an aggregator's own
  pub round_among : (k : ℕ) (rounds : ℕ → RoundState) (deeds : List Deed) → AggregatorAgrees image plan k rounds (log_of_aggregator k deeds) → AggregatorAgrees image plan k rounds deeds
  round_among k rounds [] agree = tt
  round_among k rounds (AtCore j event said ∷ deeds) agree = round_among k rounds deeds agree
  round_among k rounds (AtAggregator i event said ∷ deeds) agree =
      by (k == i) refl agree (λ own. round_among k (round_after image plan rounds event) deeds own) (λ own. round_among k rounds deeds own)
    where
      by : (here : Bool) → (k == i) ≡ here → AggregatorAgrees image plan k rounds (cond here (AtAggregator i event said ∷ log_of_aggregator k deeds) (log_of_aggregator k deeds))
          → (AggregatorAgrees image plan k (round_after image plan rounds event) (log_of_aggregator k deeds) → AggregatorAgrees image plan k (round_after image plan rounds event) deeds)
          → (AggregatorAgrees image plan k rounds (log_of_aggregator k deeds) → AggregatorAgrees image plan k rounds deeds) → Which here ((said ≡ round_says image plan k rounds event) × AggregatorAgrees image plan k (round_after image plan rounds event) deeds) (AggregatorAgrees image plan k rounds deeds)
      by true is agree goes passes = let own = subst (λ (b : Bool). Which b ((said ≡ round_says image plan k rounds event) × AggregatorAgrees image plan k (round_after image plan rounds event) (log_of_aggregator k deeds)) (AggregatorAgrees image plan k rounds (log_of_aggregator k deeds))) is agree in (own.0, goes own.1)
      by false is agree goes passes = passes agree
  round_among k rounds (CoreStarts j ∷ deeds) agree = round_among k rounds deeds agree
  round_among k rounds (AggregatorStarts i ∷ deeds) agree =
      by (k == i) refl agree (λ own. round_among k (λ t. round_restarted (rounds t)) deeds own) (λ own. round_among k rounds deeds own)
    where
      by : (here : Bool) → (k == i) ≡ here → AggregatorAgrees image plan k rounds (cond here (AggregatorStarts i ∷ log_of_aggregator k deeds) (log_of_aggregator k deeds))
          → (AggregatorAgrees image plan k (λ t. round_restarted (rounds t)) (log_of_aggregator k deeds) → AggregatorAgrees image plan k (λ t. round_restarted (rounds t)) deeds)
          → (AggregatorAgrees image plan k rounds (log_of_aggregator k deeds) → AggregatorAgrees image plan k rounds deeds)
          → Which here (AggregatorAgrees image plan k (λ t. round_restarted (rounds t)) deeds) (AggregatorAgrees image plan k rounds deeds)
      by true is agree goes passes = goes (subst (λ (b : Bool). Which b (AggregatorAgrees image plan k (λ t. round_restarted (rounds t)) (log_of_aggregator k deeds)) (AggregatorAgrees image plan k rounds (log_of_aggregator k deeds))) is agree)
      by false is agree goes passes = passes agree
