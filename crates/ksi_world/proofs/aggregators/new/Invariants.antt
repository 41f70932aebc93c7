use Rattle.std.proofs.Common.{◌≡◌, ℕ, Some, length}
use Rattle.std.specs.Prelude.{slice_get}
use Rattle.ksi_aggregator.specs.Rows.{fresh_round}
use Rattle.ksi_aggregator.specs.Rounds.{AggregatorState}
use Rattle.ksi_world.specs.Nodes.{IsAggregator}
use Rattle.ksi_world.proofs.aggregators.new.Given as goal

abbrev pub invariant-adding : goal.invariant-adding
invariant-adding g l = record {
  many : length l.aggregators.items ≡ l.me;
  each : (k : ℕ) (aggregator : AggregatorState) → slice_get l.aggregators.items k ≡ Some aggregator → IsAggregator (λ t. fresh_round) k aggregator;
}
