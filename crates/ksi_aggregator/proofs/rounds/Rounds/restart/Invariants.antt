use Rattle.std.proofs.Common.{◌≡◌, ℕ, length}
use Rattle.ksi_aggregator.specs.Rows.{round_restarted}
use Rattle.ksi_aggregator.specs.Rounds.{round_at}
use Rattle.ksi_aggregator.specs.Listed.{AreListed}
use Rattle.ksi_aggregator.proofs.rounds.Rounds.restart.Given as goal

abbrev pub invariant-forgetting : goal.invariant-forgetting
invariant-forgetting g l =
    AreListed l.self-inside.listed.items l.self-inside.map.entries
    × ((t : ℕ) → round_restarted (round_at l.self-inside.map.entries t) ≡ round_restarted (round_at l.initial.self-inside.map.entries t))

abbrev pub decreases-forgetting : goal.decreases-forgetting
decreases-forgetting g l = length l.self-inside.listed.items
