use Rattle.std.proofs.Common.{◌-◌, ◌^◌}
use Rattle.ksi_corenode.proofs.Counting.{AreCounted}
use Rattle.ksi_corenode.proofs.node.Core.counts.Given as goal

abbrev pub invariant-counting : goal.invariant-counting
invariant-counting g l = AreCounted l.self l.counts.sealed l.counts.held l.second

abbrev pub decreases-counting : goal.decreases-counting
decreases-counting g l = 2 ^ 63 - l.second
