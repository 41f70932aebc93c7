use Rattle.std.proofs.Common.{IfSome}
use Rattle.ksi_records.specs.Node.Runs.{NodeState}
use Rattle.ksi_records.specs.Node.Steps.{IsAt}
use Rattle.ksi_records.proofs.NodeStreamLemmas.{IsSoFar}
use Rattle.ksi_records.proofs.node.stream.entry_by_entry.Given as goal

-- what was taken is entries that agree, and the node has what it has behind them
abbrev pub invariant-entries : goal.invariant-entries
invariant-entries g l = record {
  so_far : (it : NodeState) × IsAt l.plan l.me l.node it × IfSome (g.S.Read.remaining l.fn.log) (λ text. IsSoFar g.C.Compress.image l.plan l.me text (g.S.Read.remaining l.log) it l.place);
}
