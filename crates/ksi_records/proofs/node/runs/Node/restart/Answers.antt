use Rattle.std.proofs.Common.{subst}
use Rattle.ksi_records.specs.declared.node.runs.Node.{Node}
use Rattle.ksi_records.specs.Node.Steps.{IsAt}
use Rattle.ksi_records.proofs.NodeRunLemmas.{round_restarts}
use Rattle.ksi_records.proofs.node.runs.Node.restart.Goals as goal

pub returns-in-Aggregator : goal.returns-in-Aggregator
returns-in-Aggregator g c = λ plan me it at.
    round_restarts g.row.C.Denot plan me c.in-Aggregator.aggregator c.restart-in-Aggregator.new.self it c.restart-in-Aggregator.ensures.me c.restart-in-Aggregator.ensures.rounds
    (subst (λ (node : Node g.row.C.Denot). IsAt plan me node it) c.in-Aggregator.is at)
