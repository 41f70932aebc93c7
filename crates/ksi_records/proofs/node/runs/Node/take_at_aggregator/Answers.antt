use Rattle.std.proofs.Common.{refl, subst}
use Rattle.ksi_records.specs.declared.node.runs.Node.{Node}
use Rattle.ksi_records.specs.Node.Steps.{IsAt}
use Rattle.ksi_records.proofs.NodeRunLemmas.{said_by_round}
use Rattle.ksi_records.proofs.node.runs.Node.take_at_aggregator.Goals as goal

pub returns-in_ok-text-in-Aggregator : goal.returns-in_ok-text-in-Aggregator
returns-in_ok-text-in-Aggregator g c = λ it at.
    said_by_round g.C.Compress.image c.args.plan.now g.row.C.Denot c.args._me c.in-Aggregator.aggregator c.round_block.new.aggregator it c.args.number c.args.event c.from_vec.result c.in_ok-text-in-Aggregator.text.items c.requires.fits
    (subst (λ (node : Node g.row.C.Denot). IsAt c.args.plan.now c.args._me node it) c.in-Aggregator.is at) c.in_ok-text-in-Aggregator.ensures.me (c.if-not-is_due.ensures.may refl) c.in_ok-text-in-Aggregator.ensures.turn c.from_vec.ensures
