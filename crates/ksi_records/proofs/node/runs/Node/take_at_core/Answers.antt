use Rattle.std.proofs.Common.{subst}
use Rattle.ksi_records.specs.declared.node.runs.Node.{Node}
use Rattle.ksi_records.specs.Node.Steps.{IsAt, IsNode}
use Rattle.ksi_records.proofs.NodeRunLemmas.{core_may, said_by_core}
use Rattle.ksi_records.proofs.node.runs.Node.take_at_core.Goals as goal

pub core_block-requires-clause-may : goal.core_block-requires-clause-may
core_block-requires-clause-may g c =
    (core_may g.C.Compress.image c.args._plan.now g.row.C.Denot c.args._me c.in-Core.core c.args.number c.args.event c.requires.fits (subst (λ (node : Node g.row.C.Denot). IsNode c.args._plan.now c.args._me node) c.in-Core.is c.requires.node)).0

pub core_block-requires-clause-asked : goal.core_block-requires-clause-asked
core_block-requires-clause-asked g c =
    (core_may g.C.Compress.image c.args._plan.now g.row.C.Denot c.args._me c.in-Core.core c.args.number c.args.event c.requires.fits (subst (λ (node : Node g.row.C.Denot). IsNode c.args._plan.now c.args._me node) c.in-Core.is c.requires.node)).1

pub returns-in_ok-text-in-Core : goal.returns-in_ok-text-in-Core
returns-in_ok-text-in-Core g c = λ it at.
    said_by_core g.C.Compress.image c.args._plan.now g.row.C.Denot c.args._me c.in-Core.core c.core_block.new.core it c.args.number c.args.event c.from_vec.result c.in_ok-text-in-Core.text.items c.requires.fits
    (subst (λ (node : Node g.row.C.Denot). IsAt c.args._plan.now c.args._me node it) c.in-Core.is at) c.in_ok-text-in-Core.ensures c.from_vec.ensures
