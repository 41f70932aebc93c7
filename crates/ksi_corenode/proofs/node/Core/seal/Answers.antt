use Rattle.ksi_corenode.specs.CoreState.{state_of}
use Rattle.ksi_corenode.specs.Rows.{seal_row}
use Rattle.ksi_corenode.proofs.Kept.{kept_after, seal_holds}
use Rattle.ksi_corenode.proofs.node.Core.seal.Goals as goal

pub invariant_of-self-2 : goal.invariant_of-self-2
invariant_of-self-2 g c =
    let old = c.self.inside.seconds in
    kept_after old c.seal.new.self c.args.second (seal_row g.C.Compress.image (state_of old c.args.second)).after c.seal.result c.self.inside.calendar c.seal.ensures.change c.seal.ensures.unchanged (seal_holds g.C.Compress.image (state_of old c.args.second)) c.self.invariant
