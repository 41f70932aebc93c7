use Rattle.ksi_corenode.specs.CoreState.{state_of}
use Rattle.ksi_corenode.specs.Rows.{submission_row}
use Rattle.ksi_corenode.proofs.Kept.{kept_after, submission_holds}
use Rattle.ksi_corenode.proofs.node.Core.submission.Goals as goal

pub invariant_of-self-2 : goal.invariant_of-self-2
invariant_of-self-2 g c =
    let old = c.self.inside.seconds in
    kept_after old c.submission.new.self c.args.second (submission_row c.args.aggregator c.args.item (state_of old c.args.second)).after c.submission.result c.self.inside.calendar c.submission.ensures.change c.submission.ensures.unchanged (submission_holds c.args.aggregator c.args.item (state_of old c.args.second)) c.self.invariant
