use Rattle.std.proofs.Common.{◌∙◌, sym}
use Rattle.ksi_schedule.proofs.Rising.{below-from_test}
use Rattle.ksi_schedule.proofs.members.with_core.Goals as goal

pub with-requires-clause-above : goal.with-requires-clause-above
with-requires-clause-above c = below-from_test c.args.core c.in_ok-voters.voters (sym c.are_below.ensures ∙ c.if-are_below.true)
