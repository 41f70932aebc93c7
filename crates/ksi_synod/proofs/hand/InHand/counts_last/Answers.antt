use Rattle.std.proofs.Common.{rules}
use Rattle.ksi_synod.proofs.hand.InHand.counts_last.Goals as goal

pub returns-then-contains : goal.returns-then-contains
returns-then-contains c = search rules
