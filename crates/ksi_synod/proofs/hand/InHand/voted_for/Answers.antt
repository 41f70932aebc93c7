use Rattle.std.proofs.Common.{rules}
use Rattle.ksi_synod.proofs.hand.InHand.voted_for.Goals as goal

pub returns-then-not-self-from : goal.returns-then-not-self-from
returns-then-not-self-from c = search rules
