use Rattle.std.proofs.Common.{rules}
use Rattle.ksi_synod.proofs.hand.InHand.begin.Goals as goal

pub returns-clause-hand : goal.returns-clause-hand
returns-clause-hand c = search rules

pub returns-clause-answer : goal.returns-clause-answer
returns-clause-answer c = search rules
