use Rattle.std.proofs.Common.{rules}
use Rattle.ksi_tlv.specs.Front.{element_at}
use Rattle.ksi_tlv.proofs.element.front.Goals as goal

pub returns-clause-exact : goal.returns-clause-exact
unfolding element_at
returns-clause-exact c = search rules
