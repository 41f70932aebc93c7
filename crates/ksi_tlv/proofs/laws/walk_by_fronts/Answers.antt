use Rattle.ksi_tlv.proofs.WalkLaws.{elements-nil, elements-cons, elements-cut}
use Rattle.ksi_tlv.proofs.laws.walk_by_fronts.Goals as goal

pub returns-clause-nothing : goal.returns-clause-nothing
returns-clause-nothing c = elements-nil

pub returns-clause-found : goal.returns-clause-found
returns-clause-found c = elements-cons

pub returns-clause-cut : goal.returns-clause-cut
returns-clause-cut c = elements-cut
