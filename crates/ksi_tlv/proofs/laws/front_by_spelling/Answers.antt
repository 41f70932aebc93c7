use Rattle.ksi_tlv.proofs.FrontLaws.{element_at-front, element_at-spelled, element_at-cut}
use Rattle.ksi_tlv.proofs.laws.front_by_spelling.Goals as goal

pub returns-clause-found : goal.returns-clause-found
returns-clause-found c = element_at-front

pub returns-clause-spelled : goal.returns-clause-spelled
returns-clause-spelled c = element_at-spelled

pub returns-clause-cut : goal.returns-clause-cut
returns-clause-cut c = element_at-cut
