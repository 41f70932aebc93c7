use Rattle.ksi_tlv.proofs.FrontLaws.{Spells-canonical, canonical-shortest}
use Rattle.ksi_tlv.proofs.laws.canonical_is_shortest.Goals as goal

pub returns-clause-spells : goal.returns-clause-spells
returns-clause-spells c = Spells-canonical

pub returns-clause-shortest : goal.returns-clause-shortest
returns-clause-shortest c = canonical-shortest
