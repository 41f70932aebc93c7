use Rattle.ksi_tlv.proofs.Both.{told}
use Rattle.ksi_tlv.proofs.order.walking.walk.Goals as goal

pub returns-clause-told : goal.returns-clause-told
returns-clause-told g c = told _ _ _ _ _ _ c.go.ensures.exact
