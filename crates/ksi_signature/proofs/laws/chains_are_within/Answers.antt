use Rattle.ksi_signature.proofs.Limited.{signature_within}
use Rattle.ksi_signature.proofs.laws.chains_are_within.Goals as goal

pub returns : goal.returns
returns c = signature_within c.inside_is_whole.ensures
