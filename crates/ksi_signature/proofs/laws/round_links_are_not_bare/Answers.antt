use Rattle.ksi_signature.proofs.RoundLinks.{round_named}
use Rattle.ksi_signature.proofs.laws.round_links_are_not_bare.Goals as goal

pub returns : goal.returns
returns c = round_named
