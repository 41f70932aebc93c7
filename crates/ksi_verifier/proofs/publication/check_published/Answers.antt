use Rattle.std.proofs.Common.{rules}
use Rattle.ksi_verifier.proofs.publication.check_published.Goals as goal

pub returns-in-Ok : goal.returns-in-Ok
returns-in-Ok g c = search rules
