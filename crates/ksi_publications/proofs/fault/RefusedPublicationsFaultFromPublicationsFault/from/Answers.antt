use Rattle.std.proofs.Common.{rules}
use Rattle.ksi_publications.proofs.fault.RefusedPublicationsFaultFromPublicationsFault.from.Goals as goal

pub returns : goal.returns
returns c = search rules
