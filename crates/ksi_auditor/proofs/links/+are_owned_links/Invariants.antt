use Rattle.std.proofs.Common.{length}
use Rattle.ksi_auditor.proofs.links.+are_owned_links.Given as goal

abbrev pub decreases-are_owned_links : goal.decreases-are_owned_links
decreases-are_owned_links l = length l.chains.now
