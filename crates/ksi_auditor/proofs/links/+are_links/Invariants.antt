use Rattle.std.proofs.Common.{length}
use Rattle.ksi_auditor.proofs.links.+are_links.Given as goal

abbrev pub decreases-are_links : goal.decreases-are_links
decreases-are_links l = length l.chains.now
