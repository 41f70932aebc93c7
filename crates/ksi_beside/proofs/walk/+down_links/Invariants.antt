use Rattle.std.proofs.Common.{length}
use Rattle.ksi_beside.proofs.walk.+down_links.Given as goal

abbrev pub decreases-down_links : goal.decreases-down_links
decreases-down_links g l = length l.links.now
