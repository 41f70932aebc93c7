use Rattle.std.proofs.Common.{length}
use Rattle.ksi_logblock.proofs.locating.+have_imprints.Given as goal

abbrev pub decreases-have_imprints : goal.decreases-have_imprints
decreases-have_imprints l = length l.links.now
