use Rattle.std.proofs.Common.{length}
use Rattle.ksi_consistency.proofs.proving.+check_part.Given as goal

abbrev pub decreases-check_part : goal.decreases-check_part
decreases-check_part g l = length l.front.now
