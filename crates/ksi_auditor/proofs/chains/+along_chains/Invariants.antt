use Rattle.std.proofs.Common.{length}
use Rattle.ksi_auditor.proofs.chains.+along_chains.Given as goal

abbrev pub decreases-along_chains : goal.decreases-along_chains
decreases-along_chains g l = length l.chains.now
