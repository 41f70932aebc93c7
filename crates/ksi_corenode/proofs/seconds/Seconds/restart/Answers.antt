use Rattle.std.proofs.Common.{rules}
use Rattle.ksi_corenode.specs.Stored.{volatile_at, second_of}
use Rattle.ksi_corenode.specs.CoreState.{state_of}
use Rattle.ksi_corenode.proofs.seconds.Seconds.restart.Goals as goal

pub returns-clause-seconds : goal.returns-clause-seconds
unfolding state_of second_of volatile_at
returns-clause-seconds g c = search rules
