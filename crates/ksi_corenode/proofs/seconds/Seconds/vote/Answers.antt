use Rattle.std.proofs.Common.{rules}
use Rattle.ksi_corenode.specs.Stored.{second_of}
use Rattle.ksi_corenode.specs.CoreState.{state_of}
use Rattle.ksi_corenode.proofs.seconds.Seconds.vote.Goals as goal

pub returns : goal.returns
unfolding state_of second_of
returns g c = search rules
