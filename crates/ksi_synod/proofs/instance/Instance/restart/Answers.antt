use Rattle.std.proofs.Common.{rules}
use Rattle.ksi_synod.specs.Instance.{state_of}
use Rattle.ksi_synod.proofs.instance.Instance.restart.Goals as goal

pub returns : goal.returns
unfolding state_of
returns c = search rules
