use Rattle.std.proofs.Common.{refl}
use Rattle.ksi_synod.specs.Flags.{flagged_cores}
use Rattle.ksi_synod.proofs.voters.Voters.none.Goals as goal

pub returns : goal.returns
unfolding flagged_cores
returns c = refl
