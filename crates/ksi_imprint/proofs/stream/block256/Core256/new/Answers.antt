use Rattle.std.proofs.Common.{rules}
use Rattle.sha2.specs.Sha256.{hash_after}
use Rattle.ksi_imprint.specs.Held.{Holds}
use Rattle.ksi_imprint.proofs.stream.block256.Core256.new.Goals as goal

pub returns : goal.returns
unfolding Holds hash_after
returns c = search rules
