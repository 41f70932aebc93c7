use Rattle.ksi_imprint.proofs.ChMaj.{maj_short}
use Rattle.ksi_imprint.proofs.stream.block256.maj.Goals as goal

pub returns : goal.returns
returns c = maj_short c.args.x c.args.y c.args.z
