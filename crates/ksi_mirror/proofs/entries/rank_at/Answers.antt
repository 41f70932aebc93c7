use Rattle.std.proofs.Common.{rules}
use Rattle.ksi_mirror.proofs.entries.rank_at.Goals as goal

pub returns : goal.returns
returns c = search rules
