use Rattle.std.proofs.Common.{rules}
use Rattle.ksi_corenode.proofs.node.Core.is_mine.Goals as goal

pub returns-then-eq : goal.returns-then-eq
returns-then-eq g c = search rules
