use Rattle.std.proofs.Common.{rules}
use Rattle.ksi_aggtree.proofs.meta.padding.Goals as goal

pub returns-then-n-eq0-clause-bytes : goal.returns-then-n-eq0-clause-bytes
returns-then-n-eq0-clause-bytes c = search rules
