use Rattle.std.proofs.Common.{rules}
use Rattle.ksi_mirror.proofs.entries.Tuple2U64ImprintKeyed.is_same.Goals as goal

pub returns-then-self-other : goal.returns-then-self-other
returns-then-self-other c = search rules
