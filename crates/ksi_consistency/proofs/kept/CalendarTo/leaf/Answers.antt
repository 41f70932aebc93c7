use Rattle.std.proofs.Common.{◌+◌, arith}
use Rattle.ksi_consistency.proofs.Parts.{leaf_part}
use Rattle.ksi_consistency.proofs.kept.CalendarTo.leaf.Goals as goal

pub part-requires : goal.part-requires
part-requires g c = leaf_part c.one_split.ensures.split (c.args.self.now.last + 1) c.args.second (omega (arith, c.requires))
