use Rattle.std.proofs.Common.{◌+◌, length, arith}
use Rattle.ksi_split.proofs.Powers.{halves_rise}
use Rattle.ksi_split.proofs.levels.add_all.Goals as goal

pub add_next-requires-clause-room : goal.add_next-requires-clause-room
add_next-requires-clause-room g c k =
    omega (arith, c.loop-i.invariant.room k, halves_rise k (c.args.n + c.loop-i.i + 1) (c.args.n + length c.args.leaves.now) (omega arith))
