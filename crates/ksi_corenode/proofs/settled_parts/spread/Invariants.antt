use Rattle.std.proofs.Common.{◌≡◌, take, map}
use Rattle.ksi_corenode.specs.Stored.{bare_part}
use Rattle.ksi_corenode.proofs.settled_parts.spread.Given as goal

abbrev pub invariant-spreading : goal.invariant-spreading
invariant-spreading l = l.all.items ≡ map bare_part (take l.k l.roots)
