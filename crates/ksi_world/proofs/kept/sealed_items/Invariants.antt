use Rattle.std.proofs.Common.{◌≡◌, drop}
use Rattle.ksi_world.specs.Keeping.{sealed_among}
use Rattle.ksi_world.proofs.kept.sealed_items.Given as goal

abbrev pub invariant-asking : goal.invariant-asking
invariant-asking g l = sealed_among g.C.Compress.image (drop l.core-index l.cores) l.second l.root ≡ sealed_among g.C.Compress.image l.cores l.second l.root
