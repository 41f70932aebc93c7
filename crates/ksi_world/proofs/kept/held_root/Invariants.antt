use Rattle.std.proofs.Common.{◌≡◌, drop}
use Rattle.ksi_world.specs.Keeping.{root_among}
use Rattle.ksi_world.proofs.kept.held_root.Given as goal

abbrev pub invariant-asking : goal.invariant-asking
invariant-asking g l = root_among (drop l.core-index l.cores) l.second ≡ root_among l.cores l.second
