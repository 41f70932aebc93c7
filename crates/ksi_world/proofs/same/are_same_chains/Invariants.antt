use Rattle.std.proofs.Common.{◌≡◌, take, length}
use Rattle.ksi_world.proofs.same.are_same_chains.Given as goal

abbrev pub invariant-chains : goal.invariant-chains
invariant-chains l = record { len : length l.some ≡ length l.others; same : take l.k l.some ≡ take l.k l.others }
