use Rattle.std.proofs.Common.{◌≡◌, ℕ, length}
use Rattle.std.specs.Prelude.{nat_lt}
use Rattle.ksi_synod.specs.Voters.{is_flagged}
use Rattle.ksi_synod.proofs.voters.Voters.all.Given as goal

abbrev pub invariant-loop-core : goal.invariant-loop-core
invariant-loop-core l = record {
  nine : length l.flags ≡ 9;
  set : (core : ℕ) → is_flagged l.flags core ≡ nat_lt core l.core;
}
