use Rattle.std.proofs.Common.{◌≡◌}
use Rattle.std.specs.Prelude.{insert}
use Rattle.ksi_signature.proofs.arrays.insert_at.Given as goal

abbrev pub invariant-loop-k : goal.invariant-loop-k
invariant-loop-k g l = insert l.items l.k l.carried ≡ insert l.fn.items l.fn.place l.fn.item
