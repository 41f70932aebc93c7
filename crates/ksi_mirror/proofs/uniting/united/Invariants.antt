use Rattle.std.proofs.Common.{ℕ, ◌+◌, length}
use Rattle.ksi_mirror.proofs.ByKeys.{Merging}
use Rattle.ksi_mirror.proofs.uniting.united.Given as goal

-- what stands under the keys before some end is merged, and what is left stands behind it
abbrev pub invariant-merging : goal.invariant-merging
invariant-merging g l = (end : ℕ) × Merging g.E.Keyed.key end l.merged.items l.left l.right l.one l.two

abbrev pub decreases-merging : goal.decreases-merging
decreases-merging g l = length l.left + length l.right
