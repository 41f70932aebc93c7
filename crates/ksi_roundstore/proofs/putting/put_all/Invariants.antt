use Rattle.std.specs.Prelude.{◌&&◌, nat_lt}
use Rattle.std.specs.Ordering.{nat_cmp}
use Rattle.std.specs.BTreeSet.{contains}
use Rattle.ksi_roundstore.specs.Kinds.{IsPutAll}
use Rattle.ksi_roundstore.proofs.putting.put_all.Given as goal

-- what is left of so many records was put
abbrev pub invariant-putting : goal.invariant-putting
invariant-putting l = IsPutAll l.plan l.me (λ t. nat_lt t l.before && contains nat_cmp l.answered t) l.records l.k l.fn.text.items l.text.items l.count
