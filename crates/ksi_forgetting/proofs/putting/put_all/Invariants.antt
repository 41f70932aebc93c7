use Rattle.ksi_forgetting.specs.Puts.{is_early, IsPutAll}
use Rattle.ksi_forgetting.proofs.putting.put_all.Given as goal

-- the records kept of the first k were appended
abbrev pub invariant-putting : goal.invariant-putting
invariant-putting l = IsPutAll (is_early l.start l.horizon) l.records l.k l.fn.text.items l.text.items l.count
