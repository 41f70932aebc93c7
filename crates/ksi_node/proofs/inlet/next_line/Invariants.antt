use Rattle.std.specs.Prelude.{◌≤◌, length}
use Rattle.ksi_node.proofs.Pieces.{SoFar}
use Rattle.ksi_node.proofs.inlet.next_line.Given as goal

abbrev pub invariant-reading : goal.invariant-reading
invariant-reading g l = SoFar l.line.items l.is_long (g.R.Read.remaining l.fn.reader) (g.R.Read.remaining l.reader) × (length l.line.items ≤ 32000)
