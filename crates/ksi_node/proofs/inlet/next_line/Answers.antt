use Rattle.std.proofs.Common.{sym, subst, rules}
use Rattle.ksi_node.specs.declared.inlet.Piece.TheVariants as pieces
use Rattle.ksi_node.specs.Inlet.{HasCome, PieceTaken}
use Rattle.ksi_node.proofs.Pieces.{has_come, more_so_far}
use Rattle.ksi_node.proofs.inlet.next_line.Goals as goal

pub returns-then-ne-clause-came : goal.returns-then-ne-clause-came
returns-then-ne-clause-came g c =
    subst (λ came. HasCome came c.take_piece.new.line.items (g.R.Read.remaining c.args.reader.now) (g.R.Read.remaining c.take_piece.new.reader)) (sym c.came_of.ensures)
    (has_come c.in_ok-piece.piece c.reading.line.items c.take_piece.new.line.items c.reading.is_long c.take_piece.new.is_long (g.R.Read.remaining c.args.reader.now) (g.R.Read.remaining c.reading.reader)
    (g.R.Read.remaining c.take_piece.new.reader) c.reading.invariant.0 c.in_ok-piece.ensures.taken (search rules))

pub reading-preserved : goal.reading-preserved
reading-preserved g c = (
  more_so_far c.reading.line.items c.take_piece.new.line.items c.reading.is_long c.take_piece.new.is_long (g.R.Read.remaining c.args.reader.now) (g.R.Read.remaining c.reading.reader)
      (g.R.Read.remaining c.take_piece.new.reader) c.reading.invariant.0
      (subst (λ piece. PieceTaken piece c.reading.line.items c.reading.is_long c.take_piece.new.line.items c.take_piece.new.is_long (g.R.Read.remaining c.reading.reader) (g.R.Read.remaining c.take_piece.new.reader)) {y = pieces.More} (search rules) c.in_ok-piece.ensures.taken),
  c.take_piece.ensures.few c.reading.invariant.1,
)
