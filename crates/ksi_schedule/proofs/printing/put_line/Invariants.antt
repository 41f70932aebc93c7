use Rattle.std.proofs.Common.{◌≡◌, ◌++◌, drop, map}
use Rattle.ksi_schedule.specs.Printed.{piece_text, spaced, line_of}
use Rattle.ksi_schedule.proofs.printing.put_line.Given as goal

-- the text so far and the pieces to come make the line
abbrev pub invariant-loop-piece : goal.invariant-loop-piece
invariant-loop-piece l = l.text.items ++ spaced (map piece_text (drop l.piece-index l.rest)) ≡ l.fn.text.items ++ line_of (map piece_text l.fn.pieces)
