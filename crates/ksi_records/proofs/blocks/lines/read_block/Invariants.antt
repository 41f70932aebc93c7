use Rattle.std.proofs.Common.{◌≡◌, List}
use Rattle.std.specs.List.{AllByRecursion}
use Rattle.std.specs.Io.KnownBytes.{Consumes}
use Rattle.ksi_schedule.specs.Pieces.{Text}
use Rattle.ksi_records.specs.Blocks.{IsInner, lines_text}
use Rattle.ksi_records.proofs.blocks.lines.read_block.Given as goal

-- the block is what was taken, and lines without a full stop
abbrev pub invariant-lines : goal.invariant-lines
invariant-lines g l = record {
  read : Consumes (g.S.Read.remaining l.fn.log) (g.S.Read.remaining l.log) l.block.items;
  lines : (lines : List Text) × AllByRecursion IsInner lines × (l.block.items ≡ lines_text lines);
}
