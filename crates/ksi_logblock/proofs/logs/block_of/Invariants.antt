use Rattle.std.proofs.Common.{◌≡◌, ◌++◌, length}
use Rattle.std.specs.List.{AllByRecursion}
use Rattle.ksi_logblock.specs.Logs.{IsShort, lines_of}
use Rattle.ksi_logblock.proofs.logs.block_of.Given as goal

-- the block has the lines before what is left, and each is short
abbrev pub invariant-lines : goal.invariant-lines
invariant-lines g l = record {
  seed : l.block.seed ≡ l.fn.seed;
  lines : l.block.lines ++ lines_of l.rest ≡ lines_of l.fn.log;
  short : AllByRecursion IsShort l.block.lines;
}

abbrev pub decreases-lines : goal.decreases-lines
decreases-lines g l = length l.rest
