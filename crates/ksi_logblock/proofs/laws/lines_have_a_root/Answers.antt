use Rattle.ksi_logblock.proofs.Roots.{block_some}
use Rattle.ksi_logblock.proofs.laws.lines_have_a_root.Goals as goal

pub returns : goal.returns
returns c = λ image block some. block_some image block some
