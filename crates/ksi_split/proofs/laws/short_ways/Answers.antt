use Rattle.ksi_split.proofs.Leaves.{way_length}
use Rattle.ksi_split.proofs.laws.short_ways.Goals as goal

pub returns : goal.returns
returns c = λ t n k sides few h. way_length sides t n k few h
