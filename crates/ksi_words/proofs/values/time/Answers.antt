use Rattle.std.proofs.Common.{rules}
use Rattle.ksi_words.specs.Sorts.{time_of}
use Rattle.ksi_words.proofs.values.time.Goals as goal

pub returns : goal.returns
unfolding time_of
returns c = search rules
