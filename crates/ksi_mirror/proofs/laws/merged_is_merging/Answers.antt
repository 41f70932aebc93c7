use Rattle.ksi_mirror.proofs.MergedOf.{merged_iff, refused_iff}
use Rattle.ksi_mirror.proofs.laws.merged_is_merging.Goals as goal

pub returns-clause-merged : goal.returns-clause-merged
returns-clause-merged c = merged_iff

pub returns-clause-refused : goal.returns-clause-refused
returns-clause-refused c = refused_iff
