use Rattle.ksi_aggtree.proofs.Metas.{name_low, meta_low}
use Rattle.ksi_aggtree.proofs.laws.metas_are_even.Goals as goal

pub returns-clause-bytes : goal.returns-clause-bytes
returns-clause-bytes c = meta_low

pub returns-clause-name : goal.returns-clause-name
returns-clause-name c = λ name is. name_low name is.each
