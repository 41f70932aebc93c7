use Rattle.ksi_split.proofs.Upward.{path_climbs}
use Rattle.ksi_split.proofs.Along.{sides_of_path}
use Rattle.ksi_split.proofs.Same.{path_same, path_length}
use Rattle.ksi_split.proofs.trees.one_path.Goals as goal

pub returns-clause-climbs : goal.returns-clause-climbs
returns-clause-climbs g c = λ join leaf last t le. path_climbs join leaf last t le

pub returns-clause-sides : goal.returns-clause-sides
returns-clause-sides g c = λ join leaf lo t n. sides_of_path join leaf lo t n

pub returns-clause-length : goal.returns-clause-length
returns-clause-length g c = λ join leaf lo t n k few. path_length join leaf k lo t n few

pub returns-clause-own_leaves : goal.returns-clause-own_leaves
returns-clause-own_leaves g c = λ join leaf other lo t n same. path_same join leaf other lo t n same
