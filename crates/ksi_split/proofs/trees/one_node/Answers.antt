use Rattle.std.proofs.Common.{ap}
use Rattle.ksi_split.specs.Trees.{node_in}
use Rattle.ksi_split.proofs.Fronts.{part_is, passed_at}
use Rattle.ksi_split.proofs.trees.one_node.Goals as goal

pub returns-clause-some : goal.returns-clause-some
returns-clause-some g c = λ join leaf last first count sides h. ap (node_in join leaf) (part_is _ first count sides h)

pub returns-clause-none : goal.returns-clause-none
returns-clause-none g c = λ join leaf last place sides h. ap (node_in join leaf) (passed_at last place sides h)
