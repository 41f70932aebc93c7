use Rattle.ksi_beside.proofs.Walking.{first_is_clash, none_differs}
use Rattle.ksi_beside.proofs.laws.beside_a_tree.Goals as goal

pub returns-clause-clash : goal.returns-clause-clash
returns-clause-clash c = λ image kept node fits rungs above x y pair tree there fit holds is. first_is_clash image kept node fits tree rungs above x y pair there fit holds is

pub returns-clause-within : goal.returns-clause-within
returns-clause-within c = λ image kept node fits rungs above x y tree there fit holds is. none_differs image kept node fits tree rungs above x y there fit holds is
