use Rattle.std.proofs.Common.{sym, subst, arith}
use Rattle.ksi_aggtree.specs.Shapes.{IsShape}
use Rattle.ksi_aggtree.proofs.ShapeLemmas as lemmas
use Rattle.ksi_aggtree.proofs.chains.laws.one_shape.Goals as goal

pub returns-clause-shape : goal.returns-clause-shape
returns-clause-shape c = λ sides shape. (lemmas.one_shape sides shape, λ e. subst (IsShape sides) (sym e) (lemmas.shape_is sides))

pub returns-clause-same_sides : goal.returns-clause-same_sides
returns-clause-same_sides c = λ one other. lemmas.same_sides one other

pub returns-clause-fits : goal.returns-clause-fits
returns-clause-fits c = λ sides few. lemmas.shape_fits sides few

pub returns-clause-first : goal.returns-clause-first
returns-clause-first c = lemmas.first_power
