use Rattle.std.proofs.Common.{◌≡◌}
use Rattle.std.specs.List.{AllByRecursion}
use Rattle.ksi_tlv.specs.Views.{view_placed, rest}
use Rattle.ksi_tlv.specs.Valid.{MayStand}
use Rattle.ksi_tlv.specs.Inside.{whole, inner_elements, first_of}
use Rattle.ksi_tlv.proofs.grammar.finder.first_inside.Given as goal

abbrev pub invariant-loop-item : goal.invariant-loop-item
invariant-loop-item g l =
    (first_of l.kind (whole (rest l.elements)) ≡ first_of l.kind (inner_elements (view_placed l.at)))
    × AllByRecursion (MayStand g.G.Grammar.table) (whole (rest l.elements))
