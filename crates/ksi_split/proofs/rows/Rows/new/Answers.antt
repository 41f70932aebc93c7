use Rattle.std.proofs.Common.{length, ap, arith, refl}
use Rattle.ksi_split.proofs.Rooms.{no_row}
use Rattle.ksi_split.proofs.Grown.{empty_are}
use Rattle.ksi_split.proofs.rows.Rows.new.Goals as goal

pub invariant_of-result : goal.invariant_of-result
invariant_of-result g c =
    empty_are g.J.Joins.joined c.in_ok-zeros.zeros.start c.in_ok-zeros.zeros.leaf c.new-2.result.items (omega (arith, c.requires, c.in_ok-zeros.ensures.start)) (no_row c.new-2.result.items (ap length c.new-2.ensures.items))

pub returns-clause-made : goal.returns-clause-made
returns-clause-made g c =
    let none = no_row c.new-2.result.items (ap length c.new-2.ensures.items) 0 in
    rw (c.in_ok-zeros.ensures.start, c.in_ok-zeros.ensures.leaf, none) refl
