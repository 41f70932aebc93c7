use Rattle.std.proofs.Common.{◌≡◌, ◌+◌, length, ◌∙◌, sym, ap, arith}
use Rattle.ksi_split.specs.Upward.{node, halves}
use Rattle.ksi_split.proofs.Powers.{halves_rise, halves_quotient}
use Rattle.ksi_split.proofs.Upward.{node_whole}
use Rattle.ksi_split.specs.Leaves.{leaf_of}
use Rattle.ksi_split.proofs.rows.Rows.part_to.Goals as goal

pub part-requires-clause-within : goal.part-requires-clause-within
part-requires-clause-within g c =
    let rise = halves_rise c.args.level c.args.last (c.args.self.now.start + length c.args.self.now.items) (omega (arith, c.requires.covered)) in
    omega (arith, rise, halves_quotient c.args.level c.args.last, c.if-at-last.true)

pub returns-then-at-last : goal.returns-then-at-last
returns-then-at-last g c =
    c.part.ensures.part ∙ sym (node_whole g.J.Joins.joined (leaf_of c.args.self.now) c.args.last c.args.level c.args.at (omega (arith, halves_quotient c.args.level c.args.last, c.if-at-last.true)))

pub returns-else-at-last : goal.returns-else-at-last
returns-else-at-last g c =
    let at : halves c.args.level c.args.last ≡ c.args.at = omega (arith, halves_quotient c.args.level c.args.last, c.if-at-last.false, c.requires.within) in
    c.border.ensures ∙ ap (node g.J.Joins.joined (leaf_of c.args.self.now) c.args.last c.args.level) at
