use Rattle.std.proofs.Common.{◌≡◌, ◌+◌, length, ◌∙◌, ap, arith}
use Rattle.ksi_split.specs.Upward.{whole, halves}
use Rattle.ksi_split.specs.Leaves.{leaf_of, Leaves}
use Rattle.ksi_split.specs.Stored.{row_at}
use Rattle.ksi_split.proofs.Grown.{part_kept, part_within}
use Rattle.ksi_split.proofs.rows.Rows.part.Goals as goal

pub part-requires-clause-within : goal.part-requires-clause-within
part-requires-clause-within g c =
    let total : halves c.args.level (c.self.inside.zeros.start + length (row_at c.self.inside.rows.items 0)) ≡ halves c.args.level (c.args.self.now.start + length c.args.self.now.items)
    = ap (λ (v : Leaves g.row.N.Denot). halves c.args.level (v.start + length v.items)) c.self.view_is in
    part_within g.J.Joins.joined c.self.inside.zeros.start c.self.inside.zeros.leaf c.self.inside.rows.items c.args.level c.args.at c.self.invariant c.requires.few (omega (arith, total, c.requires.within))

pub returns-clause-part : goal.returns-clause-part
returns-clause-part g c =
    let total : halves c.args.level (c.self.inside.zeros.start + length (row_at c.self.inside.rows.items 0)) ≡ halves c.args.level (c.args.self.now.start + length c.args.self.now.items)
    = ap (λ (v : Leaves g.row.N.Denot). halves c.args.level (v.start + length v.items)) c.self.view_is in
    c.part.ensures.part ∙ part_kept g.J.Joins.joined c.self.inside.zeros.start c.self.inside.zeros.leaf c.self.inside.rows.items c.args.level c.args.at c.self.invariant c.requires.few (omega (arith, total, c.requires.within))
    ∙ ap (λ (v : Leaves g.row.N.Denot). whole g.J.Joins.joined (leaf_of v) c.args.level c.args.at) c.self.view_is
