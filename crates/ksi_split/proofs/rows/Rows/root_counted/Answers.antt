use Rattle.std.proofs.Common.{◌∙◌, ap}
use Rattle.ksi_split.specs.Upward.{node}
use Rattle.ksi_split.proofs.Powers.{halves_none}
use Rattle.ksi_split.proofs.Upward.{node_is_root}
use Rattle.ksi_split.specs.Leaves.{leaf_of}
use Rattle.ksi_split.proofs.rows.Rows.root_counted.Goals as goal

pub returns : goal.returns
returns g c =
    let joined = g.J.Joins.joined in
    let enough = c.levels.ensures.enough in
    c.border.ensures ∙ ap (node joined (leaf_of c.args.self.now) c.args.last c.levels.result) (halves_none c.levels.result c.args.last enough)
    ∙ node_is_root joined (leaf_of c.args.self.now) c.args.last c.levels.result enough
