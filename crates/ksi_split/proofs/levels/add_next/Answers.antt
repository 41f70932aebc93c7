use Rattle.std.proofs.Common.{ℕ, ◌++◌, ◌∷◌, [], refl, ◌∙◌, sym, ap, arith}
use Rattle.ksi_split.specs.Leaves.{leaf_at}
use Rattle.ksi_split.specs.Stored.{row_at, row_of}
use Rattle.ksi_split.proofs.Complete.{one_more}
use Rattle.ksi_split.proofs.Grown.{rows_ready}
use Rattle.ksi_split.proofs.levels.add_next.Goals as goal

pub add-requires-clause-row : goal.add-requires-clause-row
add-requires-clause-row g c k few =
    let joined = g.J.Joins.joined in
    let start = c.args.zeros.now.start in
    let before = c.args.zeros.now.leaf in
    rows_ready joined start before c.args.rows.now.items c.args.rows.now.items c.args.leaf c.requires.rows (λ j. refl) k few
    ∙ ap (λ (n : ℕ). row_of joined (leaf_at start before (row_at c.args.rows.now.items 0 ++ c.args.leaf ∷ [])) start n k) (sym c.requires.count)

pub add-requires-clause-room : goal.add-requires-clause-room
add-requires-clause-room g c k le =
    omega (arith, one_more c.args.n c.completed-top.result k c.completed-top.ensures.ends le, c.requires.room k)
