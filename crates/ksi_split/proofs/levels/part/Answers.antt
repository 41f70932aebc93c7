use Rattle.std.proofs.Common.{ℕ, ◌-◌, ◌<◌, length, get_or, List, ◌∙◌, sym, ap, arith}
use Rattle.ksi_split.specs.Upward.{halves}
use Rattle.ksi_split.proofs.Powers.{halves_quotient}
use Rattle.ksi_split.proofs.Rooms.{row_is, row_there}
use Rattle.ksi_split.proofs.Complete.{kept_before, kept_row}
use Rattle.ksi_split.proofs.levels.part.Goals as goal

pub part-requires : goal.part-requires
part-requires g c = omega (arith, halves_quotient c.args.level c.args.zeros.now.start, c.if-at-first.true)

pub index-requires : goal.index-requires
index-requires g c =
    let q = halves_quotient c.args.level c.args.zeros.now.start in
    let there = row_there c.args.rows.now.items c.args.level (c.args.at - halves c.args.level c.args.zeros.now.start) (omega (arith, q, c.requires.within, c.if-at-first.false)) in
    omega (arith, c.args.rows.now.ok.0, there)

pub read-requires : goal.read-requires
read-requires g c =
    let q = halves_quotient c.args.level c.args.zeros.now.start in
    let lt : c.args.level < length c.args.rows.now.items = row_there c.args.rows.now.items c.args.level (c.args.at - halves c.args.level c.args.zeros.now.start) (omega (arith, q, c.requires.within, c.if-at-first.false)) in
    let row = ap length (row_is c.args.rows.now.items c.args.level c.index.result.now lt c.index.ensures) in
    omega (arith, row, c.requires.within, c.if-at-first.false)

pub returns-then-at-first-clause-part : goal.returns-then-at-first-clause-part
returns-then-at-first-clause-part g c =
    let q = halves_quotient c.args.level c.args.zeros.now.start in
    c.part.ensures.part ∙ sym (kept_before g.J.Joins.joined c.args.zeros.now.start c.args.zeros.now.leaf c.args.rows.now.items c.args.level c.args.at (omega (arith, c.if-at-first.true)))

pub returns-else-at-first-clause-part : goal.returns-else-at-first-clause-part
returns-else-at-first-clause-part g c =
    let q = halves_quotient c.args.level c.args.zeros.now.start in
    let lt : c.args.level < length c.args.rows.now.items = row_there c.args.rows.now.items c.args.level (c.args.at - halves c.args.level c.args.zeros.now.start) (omega (arith, q, c.requires.within, c.if-at-first.false)) in
    let row = row_is c.args.rows.now.items c.args.level c.index.result.now lt c.index.ensures in
    let kept = kept_row g.J.Joins.joined c.args.zeros.now.start c.args.zeros.now.leaf c.args.rows.now.items c.args.level c.args.at (omega (arith, c.if-at-first.false)) in
    c.read.ensures.part c.args.zeros.now.leaf
    ∙ sym (kept ∙ ap (λ (xs : List _). get_or xs (c.args.at - halves c.args.level c.args.zeros.now.start) c.args.zeros.now.leaf) row ∙ ap (λ (i : ℕ). get_or c.index.result.now.parts (c.args.at - i) c.args.zeros.now.leaf) q)
