use Rattle.std.proofs.Common.{◌<◌, length, ◌∙◌, sym, ap, arith}
use Rattle.std.proofs.lemmas.Bool.{eqb-true, eqb-false}
use Rattle.ksi_split.proofs.Rooms.{row_is, no_row}
use Rattle.ksi_split.proofs.levels.count.Goals as goal

pub returns-then-is_empty : goal.returns-then-is_empty
returns-then-is_empty g c =
    let none = eqb-true c.args.rows.now.len 0 (sym c.is_empty.ensures ∙ c.if-is_empty.true) in
    sym (ap length (no_row c.args.rows.now.items (omega (arith, c.args.rows.now.ok.0, none)) 0))

pub returns-else-is_empty : goal.returns-else-is_empty
returns-else-is_empty g c =
    let some = eqb-false c.args.rows.now.len 0 (sym c.is_empty.ensures ∙ c.if-is_empty.false) in
    let lt : 0 < length c.args.rows.now.items = omega (arith, c.args.rows.now.ok.0, some) in
    c.len.ensures ∙ sym (ap length (row_is c.args.rows.now.items 0 c.index.result.now lt c.index.ensures))
