use Rattle.std.proofs.Common.{[], ◌∷◌, codes, Ok, Err}
use Rattle.std.proofs.lemmas.Result.{on_ok_weaker}
use Rattle.ksi_schedule.specs.Printed.{hex_of}
use Rattle.ksi_texts.specs.Calendar.{named_row}
use Rattle.ksi_texts.proofs.RowLemmas.{then_rows}
use Rattle.ksi_texts.proofs.calendar.put_end.Goals as goal

pub returns-in-Ok : goal.returns-in-Ok
returns-in-Ok c =
    rw c.in-Ok.is (on_ok_weaker _ (then_rows _ _ _ ((codes "  ends with" ∷ hex_of c.args.root.now ∷ []) ∷ []) (named_row (Ok c.in-Ok.second) ∷ []) c.in_ok-put.ensures) c.put-in-Ok.ensures)

pub returns-in-Err : goal.returns-in-Err
returns-in-Err c =
    rw c.in-Err.is (on_ok_weaker _ (then_rows _ _ _ ((codes "  ends with" ∷ hex_of c.args.root.now ∷ []) ∷ []) (named_row (Err c.in-Err.field-0) ∷ []) c.in_ok-put.ensures) c.put-in-Err.ensures)
