use Rattle.std.proofs.Common.{[], ◌∷◌, codes}
use Rattle.std.proofs.lemmas.Result.{on_ok_weaker}
use Rattle.ksi_schedule.specs.Printed.{hex_of}
use Rattle.ksi_texts.specs.Words.{second_text}
use Rattle.ksi_texts.proofs.RowLemmas.{then_rows}
use Rattle.ksi_texts.proofs.calendar.put_published.Goals as goal

pub returns : goal.returns
returns c =
    on_ok_weaker _ (then_rows _ _ _ ((codes "publication record of second" ∷ second_text c.args.time ∷ []) ∷ []) ((codes "  root" ∷ hex_of c.args.hash.now ∷ []) ∷ []) c.in_ok-put.ensures) c.put-2.ensures
