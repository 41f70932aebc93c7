use Rattle.std.proofs.Common.{sym, arith}
use Rattle.std.proofs.lemmas.List.{length-take-le}
use Rattle.ksi_auditor.proofs.laying.item_named.Goals as goal

pub slice_bounds-second_of-end : goal.slice_bounds-second_of-end
slice_bounds-second_of-end c =
    let place = c.in-Err-TooMany.place in
    let passes = rw c.in-Err-TooMany.field-0-is at c.in-Err-TooMany.is in
    let more = ((c.second_of.ensures.too_many place).0 passes).more in
    sym (length-take-le place c.args.sides.now (omega (arith, more)))
