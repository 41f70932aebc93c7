use Rattle.std.proofs.Common.{List, ℕ, length, ◌≤◌, sym, subst}
use Rattle.ksi_world.proofs.laws.issued_is_short.Goals as goal

pub returns : goal.returns
returns c = λ image h images is are ask number text is_issued.
    let carried = c.issued_is_carried.ensures.issued image h images is are ask number text is_issued in
    let joined = carried.0 in
    subst (λ (text : List ℕ). length text ≤ 10000) (sym joined.text_is)
    (c.issued_is_signature.ensures.short joined.asked.second joined.asked.imprint joined.links joined.above carried.1)
