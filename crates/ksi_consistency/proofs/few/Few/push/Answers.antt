use Rattle.std.proofs.Common.{◌≡◌, ◌≤◌, ◌∷◌, ◌++◌, [], length, take, sym, ap, ◌∙◌, arith, length-append}
use Rattle.std.proofs.lemmas.List.{take_all, length-take}
use Rattle.ksi_consistency.proofs.Keeping.{take_end}
use Rattle.ksi_consistency.proofs.few.Few.push.Goals as goal

pub returns-then-count-lt65 : goal.returns-then-count-lt65
returns-then-count-lt65 c =
    let before = take c.self.inside.count c.self.inside.imprints in
    let short : length (before ++ c.args.imprint ∷ []) ≤ 65 = omega (arith, length-append before (c.args.imprint ∷ []), length-take c.self.inside.count c.self.inside.imprints, c.if-count-lt65.true) in
    rw (← c.self.view_is) (c.append_at.ensures ∙ sym (take_all 65 (before ++ c.args.imprint ∷ []) short))

pub returns-else-count-lt65 : goal.returns-else-count-lt65
returns-else-count-lt65 c =
    rw (← c.self.view_is) (take_end c.self.inside.count c.self.inside.imprints c.args.imprint (omega (arith, c.if-count-lt65.false, c.self.invariant)) c.self.ranges.0.1.0.1)
