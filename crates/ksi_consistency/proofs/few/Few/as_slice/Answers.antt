use Rattle.std.proofs.Common.{◌≡◌, ◌≤◌, length, take, arith}
use Rattle.std.proofs.lemmas.List.{take_all, length-take}
use Rattle.ksi_consistency.proofs.few.Few.as_slice.Goals as goal

pub returns-clause-few : goal.returns-clause-few
returns-clause-few c =
    let short : length (take c.self.inside.count c.self.inside.imprints) ≤ 65 = omega (arith, length-take c.self.inside.count c.self.inside.imprints, c.self.invariant) in
    rw (← c.self.view_is) (take_all 65 (take c.self.inside.count c.self.inside.imprints) short)
