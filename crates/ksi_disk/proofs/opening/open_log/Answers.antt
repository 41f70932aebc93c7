use Rattle.std.proofs.Common.{◌≤◌, ◌∙◌, List, ℕ, [], length, ap, refl, arith}
use Rattle.std.proofs.lemmas.List.{drop_all}
use Rattle.ksi_disk.specs.Gates.{Reading, reading_at}
use Rattle.ksi_disk.proofs.Steps.{at_broken}
use Rattle.ksi_disk.proofs.opening.open_log.Goals as goal

pub returns-in-Ok-2-clause-opens : goal.returns-in-Ok-2-clause-opens
returns-in-Ok-2-clause-opens g c =
    let file = g.D.Disk.content c.args.disk in
    let short : length file ≤ c.args.from = omega (arith, c.in-Ok.ensures.told) in
    ap (λ (l : List ℕ). (reading_at c.args.from l).ending) (drop_all c.args.from file short) ∙ ap (λ (r : Reading). r.ending) (at_broken c.args.from [] refl)
