use Rattle.ksi_verifier.proofs.Levels.{tops_both, first_over}
use Rattle.ksi_verifier.proofs.laws.levels.Goals as goal

pub returns-clause-items : goal.returns-clause-items
returns-clause-items c = λ image chains nodes. tops_both image (λ start top links. c.one_climb.ensures.climbs image start top links) 0 0 chains nodes

pub returns-clause-over : goal.returns-clause-over
returns-clause-over c = λ image chains chain link level.
    first_over image (λ start top links. c.one_climb.ensures.climbs image start top links) (λ start links place high. c.one_climb.ensures.over image start links place high)
    (λ start top links. c.levels_rise.ensures.sum image start top links) chains chain link level
