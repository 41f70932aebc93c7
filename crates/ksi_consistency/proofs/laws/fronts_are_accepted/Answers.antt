use Rattle.ksi_consistency.proofs.Accepting.{front_counted, front_accepted}
use Rattle.ksi_consistency.proofs.laws.fronts_are_accepted.Goals as goal

pub returns-clause-count : goal.returns-clause-count
returns-clause-count c = λ image seconds p1 p2 within. front_counted image seconds p1 p2

pub returns-clause-accepted : goal.returns-clause-accepted
returns-clause-accepted c = λ image. front_accepted c.one_split.ensures.split image (c.one_calendar.ensures.cut image) (c.one_calendar.ensures.own_seconds image)
