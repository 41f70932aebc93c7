use Rattle.ksi_verifier.proofs.Breaks.{joined_broken}
use Rattle.ksi_verifier.proofs.Chained.{some_joined}
use Rattle.ksi_verifier.proofs.Levels.{lead_climbs}
use Rattle.ksi_verifier.proofs.laws.joined.Goals as goal

pub returns-clause-leads : goal.returns-clause-leads
returns-clause-leads c = λ image chains node some. some_joined image (λ start top links. c.one_climb.ensures.climbs image start top links) chains node some

pub returns-clause-broken : goal.returns-clause-broken
returns-clause-broken c = λ image chains chain computed stated. joined_broken image (λ start top links. c.one_climb.ensures.climbs image start top links) chains chain computed stated

pub returns-clause-links : goal.returns-clause-links
returns-clause-links c = λ image chains start node leads.
    lead_climbs image (λ start top links. c.one_climb.ensures.climbs image start top links) (λ start middle top links more. c.one_after_another.ensures.together image start middle top links more) chains start node leads
