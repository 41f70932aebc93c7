use Rattle.ksi_verifier.specs.Chains.{plain_chains}
use Rattle.ksi_verifier.proofs.Chained.{chains_both, some_plain}
use Rattle.ksi_verifier.proofs.laws.aggregation.Goals as goal

pub returns : goal.returns
returns c = λ image signature aggregation some. chains_both image (λ start top links. c.one_climb.ensures.climbs image start top links) (plain_chains signature.chains) aggregation (some_plain signature.chains some)
