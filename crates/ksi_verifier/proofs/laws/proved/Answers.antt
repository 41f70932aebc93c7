use Rattle.ksi_verifier.proofs.Whole.{proved_both}
use Rattle.ksi_verifier.proofs.laws.proved.Goals as goal

pub returns : goal.returns
returns c = λ image signature hash publications proved.
    proved_both image (λ start top links. c.one_climb.ensures.climbs image start top links) (λ start top links. c.one_climb-2.ensures.value image start top links) c.one_answer.ensures.second signature hash publications proved
