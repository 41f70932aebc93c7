use Rattle.std.proofs.Common.{◌∙◌, refl}
use Rattle.ksi_laws_crashed.proofs.laws.openings_are_restarts.Goals as goal

pub returns : goal.returns
returns g c = record {
  core = λ me plan facts forgotten old file store is left opens stays. (stays ∙ is.settled.durable file left, (opens.0, opens.3.file, opens.2), refl);
  aggregator = λ me plan facts forgotten old file store is left opens stays. (stays ∙ is.settled.durable file left, (opens.0, opens.3.file, opens.2), refl);
}
