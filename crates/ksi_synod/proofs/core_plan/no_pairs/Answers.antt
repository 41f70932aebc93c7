use Rattle.std.proofs.Common.{◌≡◌, ◌∙◌, replicate, ap, sym}
use Rattle.ksi_synod.specs.declared.core_plan.VotersFrom.{VotersFrom}
use Rattle.ksi_synod.specs.CorePlanFields.{no_pair}
use Rattle.ksi_synod.proofs.Planning.{padded-none}
use Rattle.ksi_synod.proofs.core_plan.no_pairs.Goals as goal

pub returns : goal.returns
returns c =
    let none : c.none.result ≡ no_pair.voters = c.none.ensures in
    ap (λ voters. replicate 256 (let pair : VotersFrom = record { second = 0; voters = voters } in pair)) none ∙ sym (padded-none 256)
