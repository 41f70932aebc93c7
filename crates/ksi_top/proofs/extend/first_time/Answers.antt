use Rattle.std.proofs.Common.{◌∙◌}
use Rattle.ksi_top.proofs.Extending.{first_seen}
use Rattle.ksi_top.proofs.extend.first_time.Goals as goal

pub returns : goal.returns
returns c = c.time.ensures.value ∙ first_seen c.chains-chains.result.now _ c.index-chains-0.result c.chains-chains.ensures.chains c.chains-chains.ensures.some c.index-chains-0.is
