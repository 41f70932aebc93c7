use Rattle.std.proofs.Common.{rules}
use Rattle.ksi_aggregator.specs.Rows.{round_request}
use Rattle.ksi_aggregator.proofs.round.Round.request.Goals as goal

pub returns-clause-after : goal.returns-clause-after
unfolding round_request
returns-clause-after g c = search rules
