use Rattle.std.proofs.Common.{◌≡◌, false, take}
use Rattle.ksi_aggregator.specs.Responses.{has_lower}
use Rattle.ksi_aggregator.proofs.round.has_lower.Given as goal

abbrev pub invariant-looking : goal.invariant-looking
invariant-looking g l = has_lower (take l.k l.entries) ≡ false
