use Rattle.std.proofs.Common.{rules}
use Rattle.ksi_split.proofs.power.split.Goals as goal

pub returns-clause-power : goal.returns-clause-power
returns-clause-power c = search rules

pub returns-clause-value : goal.returns-clause-value
returns-clause-value c = search rules
