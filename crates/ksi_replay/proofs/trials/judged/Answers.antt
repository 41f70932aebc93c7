use Rattle.std.proofs.Common.{rules}
use Rattle.ksi_replay.proofs.trials.judged.Goals as goal

pub returns : goal.returns
returns c = search rules
