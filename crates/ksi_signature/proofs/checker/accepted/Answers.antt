use Rattle.std.proofs.Common.{rules}
use Rattle.ksi_signature.specs.File.{answer_of}
use Rattle.ksi_signature.proofs.checker.accepted.Goals as goal

pub returns-then-size-bytes-clause-ok : goal.returns-then-size-bytes-clause-ok
unfolding answer_of
returns-then-size-bytes-clause-ok c = search rules
