use Rattle.std.proofs.Common.{arith}
use Rattle.ksi_signature.proofs.Sizes.{is_long}
use Rattle.ksi_signature.proofs.bodies.put_body.Goals as goal

pub returns-then-size-gt-LONGEST-clause-long : goal.returns-then-size-gt-LONGEST-clause-long
returns-then-size-gt-LONGEST-clause-long c = is_long _ (omega arith)
