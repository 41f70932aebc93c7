use Rattle.std.proofs.Common.{arith}
use Rattle.ksi_consistency.proofs.Again.{each_of}
use Rattle.ksi_consistency.proofs.writer.put_imprints.Goals as goal

pub returns-clause-imprints : goal.returns-clause-imprints
returns-clause-imprints c = each_of c.args.list.now (λ k below. c.loop-imprint.invariant.imprints k (omega (arith, below, c.loop-imprint-test.false)))
