use Rattle.std.proofs.Common.{IfOk, subst, sym}
use Rattle.ksi_records.specs.declared.head.Head.{Head}
use Rattle.ksi_records.specs.Steps.{IsAnswer}
use Rattle.ksi_records.proofs.tracer.Tracer.take.Goals as goal

pub returns-in-Restarted-clause-answer : goal.returns-in-Restarted-clause-answer
returns-in-Restarted-clause-answer g c =
    subst (λ (head : Head). IfOk c.restarted.result (IsAnswer g.C.Compress.image c.args.self.now.plan c.args.version c.args.self.now.events head c.args.came.now c.args.block.now))
    (sym c.in-Restarted.is) (c.restarted.ensures.answer c.args.version c.args.came.now)

pub returns-in-Sign-clause-answer : goal.returns-in-Sign-clause-answer
returns-in-Sign-clause-answer g c =
    subst (λ (head : Head). IfOk c.signed.result (IsAnswer g.C.Compress.image c.args.self.now.plan c.args.version c.args.self.now.events head c.args.came.now c.args.block.now))
    (sym c.in-Sign.is) (c.signed.ensures.answer c.args.version c.args.came.now)
