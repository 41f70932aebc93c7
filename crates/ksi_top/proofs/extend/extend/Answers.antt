use Rattle.std.proofs.Common.{arith, rules}
use Rattle.ksi_top.specs.Extend.{extend_over}
use Rattle.ksi_top.proofs.Performing.{halted, performed_behind}
use Rattle.ksi_top.proofs.extend.extend.Goals as goal

pub returns-in_err-journal : goal.returns-in_err-journal
returns-in_err-journal g c =
    halted g.F.Files _ _ _ _ _ (λ j. (extend_over j c.args.signature.now c.args.second c.args.out.now).ran) _ _ _ _ _ (λ j long. omega arith) c.in_err-journal.ensures.loaded (search rules)

pub returns : goal.returns
returns g c =
    performed_behind g.F.Files _ _ _ _ _ (λ j. (extend_over j c.args.signature.now c.args.second c.args.out.now).ran) _ _ _ _ _ _ _
    (λ tells report over. record { contents = _; journal_is = c.in_ok-journal.ensures.is tells; over = over }) c.in_ok-journal.ensures.loaded c.extend_over.ensures
