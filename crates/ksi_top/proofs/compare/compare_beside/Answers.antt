use Rattle.std.proofs.Common.{arith, rules}
use Rattle.ksi_top.specs.Compare.{compare_over}
use Rattle.ksi_top.proofs.Performing.{halted, performed_behind}
use Rattle.ksi_top.proofs.compare.compare_beside.Goals as goal

pub returns-in_err-new : goal.returns-in_err-new
returns-in_err-new g c =
    halted g.F.Files _ _ _ _ _ (λ j. (compare_over c.args.old.now j c.args.proof.now).ran) _ _ _ _ _ (λ j long. omega arith) c.in_err-new.ensures.loaded (search rules)

pub returns : goal.returns
returns g c =
    performed_behind g.F.Files _ _ _ _ _ (λ j. (compare_over c.args.old.now j c.args.proof.now).ran) _ _ _ _ _ _ _
    (λ tells report over. record { contents = _; journal_is = c.in_ok-new.ensures.is tells; over = over }) c.in_ok-new.ensures.loaded c.compare_over.ensures
