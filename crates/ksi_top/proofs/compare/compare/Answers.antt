use Rattle.std.proofs.Common.{arith, rules}
use Rattle.ksi_top.specs.Compare.{compare_beside}
use Rattle.ksi_top.proofs.Performing.{halted, performed_behind}
use Rattle.ksi_top.proofs.compare.compare.Goals as goal

pub returns-in_err-old : goal.returns-in_err-old
returns-in_err-old g c =
    halted g.F.Files _ _ _ _ _ (λ j. (compare_beside j c.args.new.now c.args.proof.now).ran) _ _ _ _ _ (λ j long. omega arith) c.in_err-old.ensures.loaded (search rules)

pub returns : goal.returns
returns g c =
    performed_behind g.F.Files _ _ _ _ _ (λ j. (compare_beside j c.args.new.now c.args.proof.now).ran) _ _ _ _ _ _ _
    (λ tells report beside. record { contents = _; journal_is = c.in_ok-old.ensures.is tells; beside = beside }) c.in_ok-old.ensures.loaded c.compare_beside.ensures
