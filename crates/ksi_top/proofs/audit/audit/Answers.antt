use Rattle.std.proofs.Common.{arith, rules}
use Rattle.ksi_top.specs.Audit.{audit_beside}
use Rattle.ksi_top.proofs.Performing.{halted, performed_behind}
use Rattle.ksi_top.proofs.audit.audit.Goals as goal

pub returns-in_err-journal : goal.returns-in_err-journal
returns-in_err-journal g c =
    halted g.F.Files _ _ _ _ _ (λ j. (audit_beside j c.args.signature.now c.args.hash.now c.args.publications.now).ran) _ _ _ _ _ (λ j long. omega arith) c.in_err-journal.ensures.loaded (search rules)

pub returns : goal.returns
returns g c =
    performed_behind g.F.Files _ _ _ _ _ (λ j. (audit_beside j c.args.signature.now c.args.hash.now c.args.publications.now).ran) _ _ _ _ _ _ _
    (λ tells report beside. record { contents = _; journal_is = c.in_ok-journal.ensures.is tells; beside = beside }) c.in_ok-journal.ensures.loaded c.audit_beside.ensures
