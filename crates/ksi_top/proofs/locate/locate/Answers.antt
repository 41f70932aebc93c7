use Rattle.std.proofs.Common.{List, ℕ, subst, arith, rules}
use Rattle.ksi_top.specs.Loading.{content}
use Rattle.ksi_top.specs.Locate.{IsLocated, locate_beside}
use Rattle.ksi_top.proofs.Performing.{halted, performed_behind}
use Rattle.ksi_top.proofs.locate.locate.Goals as goal

pub returns-in_err-log : goal.returns-in_err-log
returns-in_err-log g c =
    halted g.F.Files _ _ _ _ _ (λ log. (locate_beside log c.args.seed.now c.args.line.now c.args.proof.now).ran) _ _ _ _ _ (λ log long. omega arith) c.in_err-log.ensures.loaded (search rules)

pub returns : goal.returns
returns g c =
    performed_behind g.F.Files _ _ _ _ _ (λ log. (locate_beside log c.args.seed.now c.args.line.now c.args.proof.now).ran) _ _ _ _ _ _ _
    (λ tells report is. subst (λ (log : List ℕ). IsLocated c.args.seed.now log (content (g.F.Files.held c.args.files.now) c.args.line.now) (content (g.F.Files.held c.args.files.now) c.args.proof.now) report) (c.in_ok-log.ensures.whole tells) is)
    c.in_ok-log.ensures.loaded (rw c.as_slice.ensures at c.locate_beside.ensures)
