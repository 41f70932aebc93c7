use Rattle.std.proofs.Common.{sym, subst}
use Rattle.ksi_blocks.specs.Loading.{Gives, Outcome}
use Rattle.ksi_blocks.specs.declared.report.Report.{Report}
use Rattle.ksi_blocks.proofs.line.line_saved.Goals as goal

pub returns-clause-told : goal.returns-clause-told
returns-clause-told g c = subst (λ (it : Outcome Report). Gives it c.finish.result) (sym c.in_ok-report.ensures) c.finish.ensures.told
