use Rattle.std.proofs.Common.{take, sym, subst, arith, IfNone}
use Rattle.ksi_schedule.proofs.Cuts.{lacks_before}
use Rattle.ksi_roundstore.specs.Written.{IsLine}
use Rattle.ksi_roundstore.proofs.Cut.{lacks_line}
use Rattle.ksi_roundstore.proofs.Unread.{free_line}
use Rattle.ksi_roundstore.proofs.events.next_line.Goals as goal

pub returns-clause-line : goal.returns-clause-line
returns-clause-line c =
    let text = c.args.text.now in
    let place = c.in_ok-place.place in
    subst IsLine (sym c.split_at.ensures.front) (lacks_line (take place text) (lacks_before 10 place text (λ k lt. c.in_ok-place.ensures.0.before k (omega arith) lt)))

pub returns-in_err-place-clause-none : goal.returns-in_err-place-clause-none
returns-in_err-place-clause-none c =
    let text = c.args.text.now in
    subst (λ found. IfNone found (IsLine text)) (sym c.from_residual.ensures) (free_line text (λ k within. c.in_err-place.ensures k (omega arith) within))
