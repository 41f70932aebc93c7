use Rattle.std.proofs.Common.{length-append, arith}
use Rattle.ksi_laws_progress.proofs.Deciding.{are_both}
use Rattle.ksi_laws_progress.proofs.laws.schedules_go_on.Goals as goal

pub returns : goal.returns
returns c = λ h later is may few. record {
  plan = is.plan;
  events = are_both h.plan h.events later is.events may;
  few = omega (arith, length-append h.events later, few);
}
