use Rattle.ksi_laws_forgetting.proofs.Guarding.{says_as, after_as}
use Rattle.ksi_laws_forgetting.proofs.cores.steps_are_not_noticed.Goals as goal

pub returns : goal.returns
returns c = record {
  says = λ image whole old new event step has taken is. says_as image whole old event has taken new step is;
  after = λ image whole old new left event step has taken is change. after_as image whole old event has taken new left step is change;
}
