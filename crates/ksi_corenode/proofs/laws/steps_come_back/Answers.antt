use Rattle.ksi_corenode.proofs.Coming.{comes_back_with}
use Rattle.ksi_corenode.proofs.laws.steps_come_back.Goals as goal

pub returns : goal.returns
returns c = comes_back_with
