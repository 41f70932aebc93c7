use Rattle.ksi_mirror.proofs.JoiningMirrors.{same_mirror}
use Rattle.ksi_mirror.proofs.laws.mirror_is_what_it_has.Goals as goal

pub returns : goal.returns
returns c = same_mirror
