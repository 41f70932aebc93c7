use Rattle.ksi_mirror.proofs.MergingMirrors.{roots_rise_by}
use Rattle.ksi_mirror.proofs.merging.union_of.Goals as goal

pub united-requires-clause-one : goal.united-requires-clause-one
united-requires-clause-one c = roots_rise_by c.args.one.now c.roots.result.now c.roots.ensures.mirror c.roots.ensures.roots

pub united-requires-clause-two : goal.united-requires-clause-two
united-requires-clause-two c = roots_rise_by c.args.two.now c.roots-2.result.now c.roots-2.ensures.mirror c.roots-2.ensures.roots
