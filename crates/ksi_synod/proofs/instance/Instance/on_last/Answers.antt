use Rattle.std.proofs.Common.{refl}
use Rattle.ksi_synod.specs.Instance.{state_of}
use Rattle.ksi_synod.specs.Rows.{on_last}
use Rattle.ksi_synod.proofs.instance.Instance.on_last.Goals as goal

pub returns-clause-after : goal.returns-clause-after
unfolding on_last state_of
returns-clause-after c = rw (← c.self.view_is, c.in-Some.is, ← c.counts_last.ensures, c.if-not-counts_last.false, c.begin.ensures.hand, c.add_last.ensures) refl

pub returns-clause-answer : goal.returns-clause-answer
unfolding on_last state_of
returns-clause-answer c = rw (← c.self.view_is, c.in-Some.is, ← c.counts_last.ensures, c.if-not-counts_last.false, c.begin.ensures.answer, c.add_last.ensures) refl
