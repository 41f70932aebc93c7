use Rattle.std.proofs.Common.{rules}
use Rattle.ksi_synod.specs.Rows.{on_begin}
use Rattle.ksi_synod.specs.Instance.{state_of}
use Rattle.ksi_synod.proofs.instance.Instance.on_begin.Goals as goal

pub returns-then-older-clause-after : goal.returns-then-older-clause-after
unfolding state_of on_begin
returns-then-older-clause-after c = search rules

pub returns-then-older-clause-answer : goal.returns-then-older-clause-answer
unfolding state_of on_begin
returns-then-older-clause-answer c = search rules

pub returns-then-older-clause-votes : goal.returns-then-older-clause-votes
unfolding state_of on_begin
returns-then-older-clause-votes c = search rules
