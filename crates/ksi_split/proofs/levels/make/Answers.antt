use Rattle.std.proofs.Common.{◌∙◌, arith}
use Rattle.ksi_split.proofs.Rooms.{row_pushed}
use Rattle.ksi_split.proofs.levels.make.Goals as goal

pub loop-level-preserved : goal.loop-level-preserved
loop-level-preserved g c = record {
  rows = (let l = c.in_ok-push.ensures.len in let r = c.loop-level.invariant.rows in omega arith);
  kept = λ k. rw c.in_ok-push.ensures.items (row_pushed c.loop-level.rows.items c.new.result c.new.ensures k ∙ c.loop-level.invariant.kept k);
}
