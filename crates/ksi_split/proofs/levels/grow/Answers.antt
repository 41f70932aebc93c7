use Rattle.std.proofs.Common.{◌∙◌, arith, below_more}
use Rattle.ksi_split.proofs.Powers.{halves_quotient}
use Rattle.ksi_split.proofs.levels.grow.Goals as goal

pub loop-level-preserved : goal.loop-level-preserved
loop-level-preserved g c =
    let level = c.loop-level.level in
    let inv = c.loop-level.invariant in
    let grown = c.in_ok-grow_one.ensures in
    record {
      rows = omega (arith, grown.len, inv.rows);
      kept = λ k. grown.kept k ∙ inv.kept k;
      room = below_more _ _
          (λ k lt. omega (arith, grown.others k (omega arith), inv.room k lt))
          (omega (arith, grown.room, halves_quotient level c.args.n, halves_quotient level c.args.end));
    }
