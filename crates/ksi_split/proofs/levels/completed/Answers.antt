use Rattle.std.proofs.Common.{◌≡◌, ◌≢◌, ◌/◌, ℕ, ◌%◌, ap, ◌∙◌, sym, arith, below_more, add-one}
use Rattle.ksi_split.specs.Upward.{halves}
use Rattle.ksi_split.proofs.Powers.{levels_below}
use Rattle.ksi_split.proofs.levels.completed.Goals as goal

pub loop-at-preserved : goal.loop-at-preserved
loop-at-preserved c =
    let odd : halves c.loop-at.level c.args.n % 2 ≡ 1 = ap (λ (i : ℕ). i % 2) (sym c.loop-at.invariant.at) ∙ c.loop-at-test.true in
    record {
      at = rw add-one (ap (λ (i : ℕ). i / 2) c.loop-at.invariant.at);
      odd = below_more _ _ c.loop-at.invariant.odd odd;
      few = omega (arith, levels_below c.loop-at.level 63 c.args.n c.requires (omega arith));
    }

pub returns-clause-ends : goal.returns-clause-ends
returns-clause-ends c = record { odd = c.loop-at.invariant.odd; even = (let not_odd = c.loop-at-test.false in let e = ap (λ (i : ℕ). i % 2) c.loop-at.invariant.at in let r : c.loop-at.at % 2 ≢ 1 = not_odd in omega arith) }
