use Rattle.std.proofs.Common.{◌+◌, ◌-◌, ◌∙◌, ℕ, sym, ap, arith, refl}
use Rattle.ksi_consistency.proofs.Cases.{power_below}
use Rattle.ksi_consistency.proofs.Fronts.{count_all, count_left, count_down_right}
use Rattle.ksi_consistency.proofs.proving.+needed.Goals as goal

pub returns-then-given-clause-count : goal.returns-then-given-clause-count
returns-then-given-clause-count t c = sym (count_all c.one_split.ensures.split (c.args.old + 1) (c.args.new + 1) c.args.given (omega arith) (omega (arith, c.if-old-new.true)) ∙ rw c.if-given.true refl)

pub returns-else-given-clause-count : goal.returns-else-given-clause-count
returns-else-given-clause-count t c = sym (count_all c.one_split.ensures.split (c.args.old + 1) (c.args.new + 1) c.args.given (omega arith) (omega (arith, c.if-old-new.true)) ∙ rw c.if-given.false refl)

pub overflow_add-result : goal.overflow_add-result
overflow_add-result t c =
    let h = c.high_bit-half.ensures in
    let most = power_below c.high_bit-half.result 63 h.power c.high_bit-half.type_inv in
    omega (arith, c.needed.ensures.few, most)

pub returns-then-old-half-clause-count : goal.returns-then-old-half-clause-count
returns-then-old-half-clause-count t c =
    let h = c.high_bit-half.ensures in
    let half = c.high_bit-half.result in
    ap (λ (x : ℕ). x + 1) c.needed.ensures.count
    ∙ sym (count_left c.one_split.ensures.split (c.args.old + 1) (c.args.new + 1) (half - 1 + 1) c.args.given (omega arith) (omega (arith, h.value, c.if-old-half.true)) (omega (arith, c.if-old-half.true)) (omega (arith, h.most, c.if-old-half.true)))

pub returns-else-old-half-clause-count : goal.returns-else-old-half-clause-count
returns-else-old-half-clause-count t c =
    let h = c.high_bit-half.ensures in
    let half = c.high_bit-half.result in
    ap (λ (x : ℕ). x + 1) c.needed-else-old-half.ensures.count
    ∙ sym (count_down_right c.one_split.ensures.split (c.args.old + 1) (c.args.new + 1) half (c.args.old - half + 1) (c.args.new - half + 1) c.args.given h.value (omega (arith, c.if-old-half.false)) (omega (arith, c.requires, c.if-old-new.false)) (omega (arith, c.if-old-half.false)) (omega (arith, h.most)))
