use Rattle.std.proofs.Common.{◌≡◌, ◌+◌, ◌-◌, ◌∙◌, reverse, sym, ap, arith}
use Rattle.ksi_consistency.specs.declared.roots.Roots.{Roots}
use Rattle.ksi_consistency.specs.Checked.{roots_from, joined_left, joined_right}
use Rattle.ksi_consistency.proofs.Leading.{last_first, roots_none, roots_all, roots_left, roots_down_right}
use Rattle.ksi_consistency.proofs.proving.+check_part.Goals as goal

pub returns-in-None : goal.returns-in-None
returns-in-None g t c = sym (roots_none g.C.Compress.image c.args.given.now (c.args.old + 1) (c.args.new + 1) c.args.front.now c.in-None.ensures.cases)

pub returns-then-old-new : goal.returns-then-old-new
returns-then-old-new g t c =
    let image = g.C.Compress.image in
    let given = c.args.given.now in
    let x = c.in-Some.last.0.now in
    let inner = c.in-Some.last.1.now in
    let m = c.args.old + 1 in
    let n = c.args.new + 1 in
    sym (ap (roots_from image given m n) (last_first c.args.front.now inner x c.in-Some.ensures.cases.0) ∙ roots_all image given m n x (reverse inner) (omega (arith, c.if-old-new.true)))

pub returns-then-old-half : goal.returns-then-old-half
returns-then-old-half g t c =
    let image = g.C.Compress.image in
    let given = c.args.given.now in
    let x = c.in-Some.last.0.now in
    let inner = c.in-Some.last.1.now in
    let m = c.args.old + 1 in
    let n = c.args.new + 1 in
    let h = c.high_bit-half.ensures in
    let half = c.high_bit-half.result in
    let part = c.check_part-part.result in
    let both : record { old = part.old; new = c.join.result } ≡ joined_right image part x = λ i. record { old = part.old; new = c.join.ensures i } in
    both ∙ ap (λ (r : Roots). joined_right image r x) c.check_part-part.ensures
    ∙ sym (ap (roots_from image given m n) (last_first c.args.front.now inner x c.in-Some.ensures.cases.0)
    ∙ roots_left image given m n (half - 1 + 1) x (reverse inner) (λ e. c.if-old-new.false (omega (arith, e))) (omega (arith, h.value, c.if-old-half.true)) (omega (arith, c.if-old-half.true)))

pub returns-else-old-half : goal.returns-else-old-half
returns-else-old-half g t c =
    let image = g.C.Compress.image in
    let given = c.args.given.now in
    let x = c.in-Some.last.0.now in
    let inner = c.in-Some.last.1.now in
    let m = c.args.old + 1 in
    let n = c.args.new + 1 in
    let h = c.high_bit-half.ensures in
    let half = c.high_bit-half.result in
    let part = c.check_part-part-else-old-half.result in
    let both : record { old = c.join-else-old-half.result; new = c.join-else-old-half-2.result } ≡ joined_left image part x = λ i. record { old = c.join-else-old-half.ensures i; new = c.join-else-old-half-2.ensures i } in
    both ∙ ap (λ (r : Roots). joined_left image r x) c.check_part-part-else-old-half.ensures
    ∙ sym (ap (roots_from image given m n) (last_first c.args.front.now inner x c.in-Some.ensures.cases.0)
    ∙ roots_down_right image given m n half (c.args.old - half + 1) (c.args.new - half + 1) x (reverse inner) (λ e. c.if-old-new.false (omega (arith, e))) h.value (omega (arith, c.if-old-half.false)) (omega (arith, c.if-old-half.false)) (omega (arith, h.most)))
