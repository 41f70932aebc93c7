use Rattle.std.proofs.Common.{ℕ, ◌+◌, ◌-◌, ◌<◌, take, length, sym, ap, ◌∙◌, arith, Some, None}
use Rattle.ksi_signature.specs.PartsLeft.{parts_left}
use Rattle.ksi_verifier.specs.ChainChecks.{same_parts}
use Rattle.ksi_verifier.proofs.Turns.{goes_on, stops, ends, one_fewer, equal, unequal}
use Rattle.ksi_verifier.proofs.index.compare_lent.Goals as goal

pub returns-then-ne : goal.returns-then-ne
returns-then-ne c =
    let i = c.parts.invariant in
    let left = i.left in
    let more = c.parts-test.true in
    stops c.args.k c.parts.place (c.args.count - 1 - (c.parts.place + 1)) (c.args.count - 1 - c.parts.place) (omega (arith, more)) c.next-low.result c.next-high.result
    (parts_left c.parts.lower) (parts_left c.next-low.new.self) (parts_left c.parts.higher) (parts_left c.next-high.new.self) (omega (arith, left, more)) c.next-low.ensures.steps c.next-high.ensures.steps
    (unequal c.next-low.result c.next-high.result c.ne.result c.ne.ensures c.if-ne.true)
    ∙ i.so_far ∙ ap (λ (n : ℕ). same_parts c.args.k 0 (take (n - 1) (parts_left c.args.lower)) (parts_left c.args.higher)) (sym c.requires.count)

pub parts-preserved : goal.parts-preserved
parts-preserved c =
    let i = c.parts.invariant in
    let left = i.left in
    let more = c.parts-test.true in
    let some : 0 < length (parts_left c.parts.lower) = omega (arith, left, more) in
    let fewer = one_fewer c.next-low.result (parts_left c.parts.lower) (parts_left c.next-low.new.self) some c.next-low.ensures.steps in
    record {
      so_far = goes_on c.args.k c.parts.place (c.args.count - 1 - (c.parts.place + 1)) (c.args.count - 1 - c.parts.place) (omega (arith, more)) c.next-low.result c.next-high.result
          (parts_left c.parts.lower) (parts_left c.next-low.new.self) (parts_left c.parts.higher) (parts_left c.next-high.new.self) some c.next-low.ensures.steps c.next-high.ensures.steps
          (equal c.next-low.result c.next-high.result c.ne.result c.ne.ensures c.if-ne.false)
          ∙ i.so_far;
      left = omega (arith, left, fewer);
      some = omega (arith, more);
    }

pub returns-in-None : goal.returns-in-None
returns-in-None c =
    let i = c.parts.invariant in
    let over = c.parts-test.false in
    ends c.args.k c.parts.place (c.args.count - 1 - c.parts.place) None (parts_left c.parts.lower) (parts_left c.parts.higher) (parts_left c.next.new.self) (omega (arith, over)) c.in-None.ensures.steps
    ∙ i.so_far ∙ ap (λ (n : ℕ). same_parts c.args.k 0 (take (n - 1) (parts_left c.args.lower)) (parts_left c.args.higher)) (sym c.requires.count)

pub returns-in-Some : goal.returns-in-Some
returns-in-Some c =
    let i = c.parts.invariant in
    let over = c.parts-test.false in
    ends c.args.k c.parts.place (c.args.count - 1 - c.parts.place) (Some c.in-Some.part) (parts_left c.parts.lower) (parts_left c.parts.higher) (parts_left c.next.new.self) (omega (arith, over)) c.in-Some.ensures.steps
    ∙ i.so_far ∙ ap (λ (n : ℕ). same_parts c.args.k 0 (take (n - 1) (parts_left c.args.lower)) (parts_left c.args.higher)) (sym c.requires.count)
