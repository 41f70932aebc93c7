use Rattle.std.proofs.Common.{arith}
use Rattle.ksi_mirror.proofs.Differences.{differ_here, same_here, ends_differ, not_same}
use Rattle.ksi_mirror.proofs.entries.first_difference.Goals as goal

pub returns-then-not-is_same_item : goal.returns-then-not-is_same_item
returns-then-not-is_same_item c =
    let lt = c.comparing-test.true in
    let both = c.min-both.ensures in
    differ_here c.args.one.now c.args.two.now c.comparing.place (omega (arith, lt, both)) (omega (arith, lt, both)) c.index-one-place.result c.index-two-place.result c.index-one-place.is c.index-two-place.is c.comparing.invariant
    (not_same c.index-one-place.result c.index-two-place.result c.is_same_item.result c.is_same_item.ensures c.if-not-is_same_item.true)

pub comparing-preserved : goal.comparing-preserved
comparing-preserved c =
    let lt = c.comparing-test.true in
    let both = c.min-both.ensures in
    same_here c.args.one.now c.args.two.now c.comparing.place (omega (arith, lt, both)) (omega (arith, lt, both)) c.index-one-place.result c.index-two-place.result c.index-one-place.is c.index-two-place.is c.comparing.invariant
    (c.is_same_item.ensures.0 c.if-not-is_same_item.false)

pub returns-else-one-two : goal.returns-else-one-two
returns-else-one-two c =
    let end = c.comparing.auto.place-end in
    ends_differ c.args.one.now c.args.two.now c.comparing.place c.min-both.result c.min-both.ensures end c.comparing-test.false c.if-one-two.false c.comparing.invariant
