use Rattle.std.proofs.Common.{◌+◌, ◌<◌, ◌≤◌, take, refl, arith}
use Rattle.ksi_split.specs.Parts.{Part}
use Rattle.ksi_consistency.proofs.Parts.{IsHigh, before, left_come, right_come, come_to, found}
use Rattle.ksi_consistency.proofs.kept.CalendarTo.part.Goals as goal
use Rattle.ksi_consistency.proofs.kept.CalendarTo.part.Goals.{then-first-at, else-first-at}

pub loop-rest-init : goal.loop-rest-init
loop-rest-init g c = record { room = refl; deep = omega arith; few = omega arith; come = refl; ahead = c.requires }

pub overflow_sub-first : goal.overflow_sub-first
overflow_sub-first g c =
    let l = c.loop-rest in
    let target : Part = record { first = c.args.first; count = c.args.last + 1 } in
    let h = c.high_bit-half.ensures in
    let high : IsHigh l.rest c.high_bit-half.result = record { power = h.power; most = h.most; greatest = h.greatest; value = h.value } in
    before c.one_split.ensures.split (c.args.self.now.last + 1) target l.sides l.depth l.at l.rest c.high_bit-half.result l.invariant (omega (arith, c.loop-rest-test.true)) (omega arith) high

pub loop-rest-preserved : goal.loop-rest-preserved
loop-rest-preserved g c =
    let l = c.loop-rest in
    let target : Part = record { first = c.args.first; count = c.args.last + 1 } in
    let h = c.high_bit-half.ensures in
    let high : IsHigh l.rest c.high_bit-half.result = record { power = h.power; most = h.most; greatest = h.greatest; value = h.value } in
    let more : target.count < l.rest + 1 = omega (arith, c.loop-rest-test.true) in
    let from : l.at ≤ c.args.first = before c.one_split.ensures.split (c.args.self.now.last + 1) target l.sides l.depth l.at l.rest c.high_bit-half.result l.invariant more (omega arith) high in
    elim c.if-first-at.branch [
      | then-first-at w ↦ rw (w.sides-is, w.at-is, w.rest-is) (left_come c.one_split.ensures.split (c.args.self.now.last + 1) target l.sides l.depth l.at l.rest c.high_bit-half.result l.invariant more (omega arith) high (omega (arith, w.if-first-at, from)))
      | else-first-at w ↦ rw (w.sides-is, w.at-is, w.rest-is) (right_come c.one_split.ensures.split (c.args.self.now.last + 1) target l.sides l.depth l.at l.rest c.high_bit-half.result l.invariant more (omega arith) high (omega (arith, w.if-first-at, from)))
    ]

pub returns-in-Some : goal.returns-in-Some
returns-in-Some g c =
    let l = c.loop-rest in
    let target : Part = record { first = c.args.first; count = c.args.last + 1 } in
    let at = come_to c.one_split.ensures.split (c.args.self.now.last + 1) target l.sides l.depth l.at l.rest l.invariant (omega (arith, c.loop-rest-test.false)) in
    found g.C.Compress.image c.args.self.now.calendar.now c.args.self.now.last target (take l.depth l.sides) c.in-Some.imprint c.args.self.now.covered at c.in-Some.ensures
