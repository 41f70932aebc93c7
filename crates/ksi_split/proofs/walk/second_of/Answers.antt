use Rattle.std.proofs.Common.{◌≡◌, ◌≢◌, ◌+◌, ◌-◌, ◌<◌, ◌≤◌, Ok, [], ℕ, List, drop, length, refl, sym, ap, ◌∙◌, arith}
use Rattle.ksi_split.specs.Parts.{second_at, second_in, part_at}
use Rattle.ksi_split.proofs.Powers.{split_is}
use Rattle.ksi_split.specs.Powers.{split_of}
use Rattle.ksi_split.specs.declared.side.Side.TheVariants.{Left, Right}
use Rattle.ksi_split.proofs.Ways.{part_of, part_ends, side_taken, some_left}
use Rattle.std.proofs.Math.ListN.{drop_of_length-le}
use Rattle.ksi_split.specs.declared.side.Side.{Side}
use Rattle.ksi_split.proofs.Seconds.{named, too_many, too_few, whole, open_part, second_both, many_both, few_both}
use Rattle.ksi_split.proofs.walk.second_of.Goals as goal
use Rattle.ksi_split.proofs.walk.second_of.Goals.{in-Left, in-Right}

pub loop-place-init : goal.loop-place-init
unfolding second_at
loop-place-init c = record { left = refl; small = omega arith }

-- sides that are left where the part has one leaf
passing : (p place second n : ℕ) (sides : List Side) → place < length sides → n ≡ 1 → second_in (part_at place (part_of second n) (drop place sides)) ≡ second_at p sides → too_many place ≡ second_at p sides
passing p place second n sides lt one left =
    sym (ap second_in (part_ends place second sides lt)) ∙ ap (λ (m : ℕ). second_in (part_at place (part_of second m) (drop place sides))) (sym one) ∙ left

-- no sides are left
ended : (p place second n : ℕ) (sides : List Side) → length sides ≤ place → second_in (part_at place (part_of second n) (drop place sides)) ≡ second_at p sides → second_in (Ok (part_of second n)) ≡ second_at p sides
ended p place second n sides end left =
    let none : drop place sides ≡ [] = drop_of_length-le sides {i = place} end in
    ap (λ (more : List Side). second_in (part_at place (part_of second n) more)) (sym none) ∙ left

pub returns-then-rest-eq0 : goal.returns-then-rest-eq0
returns-then-rest-eq0 c =
    let p = c.args.p in
    let sides = c.args.sides.now in
    let place = c.loop-place.place in
    let is : too_many place ≡ second_at p sides = passing p place c.loop-place.second (c.loop-place.rest + 1) sides c.loop-place-test.true (omega (arith, c.if-rest-eq0.true)) c.loop-place.invariant.left in
    record { second = second_both p sides (too_many place) is; too_many = many_both p sides (too_many place) is; too_few = few_both p sides (too_many place) is; value = is }

pub returns-then-rest-eq0-2 : goal.returns-then-rest-eq0-2
returns-then-rest-eq0-2 c =
    let p = c.args.p in
    let sides = c.args.sides.now in
    let second = c.loop-place.second in
    let n = c.loop-place.rest + 1 in
    let end = ended p c.loop-place.place second n sides c.loop-place-test.false c.loop-place.invariant.left in
    let is : named second ≡ second_at p sides = sym (whole (part_of second n) (omega (arith, c.if-rest-eq0-2.true))) ∙ end in
    record { second = second_both p sides (named second) is; too_many = many_both p sides (named second) is; too_few = few_both p sides (named second) is; value = is }

pub returns-else-rest-eq0-2 : goal.returns-else-rest-eq0-2
returns-else-rest-eq0-2 c =
    let p = c.args.p in
    let sides = c.args.sides.now in
    let rest = c.loop-place.rest in
    let less : rest ≡ rest + 1 - 1 = omega arith in
    let more : rest + 1 ≢ 1 = λ one. c.if-rest-eq0-2.false (omega arith) in
    let end = ended p c.loop-place.place c.loop-place.second (rest + 1) sides c.loop-place-test.false c.loop-place.invariant.left in
    let is : too_few rest ≡ second_at p sides = ap too_few less ∙ sym (open_part (part_of c.loop-place.second (rest + 1)) more) ∙ end in
    record { second = second_both p sides (too_few rest) is; too_many = many_both p sides (too_few rest) is; too_few = few_both p sides (too_few rest) is; value = is }

pub overflow_sub-rest : goal.overflow_sub-rest
overflow_sub-rest c =
    let some : 1 < c.loop-place.rest + 1 = some_left c.loop-place.rest c.if-rest-eq0.false in
    let s = split_is (c.loop-place.rest + 1) some in
    omega (arith, s.greatest, c.high_bit-half.ensures.value)

pub overflow_add-second : goal.overflow_add-second
overflow_add-second c =
    let some : 1 < c.loop-place.rest + 1 = some_left c.loop-place.rest c.if-rest-eq0.false in
    let s = split_is (c.loop-place.rest + 1) some in
    omega (arith, s.below, c.high_bit-half.ensures.value, c.loop-place.invariant.small)

pub overflow_sub-rest-in-Right : goal.overflow_sub-rest-in-Right
overflow_sub-rest-in-Right c =
    let some : 1 < c.loop-place.rest + 1 = some_left c.loop-place.rest c.if-rest-eq0.false in
    let s = split_is (c.loop-place.rest + 1) some in
    omega (arith, s.below, c.high_bit-half.ensures.value)

pub loop-place-preserved : goal.loop-place-preserved
loop-place-preserved c =
    let place = c.loop-place.place in
    let rest = c.loop-place.rest in
    let inv = c.loop-place.invariant in
    let some : 1 < rest + 1 = some_left rest c.if-rest-eq0.false in
    let s = split_is (rest + 1) some in
    let half : c.high_bit-half.result ≡ split_of (rest + 1) = c.high_bit-half.ensures.value in
    record {
      left = elim c.match-side.branch [
        | in-Left w ↦ side_taken place c.loop-place.second (rest + 1) c.match-side.second (c.match-side.rest + 1) Left c.args.sides.now c.loop-place-test.true some w.in-Left.is
            (omega (arith, w.second-is)) (omega (arith, w.rest-is, half, s.greatest)) ∙ inv.left
        | in-Right w ↦ side_taken place c.loop-place.second (rest + 1) c.match-side.second (c.match-side.rest + 1) Right c.args.sides.now c.loop-place-test.true some w.in-Right.is
            (omega (arith, w.second-is, half)) (omega (arith, w.rest-is, half, s.below)) ∙ inv.left
      ];
      small = elim c.match-side.branch [
        | in-Left w ↦ omega (arith, w.second-is, w.rest-is, half, s.below, inv.small)
        | in-Right w ↦ omega (arith, w.second-is, w.rest-is, half, s.below, inv.small)
      ];
    }
