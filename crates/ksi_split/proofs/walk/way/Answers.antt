use Rattle.std.proofs.Common.{◌≡◌, ◌+◌, ◌-◌, ℕ, List, [], ◌∷◌, ◌++◌, length, sym, ap, ◌∙◌, subst, arith, append_assoc, append-nil, length-append}
use Rattle.ksi_split.specs.declared.side.Side.{Side}
use Rattle.ksi_split.specs.declared.side.Side.TheVariants.{Left, Right}
use Rattle.ksi_split.specs.Ways.{IsWay}
use Rattle.ksi_split.specs.Ways.{way_of}
use Rattle.ksi_split.specs.Powers.{split_of}
use Rattle.ksi_split.proofs.Ways.{way_one, way_left, way_right, parts_fit}
use Rattle.ksi_split.proofs.Leaves.{way_is}
use Rattle.ksi_split.proofs.walk.way.Goals as goal

-- one side more, and the rest of the way
goes_on : (sides new : List Side) (side : Side) (rest from all : List Side) → new ≡ sides ++ side ∷ [] → sides ++ from ≡ all → from ≡ side ∷ rest → new ++ rest ≡ all
goes_on sides new side rest from all is so_far next =
    ap (λ (w : List Side). w ++ rest) is ∙ append_assoc sides (side ∷ []) rest ∙ ap (λ (w : List Side). sides ++ w) (sym next) ∙ so_far

one_more : (sides new : List Side) (side : Side) → new ≡ sides ++ side ∷ [] → length new ≡ length sides + 1
one_more sides new side is = ap length is ∙ length-append sides (side ∷ [])

pub loop-size-preserved-then-at-half : goal.loop-size-preserved-then-at-half
loop-size-preserved-then-at-half c =
    let size = c.loop-size.size in
    let at = c.loop-size.at in
    let sides = c.loop-size.sides in
    let new = c.push.new.self in
    let inv = c.loop-size.invariant in
    let half : c.split-half.result ≡ split_of size = c.split-half.ensures.value in
    let fit = parts_fit (63 - length sides) size c.loop-size-test.true inv.few in
    let longer : length new ≡ length sides + 1 = one_more sides new Left c.push.ensures in
    let less : 63 - length sides - 1 ≡ 63 - length new = omega arith in
    record {
      so_far = rw half (goes_on sides new Left (way_of at (split_of size)) (way_of at size) (way_of c.args.t c.args.n) c.push.ensures inv.so_far
          (way_left at size c.loop-size-test.true (omega (arith, c.if-at-half.true))));
      within = c.if-at-half.true;
      few = rw (← less, half) fit.1;
      count = omega (arith, fit.0);
    }

pub loop-size-preserved : goal.loop-size-preserved
loop-size-preserved c =
    let size = c.loop-size.size in
    let at = c.loop-size.at in
    let sides = c.loop-size.sides in
    let new = c.push-else-at-half.new.self in
    let inv = c.loop-size.invariant in
    let half : c.split-half.result ≡ split_of size = c.split-half.ensures.value in
    let fit = parts_fit (63 - length sides) size c.loop-size-test.true inv.few in
    let longer : length new ≡ length sides + 1 = one_more sides new Right c.push-else-at-half.ensures in
    let less : 63 - length sides - 1 ≡ 63 - length new = omega arith in
    record {
      so_far = rw half (goes_on sides new Right (way_of (at - split_of size) (size - split_of size)) (way_of at size) (way_of c.args.t c.args.n) c.push-else-at-half.ensures inv.so_far
          (way_right at size c.loop-size-test.true (omega (arith, c.if-at-half.false))));
      within = omega (arith, inv.within, c.if-at-half.false, c.split-half.ensures.below);
      few = rw (← less, half) fit.2;
      count = omega (arith, fit.0);
    }

-- what is left of the way at one leaf is nothing
all_of : (sides : List Side) (at size t n : ℕ) → size ≡ 1 → sides ++ way_of at size ≡ way_of t n → sides ≡ way_of t n
all_of sides at size t n one so_far = sym (append-nil sides) ∙ ap (λ (w : List Side). sides ++ w) (sym (ap (way_of at) one ∙ way_one at)) ∙ so_far

pub returns-clause-way : goal.returns-clause-way
returns-clause-way c =
    let inv = c.loop-size.invariant in
    let all = all_of c.loop-size.sides c.loop-size.at c.loop-size.size c.args.t c.args.n (omega (arith, c.loop-size-test.false, inv.within)) inv.so_far in
    subst (IsWay c.args.t c.args.n) (sym all) (way_is c.args.t c.args.n c.requires.within)

pub returns-clause-value : goal.returns-clause-value
returns-clause-value c =
    let inv = c.loop-size.invariant in
    all_of c.loop-size.sides c.loop-size.at c.loop-size.size c.args.t c.args.n (omega (arith, c.loop-size-test.false, inv.within)) inv.so_far
