use Rattle.std.proofs.Common.{◌≡◌, ◌+◌, ◌^◌, ◌/◌, ◌<◌, length, refl, ◌∙◌, sym, ap, ℕ, arith}
use Rattle.ksi_split.specs.declared.side.Side.TheVariants.{Left, Right}
use Rattle.ksi_split.specs.Trees.{tree}
use Rattle.ksi_split.specs.Powers.{split_of}
use Rattle.ksi_split.proofs.Powers.{split_is}
use Rattle.ksi_split.proofs.Ways.{side_goes, none_in, some_in}
use Rattle.ksi_split.proofs.Sized.{halves_are, settled, whole_part}
use Rattle.ksi_split.proofs.Upward.{node_tree, size_place}
use Rattle.ksi_split.specs.Leaves.{leaf_of, Leaves}
use Rattle.ksi_split.specs.Stored.{row_at}
use Rattle.ksi_split.proofs.rows.Rows.node_counted.Goals as goal
use Rattle.ksi_split.proofs.rows.Rows.node_counted.Goals.{in-Left, in-Right}

pub loop-side-init : goal.loop-side-init
loop-side-init g c =
    let total : c.self.inside.zeros.start + length (row_at c.self.inside.rows.items 0) ≡ c.args.self.now.start + length c.args.self.now.items
    = ap (λ (v : Leaves g.row.N.Denot). v.start + length v.items) c.self.view_is in
    record {
      left = refl;
      part = whole_part c.args.last 63 (omega (arith, total, c.self.invariant.few, c.requires));
      within = omega arith;
      some = omega arith;
    }

pub returns-then-count-eq1 : goal.returns-then-count-eq1
returns-then-count-eq1 g c =
    none_in g.J.Joins.joined (leaf_of c.args.self.now) c.loop-side.side-index c.loop-side.first c.loop-side.count (c.args.last + 1) c.args.sides.now c.loop-side-test.true c.if-count-eq1.true c.loop-side.invariant.left

pub overflow_add-first : goal.overflow_add-first
overflow_add-first g c =
    let some : 1 < c.loop-side.count = omega (arith, c.loop-side.invariant.some, c.if-count-eq1.false) in
    let s = split_is c.loop-side.count some in
    omega (arith, s.below, c.split-half.ensures.value, c.loop-side.invariant.within, c.ranges.last.fits)

pub overflow_sub-count : goal.overflow_sub-count
overflow_sub-count g c =
    let some : 1 < c.loop-side.count = omega (arith, c.loop-side.invariant.some, c.if-count-eq1.false) in
    let s = split_is c.loop-side.count some in
    omega (arith, s.below, c.split-half.ensures.value)

pub loop-side-preserved : goal.loop-side-preserved
loop-side-preserved g c =
    let first = c.loop-side.first in
    let count = c.loop-side.count in
    let inv = c.loop-side.invariant in
    let some : 1 < count = omega (arith, inv.some, c.if-count-eq1.false) in
    let s = split_is count some in
    let half : c.split-half.result ≡ split_of count = c.split-half.ensures.value in
    let parts = halves_are c.args.last first count inv.part some in
    let below : split_of count < count = s.below in
    record {
      left = elim c.match-side.branch [
        | in-Left w ↦ side_goes c.loop-side.side-index first count c.match-side.first c.match-side.count Left c.args.sides.now c.loop-side-test.true some w.in-Left.is
            (omega (arith, w.first-is)) (omega (arith, w.count-is, half)) ∙ inv.left
        | in-Right w ↦ side_goes c.loop-side.side-index first count c.match-side.first c.match-side.count Right c.args.sides.now c.loop-side-test.true some w.in-Right.is
            (omega (arith, w.first-is, half)) (omega (arith, w.count-is, half)) ∙ inv.left
      ];
      part = elim c.match-side.branch [
        | in-Left w ↦ rw (w.first-is, w.count-is, half) parts.left
        | in-Right w ↦ rw (w.first-is, w.count-is, half) parts.right
      ];
      within = elim c.match-side.branch [
        | in-Left w ↦ omega (arith, w.first-is, w.count-is, half, below, inv.within)
        | in-Right w ↦ omega (arith, w.first-is, w.count-is, half, below, inv.within)
      ];
      some = elim c.match-side.branch [
        | in-Left w ↦ omega (arith, w.count-is, half, s.greatest)
        | in-Right w ↦ omega (arith, w.count-is, half, below)
      ];
    }

pub part_to-requires-clause-within : goal.part_to-requires-clause-within
part_to-requires-clause-within g c =
    let inv = c.loop-side.invariant in
    let s = settled c.args.last c.loop-side.first c.loop-side.count c.levels-level.result inv.part (omega (arith, c.levels-level.ensures.enough)) (λ k le. c.levels-level.ensures.least k (omega (arith, inv.some))) in
    size_place c.args.last c.levels-level.result (c.loop-side.first / 2 ^ c.levels-level.result) c.loop-side.count s.0

pub returns : goal.returns
returns g c =
    let inv = c.loop-side.invariant in
    let joined = g.J.Joins.joined in
    let leaf = leaf_of c.args.self.now in
    let m = c.levels-level.result in
    let s = settled c.args.last c.loop-side.first c.loop-side.count m inv.part (omega (arith, c.levels-level.ensures.enough)) (λ k le. c.levels-level.ensures.least k (omega (arith, inv.some))) in
    let end : c.loop-side.side-index ≡ length c.args.sides.now = omega (arith, c.loop-side.auto.side-index-end, c.loop-side-test.false) in
    some_in joined leaf c.loop-side.side-index c.loop-side.first c.loop-side.count (c.args.last + 1) c.args.sides.now c.part_to.result end
    (c.part_to.ensures ∙ node_tree joined leaf c.args.last m (c.loop-side.first / 2 ^ m) c.loop-side.count s.0 ∙ ap (λ (lo : ℕ). tree joined leaf lo c.loop-side.count) (sym s.1)) inv.left
