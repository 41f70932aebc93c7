use Rattle.std.proofs.Common.{◌≡◌, ◌-◌, ◌+◌, ◌^◌, ℕ, suc, map, ap, sym, ◌∙◌, arith}
use Rattle.ksi_split.specs.Trees.{tree_within}
use Rattle.ksi_aggtree.specs.Rounds.{aggregation_join, leaf_of_place}
use Rattle.ksi_logblock.specs.Blocks.{leaf_item}
use Rattle.ksi_logblock.proofs.Trees.{tree_one, tree_low, tree_high, leaf_is, join_is}
use Rattle.ksi_logblock.proofs.over.+tree_over.Goals as goal

pub returns-then-height-eq0-clause-tree : goal.returns-then-height-eq0-clause-tree
returns-then-height-eq0-clause-tree g t c =
    let image = g.C.Compress.image in
    let join = aggregation_join image in
    let leaf = leaf_of_place image (map leaf_item c.args.leaves.now) in
    leaf_is image c.args.leaves.now c.args.first c.index-leaves-first.result (omega (arith, c.requires.some, c.requires.within)) c.index-leaves-first.is
    ∙ sym (ap (λ (h : ℕ). tree_within join leaf h c.args.first c.args.count) c.if-height-eq0.true ∙ tree_one join leaf c.args.first c.args.count)

pub returns-then-count-half-clause-tree : goal.returns-then-count-half-clause-tree
returns-then-count-half-clause-tree g t c =
    let image = g.C.Compress.image in
    let join = aggregation_join image in
    let leaf = leaf_of_place image (map leaf_item c.args.leaves.now) in
    let e : c.args.height ≡ suc (c.args.height - 1) = omega (arith, c.if-height-eq0.false) in
    c.tree_over.ensures.tree
    ∙ sym (ap (λ (h : ℕ). tree_within join leaf h c.args.first c.args.count) e ∙ tree_low join leaf (c.args.height - 1) c.args.first c.args.count (omega (arith, c.if-count-half.true, c.half_of-half.ensures.half)))

pub returns-clause-tree : goal.returns-clause-tree
returns-clause-tree g t c =
    let image = g.C.Compress.image in
    let join = aggregation_join image in
    let leaf = leaf_of_place image (map leaf_item c.args.leaves.now) in
    let k = c.args.height - 1 in
    let e : c.args.height ≡ suc k = omega (arith, c.if-height-eq0.false) in
    let half : c.half_of-half.result ≡ 2 ^ k = c.half_of-half.ensures.half in
    join_is image c.tree_over-left.result c.tree_over-right.result _ _ c.bytes.result.now c.bytes-2.result.now c.join-imprint.result c.max-level.result
    (c.tree_over-left.ensures.tree ∙ ap (λ (n : ℕ). tree_within join leaf k c.args.first n) half)
    (c.tree_over-right.ensures.tree ∙ ap (λ (n : ℕ). tree_within join leaf k (c.args.first + n) (c.args.count - n)) half)
    c.bytes.ensures.value c.bytes-2.ensures.value c.max-level.ensures c.join-imprint.ensures
    ∙ sym (ap (λ (h : ℕ). tree_within join leaf h c.args.first c.args.count) e ∙ tree_high join leaf k c.args.first c.args.count (omega (arith, c.if-count-half.false, half)))
