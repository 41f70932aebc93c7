use Rattle.std.proofs.Common.{◌≡◌, ◌-◌, ◌+◌, ◌^◌, ◌++◌, ◌∷◌, [], append-nil, ℕ, suc, map, List, ap, sym, ◌∙◌, arith}
use Rattle.std.proofs.lemmas.Result.{IfOk-weaker}
use Rattle.ksi_split.specs.Trees.{tree, tree_within, path_within}
use Rattle.ksi_split.specs.declared.side.Side.TheVariants.{Left, Right}
use Rattle.ksi_split.specs.declared.tree_link.TreeLink.{TreeLink}
use Rattle.ksi_aggtree.specs.declared.chains.node.Node.{Node}
use Rattle.ksi_aggtree.specs.Owned.{plain_links}
use Rattle.ksi_aggtree.specs.Paths.{links_from}
use Rattle.ksi_aggtree.specs.Rounds.{aggregation_join, leaf_of_place}
use Rattle.ksi_logblock.specs.Blocks.{leaf_item}
use Rattle.ksi_logblock.specs.Links.{plain_line_link}
use Rattle.ksi_logblock.specs.Upward.{level_above}
use Rattle.ksi_logblock.proofs.Trees.{path_one, path_low, path_left, path_right, more_links, more_level}
use Rattle.ksi_logblock.proofs.over.+links_over.Goals as goal

pub returns-then-height-eq0-clause-links : goal.returns-then-height-eq0-clause-links
returns-then-height-eq0-clause-links g t c =
    let image = g.C.Compress.image in
    let join = aggregation_join image in
    let leaf = leaf_of_place image (map leaf_item c.args.leaves.now) in
    let path = ap (λ (h : ℕ). path_within join leaf h c.args.first c.args.place c.args.count) c.if-height-eq0.true ∙ path_one join leaf c.args.first c.args.place c.args.count in
    sym (ap (λ (p : List (TreeLink Node)). map plain_line_link c.args.links.now.items ++ plain_links (links_from 1 p)) path ∙ append-nil (map plain_line_link c.args.links.now.items))

pub returns-then-height-eq0-clause-level : goal.returns-then-height-eq0-clause-level
returns-then-height-eq0-clause-level g t c =
    let image = g.C.Compress.image in
    let join = aggregation_join image in
    let leaf = leaf_of_place image (map leaf_item c.args.leaves.now) in
    sym (ap (level_above 1) (ap (λ (h : ℕ). path_within join leaf h c.args.first c.args.place c.args.count) c.if-height-eq0.true ∙ path_one join leaf c.args.first c.args.place c.args.count))

pub returns-then-count-half-clause-links : goal.returns-then-count-half-clause-links
returns-then-count-half-clause-links g t c =
    let image = g.C.Compress.image in
    let join = aggregation_join image in
    let leaf = leaf_of_place image (map leaf_item c.args.leaves.now) in
    let e : c.args.height ≡ suc (c.args.height - 1) = omega (arith, c.if-height-eq0.false) in
    let path = ap (λ (h : ℕ). path_within join leaf h c.args.first c.args.place c.args.count) e ∙ path_low join leaf (c.args.height - 1) c.args.first c.args.place c.args.count (omega (arith, c.if-count-half.true, c.half_of-half.ensures.half)) in
    IfOk-weaker c.links_over.result _ _ (λ level h. h ∙ ap (λ (p : List (TreeLink Node)). map plain_line_link c.args.links.now.items ++ plain_links (links_from 1 p)) (sym path)) c.links_over.ensures.links

pub returns-then-count-half-clause-level : goal.returns-then-count-half-clause-level
returns-then-count-half-clause-level g t c =
    let image = g.C.Compress.image in
    let join = aggregation_join image in
    let leaf = leaf_of_place image (map leaf_item c.args.leaves.now) in
    let e : c.args.height ≡ suc (c.args.height - 1) = omega (arith, c.if-height-eq0.false) in
    let path = ap (λ (h : ℕ). path_within join leaf h c.args.first c.args.place c.args.count) e ∙ path_low join leaf (c.args.height - 1) c.args.first c.args.place c.args.count (omega (arith, c.if-count-half.true, c.half_of-half.ensures.half)) in
    IfOk-weaker c.links_over.result _ _ (λ level h. h ∙ ap (level_above 1) (sym path)) c.links_over.ensures.level

pub returns-in_ok-level-clause-links : goal.returns-in_ok-level-clause-links
returns-in_ok-level-clause-links g t c =
    let image = g.C.Compress.image in
    let join = aggregation_join image in
    let leaf = leaf_of_place image (map leaf_item c.args.leaves.now) in
    let k = c.args.height - 1 in
    let e : c.args.height ≡ suc k = omega (arith, c.if-height-eq0.false) in
    let half : c.half_of-half.result ≡ 2 ^ k = c.half_of-half.ensures.half in
    let lower = path_within join leaf k c.args.first c.args.place (2 ^ k) in
    let other : c.tree_over-other.result ≡ tree join leaf (c.args.first + 2 ^ k) (c.args.count - 2 ^ k) = c.tree_over-other.ensures.tree ∙ ap (λ (n : ℕ). tree_within join leaf k (c.args.first + n) (c.args.count - n)) half
    ∙ sym (c.enough_levels.ensures.tree join leaf k (c.args.first + 2 ^ k) (c.args.count - 2 ^ k) (omega (arith, half, c.half_of-half.ensures.both, c.requires.few))) in
    let path = ap (λ (h : ℕ). path_within join leaf h c.args.first c.args.place c.args.count) e
    ∙ path_left join leaf k c.args.first c.args.place c.args.count (omega (arith, c.if-count-half.false, half)) (omega (arith, c.if-place-half.true, half)) in
    let is : lower ++ record { side = Left; sibling = c.tree_over-other.result } ∷ [] ≡ path_within join leaf c.args.height c.args.first c.args.place c.args.count
    = ap (λ (x : Node). lower ++ record { side = Left; sibling = x } ∷ []) other ∙ sym path in
    let old = map plain_line_link c.args.links.now.items in
    IfOk-weaker c.add_link.result _ _
    (λ level h. more_links old _ _ lower c.in_ok-level.level (record { side = Left; sibling = c.tree_over-other.result })
    (c.in_ok-level.ensures.links ∙ ap (λ (n : ℕ). old ++ plain_links (links_from 1 (path_within join leaf k c.args.first c.args.place n))) half) (c.in_ok-level.ensures.level ∙ ap (λ (n : ℕ). level_above 1 (path_within join leaf k c.args.first c.args.place n)) half) h
    ∙ ap (λ (p : List (TreeLink Node)). old ++ plain_links (links_from 1 p)) is)
    c.add_link.ensures.links

pub returns-in_ok-level-clause-level : goal.returns-in_ok-level-clause-level
returns-in_ok-level-clause-level g t c =
    let image = g.C.Compress.image in
    let join = aggregation_join image in
    let leaf = leaf_of_place image (map leaf_item c.args.leaves.now) in
    let k = c.args.height - 1 in
    let e : c.args.height ≡ suc k = omega (arith, c.if-height-eq0.false) in
    let half : c.half_of-half.result ≡ 2 ^ k = c.half_of-half.ensures.half in
    let lower = path_within join leaf k c.args.first c.args.place (2 ^ k) in
    let other : c.tree_over-other.result ≡ tree join leaf (c.args.first + 2 ^ k) (c.args.count - 2 ^ k) = c.tree_over-other.ensures.tree ∙ ap (λ (n : ℕ). tree_within join leaf k (c.args.first + n) (c.args.count - n)) half
    ∙ sym (c.enough_levels.ensures.tree join leaf k (c.args.first + 2 ^ k) (c.args.count - 2 ^ k) (omega (arith, half, c.half_of-half.ensures.both, c.requires.few))) in
    let path = ap (λ (h : ℕ). path_within join leaf h c.args.first c.args.place c.args.count) e
    ∙ path_left join leaf k c.args.first c.args.place c.args.count (omega (arith, c.if-count-half.false, half)) (omega (arith, c.if-place-half.true, half)) in
    let is : lower ++ record { side = Left; sibling = c.tree_over-other.result } ∷ [] ≡ path_within join leaf c.args.height c.args.first c.args.place c.args.count
    = ap (λ (x : Node). lower ++ record { side = Left; sibling = x } ∷ []) other ∙ sym path in
    IfOk-weaker c.add_link.result _ _
    (λ level h. more_level lower c.in_ok-level.level level (record { side = Left; sibling = c.tree_over-other.result }) (c.in_ok-level.ensures.level ∙ ap (λ (n : ℕ). level_above 1 (path_within join leaf k c.args.first c.args.place n)) half) h ∙ ap (level_above 1) is)
    c.add_link.ensures.level

pub returns-in_ok-level-2-clause-links : goal.returns-in_ok-level-2-clause-links
returns-in_ok-level-2-clause-links g t c =
    let image = g.C.Compress.image in
    let join = aggregation_join image in
    let leaf = leaf_of_place image (map leaf_item c.args.leaves.now) in
    let k = c.args.height - 1 in
    let e : c.args.height ≡ suc k = omega (arith, c.if-height-eq0.false) in
    let half : c.half_of-half.result ≡ 2 ^ k = c.half_of-half.ensures.half in
    let lower = path_within join leaf k (c.args.first + 2 ^ k) (c.args.place - 2 ^ k) (c.args.count - 2 ^ k) in
    let other : c.tree_over-other-else-place-half.result ≡ tree join leaf c.args.first (2 ^ k) = c.tree_over-other-else-place-half.ensures.tree ∙ ap (λ (n : ℕ). tree_within join leaf k c.args.first n) half
    ∙ sym (c.enough_levels.ensures.tree join leaf k c.args.first (2 ^ k) (omega arith)) in
    let path = ap (λ (h : ℕ). path_within join leaf h c.args.first c.args.place c.args.count) e
    ∙ path_right join leaf k c.args.first c.args.place c.args.count (omega (arith, c.if-count-half.false, half)) (omega (arith, c.if-place-half.false, half)) in
    let is : lower ++ record { side = Right; sibling = c.tree_over-other-else-place-half.result } ∷ [] ≡ path_within join leaf c.args.height c.args.first c.args.place c.args.count
    = ap (λ (x : Node). lower ++ record { side = Right; sibling = x } ∷ []) other ∙ sym path in
    let old = map plain_line_link c.args.links.now.items in
    IfOk-weaker c.add_link-else-place-half.result _ _
    (λ level h. more_links old _ _ lower c.in_ok-level-2.level (record { side = Right; sibling = c.tree_over-other-else-place-half.result })
    (c.in_ok-level-2.ensures.links ∙ ap (λ (n : ℕ). old ++ plain_links (links_from 1 (path_within join leaf k (c.args.first + n) (c.args.place - n) (c.args.count - n)))) half) (c.in_ok-level-2.ensures.level ∙ ap (λ (n : ℕ). level_above 1 (path_within join leaf k (c.args.first + n) (c.args.place - n) (c.args.count - n))) half) h
    ∙ ap (λ (p : List (TreeLink Node)). old ++ plain_links (links_from 1 p)) is)
    c.add_link-else-place-half.ensures.links

pub returns-in_ok-level-2-clause-level : goal.returns-in_ok-level-2-clause-level
returns-in_ok-level-2-clause-level g t c =
    let image = g.C.Compress.image in
    let join = aggregation_join image in
    let leaf = leaf_of_place image (map leaf_item c.args.leaves.now) in
    let k = c.args.height - 1 in
    let e : c.args.height ≡ suc k = omega (arith, c.if-height-eq0.false) in
    let half : c.half_of-half.result ≡ 2 ^ k = c.half_of-half.ensures.half in
    let lower = path_within join leaf k (c.args.first + 2 ^ k) (c.args.place - 2 ^ k) (c.args.count - 2 ^ k) in
    let other : c.tree_over-other-else-place-half.result ≡ tree join leaf c.args.first (2 ^ k) = c.tree_over-other-else-place-half.ensures.tree ∙ ap (λ (n : ℕ). tree_within join leaf k c.args.first n) half
    ∙ sym (c.enough_levels.ensures.tree join leaf k c.args.first (2 ^ k) (omega arith)) in
    let path = ap (λ (h : ℕ). path_within join leaf h c.args.first c.args.place c.args.count) e
    ∙ path_right join leaf k c.args.first c.args.place c.args.count (omega (arith, c.if-count-half.false, half)) (omega (arith, c.if-place-half.false, half)) in
    let is : lower ++ record { side = Right; sibling = c.tree_over-other-else-place-half.result } ∷ [] ≡ path_within join leaf c.args.height c.args.first c.args.place c.args.count
    = ap (λ (x : Node). lower ++ record { side = Right; sibling = x } ∷ []) other ∙ sym path in
    IfOk-weaker c.add_link-else-place-half.result _ _
    (λ level h. more_level lower c.in_ok-level-2.level level (record { side = Right; sibling = c.tree_over-other-else-place-half.result }) (c.in_ok-level-2.ensures.level ∙ ap (λ (n : ℕ). level_above 1 (path_within join leaf k (c.args.first + n) (c.args.place - n) (c.args.count - n))) half) h ∙ ap (level_above 1) is)
    c.add_link-else-place-half.ensures.level
