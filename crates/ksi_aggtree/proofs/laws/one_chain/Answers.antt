use Rattle.std.proofs.Common.{length, reverse, ◌∙◌, ap, arith}
use Rattle.std.proofs.lemmas.List.{reverse-reverse}
use Rattle.ksi_split.specs.Ways.{way_of}
use Rattle.ksi_aggtree.specs.Owned.{plain_links}
use Rattle.ksi_aggtree.specs.Rounds.{aggregation_join, as_node, item_at, leaf_of_place, tree_of, tree_path}
use Rattle.ksi_aggtree.specs.Paths.{links_from, chain_of}
use Rattle.ksi_aggtree.proofs.ItemChains.{item_climbs, links_sides, chain_sides, chain_count, name_count}
use Rattle.ksi_aggtree.proofs.laws.one_chain.Goals as goal

pub returns-clause-climbs : goal.returns-clause-climbs
returns-clause-climbs c = λ image items k round there.
    (c.one_climb.ensures.climbs image (as_node (item_at items k)) (tree_of image items) (plain_links (chain_of image items k))).0
    (item_climbs image items k (c.one_round.ensures.level image items 239 round.few round.low) (round.low k) there (c.one_path.ensures.climbs (aggregation_join image) (leaf_of_place image items)))

pub returns-clause-way : goal.returns-clause-way
returns-clause-way c = λ image items k.
    chain_sides (item_at items k).name (links_from (leaf_of_place image items k).level (tree_path image items k)) (way_of k (length items))
    (ap reverse (links_sides (leaf_of_place image items k).level (tree_path image items k) ∙ c.one_path.ensures.sides (aggregation_join image) (leaf_of_place image items) 0 k (length items))
    ∙ reverse-reverse (way_of k (length items)))

pub returns-clause-few : goal.returns-clause-few
returns-clause-few c = λ image items k few.
    omega (arith, chain_count (item_at items k).name (leaf_of_place image items k).level (tree_path image items k), name_count (item_at items k).name, c.one_path.ensures.length (aggregation_join image) (leaf_of_place image items) 0 k (length items) 16 few)
