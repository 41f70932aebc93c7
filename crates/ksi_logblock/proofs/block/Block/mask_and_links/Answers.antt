use Rattle.std.proofs.Common.{◌<◌, ◌++◌, ℕ, List, length, map, ap, sym, ◌∙◌, arith}
use Rattle.std.proofs.lemmas.List.{length-map}
use Rattle.ksi_aggtree.specs.Owned.{plain_link, plain_links}
use Rattle.ksi_split.specs.Trees.{path_within}
use Rattle.ksi_aggtree.specs.Rounds.{aggregation_join, leaf_of_place}
use Rattle.ksi_aggtree.specs.Paths.{chain_of, links_from}
use Rattle.ksi_logblock.specs.Blocks.{leaf_item}
use Rattle.ksi_logblock.specs.Links.{plain_line_link, plain_line_links}
use Rattle.ksi_logblock.proofs.Roots.{chain_is}
use Rattle.ksi_logblock.proofs.block.Block.mask_and_links.Goals as goal

pub from_vec-requires : goal.from_vec-requires
from_vec-requires g c =
    let image = g.C.Compress.image in
    let leaves = c.leaves-leaves.result.now in
    let k = c.args.k in
    let there : k < length leaves = omega (arith, c.requires, c.leaves-leaves.ensures.count) in
    let chain = chain_is image leaves k c.enough_levels.ensures.path there c.leaves-leaves.ensures.few in
    let path = path_within (aggregation_join image) (leaf_of_place image (map leaf_item leaves)) 16 0 k (length leaves) in
    let made = c.in_ok-links_over.ensures.links ∙ ap (λ items. map plain_line_link items ++ plain_links (links_from 1 path)) c.in_ok-links.ensures.items ∙ ap plain_links (sym chain) in
    let n = ap length made in
    omega (arith, n, length-map c.links_over.new.links.items plain_line_link, length-map (chain_of image (map leaf_item leaves) k) plain_link, length-map leaves leaf_item, c.one_chain.ensures.few image (map leaf_item leaves) k (omega (arith, length-map leaves leaf_item, c.leaves-leaves.ensures.few)))

pub returns-clause-links : goal.returns-clause-links
returns-clause-links g c =
    let image = g.C.Compress.image in
    let leaves = c.leaves-leaves.result.now in
    let k = c.args.k in
    let there : k < length leaves = omega (arith, c.requires, c.leaves-leaves.ensures.count) in
    let chain = chain_is image leaves k c.enough_levels.ensures.path there c.leaves-leaves.ensures.few in
    let path = path_within (aggregation_join image) (leaf_of_place image (map leaf_item leaves)) 16 0 k (length leaves) in
    let made = c.in_ok-links_over.ensures.links ∙ ap (λ items. map plain_line_link items ++ plain_links (links_from 1 path)) c.in_ok-links.ensures.items ∙ ap plain_links (sym chain) in
    ap plain_line_links c.from_vec.ensures ∙ made ∙ ap (λ (l : List (List ℕ)). plain_links (chain_of image (map leaf_item l) k)) c.leaves-leaves.ensures.leaves
