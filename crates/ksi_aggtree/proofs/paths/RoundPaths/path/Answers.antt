use Rattle.std.proofs.Common.{◌≡◌, ℕ, ◌+◌, ◌++◌, List, length, ◌∙◌, refl, sym, ap, subst, arith}
use Rattle.std.proofs.lemmas.List.{get_or_read_under}
use Rattle.std.proofs.lemmas.Result.{IfOk-weaker}
use Rattle.ksi_aggtree.specs.declared.chains.node.Node.{Node}
use Rattle.ksi_aggtree.specs.declared.chains.link.Link.{Link}
use Rattle.ksi_aggtree.specs.declared.item.Item.{Item}
use Rattle.ksi_aggtree.specs.Climbing.{Climbs}
use Rattle.ksi_aggtree.specs.Owned.{plain_links}
use Rattle.ksi_split.specs.declared.tree_link.TreeLink.{TreeLink}
use Rattle.std.specs.Prelude.{IfSome}
use Rattle.ksi_aggtree.specs.Names.{IsName}
use Rattle.ksi_aggtree.specs.Rounds.{as_node, item_at, no_item, leaf_level, tree_of, tree_path, IsRound}
use Rattle.ksi_aggtree.specs.Paths.{name_links, links_from, chain_of, sides_from_top}
use Rattle.ksi_aggtree.proofs.Kept.{round_path}
use Rattle.ksi_aggtree.proofs.ItemChains.{chain_count}
use Rattle.ksi_aggtree.proofs.paths.RoundPaths.path.Goals as goal

pub beside-requires : goal.beside-requires
beside-requires g c =
    let image = g.C.Compress.image in
    let paths = c.self.inside.paths in
    let items = c.self.inside.items.now in
    let few = c.self.invariant.1.few in
    let path = round_path image paths.leaves items c.self.invariant.0 c.args.k (paths.last + 1) (c.no_cap.ensures.path image items c.args.k c.self.invariant.1) c.self.invariant.2 in
    let count = ap length (c.deref.ensures.value ∙ c.in_ok-others.ensures ∙ path) in
    let x = item_at items c.args.k in
    omega (arith, count, chain_count x.name (leaf_level x) (tree_path image items c.args.k), c.one_chain.ensures.few image items c.args.k few)

pub returns : goal.returns
returns g c =
    let image = g.C.Compress.image in
    let now = c.args.self.now in
    let k = c.args.k in
    let paths = c.self.inside.paths in
    let items = c.self.inside.items.now in
    let round : IsRound now = subst IsRound c.self.view_is c.self.invariant.1 in
    let others : c.deref.result.now ≡ tree_path image now k = c.deref.ensures.value ∙ c.in_ok-others.ensures
    ∙ round_path image paths.leaves items c.self.invariant.0 k (paths.last + 1) (c.no_cap.ensures.path image items k c.self.invariant.1) c.self.invariant.2
    ∙ ap (λ (items : List Item). tree_path image items k) c.self.view_is in
    let size = ap (λ (items : List Item). length items) c.self.view_is in
    let item = get_or_read_under items k (length items) c.index-items-k.result no_item c.index-items-k.is (omega (arith, size, c.requires)) refl in
    let own : c.index-items-k.result ≡ item_at now k = item ∙ ap (λ (items : List Item). item_at items k) c.self.view_is in
    let is : name_links c.index-items-k.result.name ++ links_from c.leaf_level.result c.deref.result.now ≡ chain_of image now k
    = ap (λ (level : ℕ). name_links c.index-items-k.result.name ++ links_from level c.deref.result.now) c.leaf_level.ensures
    ∙ ap (λ (x : Item). name_links x.name ++ links_from (leaf_level x) c.deref.result.now) own
    ∙ ap (λ (others : List (TreeLink Node)). name_links (item_at now k).name ++ links_from (leaf_level (item_at now k)) others) others in
    record {
      links = IfOk-weaker c.beside.result _ _ (λ links h. h ∙ is) c.beside.ensures.links;
      climbs = IfOk-weaker c.beside.result _ _
          (λ links h. subst (λ (chain : List Link). Climbs image (as_node (item_at now k)) (plain_links chain) (tree_of image now)) (sym (h ∙ is)) (c.one_chain.ensures.climbs image now k round c.requires)) c.beside.ensures.links;
      way = IfOk-weaker c.beside.result _ _ (λ links h. ap sides_from_top (h ∙ is) ∙ c.one_chain.ensures.way image now k) c.beside.ensures.links;
      few = IfOk-weaker c.beside.result _ _ (λ links h. let n = ap length (h ∙ is) in omega (arith, n, c.one_chain.ensures.few image now k round.few)) c.beside.ensures.links;
      name = IfOk-weaker c.beside.result _ _ (λ links h. subst (λ (x : Item). IfSome x.name IsName) own h) c.beside.ensures.name;
    }
