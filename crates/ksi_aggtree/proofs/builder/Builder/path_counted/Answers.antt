use Rattle.std.proofs.Common.{◌≡◌, ℕ, ◌+◌, ◌-◌, ◌++◌, List, length, ◌∙◌, refl, sym, ap, subst, arith}
use Rattle.std.proofs.lemmas.List.{get_or_read_under}
use Rattle.std.proofs.lemmas.Result.{IfOk-weaker}
use Rattle.ksi_split.specs.declared.tree_link.TreeLink.{TreeLink}
use Rattle.ksi_aggtree.specs.declared.chains.node.Node.{Node}
use Rattle.ksi_aggtree.specs.declared.chains.link.Link.{Link}
use Rattle.ksi_aggtree.specs.declared.item.Item.{Item}
use Rattle.ksi_aggtree.specs.Climbing.{Climbs}
use Rattle.ksi_aggtree.specs.Owned.{plain_links}
use Rattle.std.specs.Prelude.{IfSome}
use Rattle.ksi_aggtree.specs.Names.{IsName}
use Rattle.ksi_aggtree.specs.Rounds.{as_node, item_at, no_item, leaf_level, leaf_of_place, tree_of, tree_path, IsRound}
use Rattle.ksi_aggtree.specs.Paths.{name_links, links_from, chain_of, sides_from_top}
use Rattle.ksi_aggtree.proofs.Kept.{leaves_are, leaves_count, round_path}
use Rattle.ksi_aggtree.proofs.ItemChains.{chain_count}
use Rattle.ksi_aggtree.proofs.builder.Builder.path_counted.Goals as goal

pub beside-requires : goal.beside-requires
beside-requires g c =
    let rows = c.self.inside.rows in
    let items = c.self.inside.items.items in
    let size = ap (λ (items : List Item). length items) c.self.view_is in
    let all = leaves_count g.C.Compress.image rows items c.self.invariant.0 in
    let path = round_path g.C.Compress.image rows items c.self.invariant.0 c.args.k (c.count-last.result - 1 + 1) (c.no_cap.ensures.path g.C.Compress.image items c.args.k c.self.invariant.1) (omega (arith, all, c.count-last.ensures, size, c.requires)) in
    let count = ap length (c.deref.ensures.value ∙ c.in_ok-others.ensures.path ∙ path) in
    let few = c.self.invariant.1.few in
    let x = item_at items c.args.k in
    omega (arith, count, chain_count x.name (leaf_level x) (tree_path g.C.Compress.image items c.args.k), c.one_chain.ensures.few g.C.Compress.image items c.args.k few)

pub returns : goal.returns
returns g c =
    let image = g.C.Compress.image in
    let now = c.args.self.now in
    let k = c.args.k in
    let rows = c.self.inside.rows in
    let items = c.self.inside.items.items in
    let size = ap (λ (items : List Item). length items) c.self.view_is in
    let all = leaves_count g.C.Compress.image rows items c.self.invariant.0 in
    let round : IsRound now = subst IsRound c.self.view_is c.self.invariant.1 in
    let few = round.few in
    let others : c.deref.result.now ≡ tree_path image now k = c.deref.ensures.value ∙ c.in_ok-others.ensures.path
    ∙ round_path image rows items c.self.invariant.0 k (c.count-last.result - 1 + 1) (c.no_cap.ensures.path image items k c.self.invariant.1) (omega (arith, all, c.count-last.ensures, size, c.requires))
    ∙ ap (λ (items : List Item). tree_path image items k) c.self.view_is in
    let leaf : c.leaf_counted-leaf.result ≡ leaf_of_place g.C.Compress.image now k
    = c.leaf_counted-leaf.ensures.leaf ∙ ap (λ (leaf : ℕ → Node). leaf k) (leaves_are g.C.Compress.image rows items c.self.invariant.0)
    ∙ ap (λ (items : List Item). leaf_of_place g.C.Compress.image items k) c.self.view_is in
    let item = get_or_read_under items k (length items) c.index.result.now no_item c.index.ensures (omega (arith, size, c.requires)) refl in
    let own : c.index.result.now ≡ item_at now k = item ∙ ap (λ (items : List Item). item_at items k) c.self.view_is in
    let is : name_links c.index.result.now.name ++ links_from c.leaf_counted-leaf.result.level c.deref.result.now ≡ chain_of image now k
    = ap (λ (x : Item). name_links x.name ++ links_from c.leaf_counted-leaf.result.level c.deref.result.now) own
    ∙ ap (λ (x : Node). name_links (item_at now k).name ++ links_from x.level c.deref.result.now) leaf
    ∙ ap (λ (others : List (TreeLink Node)). name_links (item_at now k).name ++ links_from (leaf_level (item_at now k)) others) others in
    record {
      links = IfOk-weaker c.beside.result _ _ (λ links h. h ∙ is) c.beside.ensures.links;
      climbs = IfOk-weaker c.beside.result _ _
          (λ links h. subst (λ (chain : List Link). Climbs image (as_node (item_at now k)) (plain_links chain) (tree_of image now)) (sym (h ∙ is)) (c.one_chain.ensures.climbs image now k round c.requires)) c.beside.ensures.links;
      way = IfOk-weaker c.beside.result _ _ (λ links h. ap sides_from_top (h ∙ is) ∙ c.one_chain.ensures.way image now k) c.beside.ensures.links;
      few = IfOk-weaker c.beside.result _ _ (λ links h. let n = ap length (h ∙ is) in omega (arith, n, c.one_chain.ensures.few image now k few)) c.beside.ensures.links;
      name = IfOk-weaker c.beside.result _ _ (λ links h. subst (λ (x : Item). IfSome x.name IsName) own h) c.beside.ensures.name;
      most = omega (arith, c.leaf_counted-leaf.ensures.cost, c.path_counted.ensures.cost 16 (omega (arith, c.count-last.ensures, c.requires, all, size, few)));
      least = let value = ap length c.deref.ensures.value in
          IfOk-weaker c.beside.result _ _
          (λ links h. let n = ap length h in
          omega (arith, n, value, ap (λ (x : Item). length (name_links x.name)) own, chain_count c.index.result.now.name c.leaf_counted-leaf.result.level c.deref.result.now, c.leaf_counted-leaf.ensures.cost, c.in_ok-others.ensures.least))
          c.beside.ensures.links;
    }

pub returns-in_err-others-clause-most : goal.returns-in_err-others-clause-most
returns-in_err-others-clause-most g c =
    let size = ap (λ (items : List Item). length items) c.self.view_is in
    let all = leaves_count g.C.Compress.image c.self.inside.rows c.self.inside.items.items c.self.invariant.0 in
    let few = c.self.invariant.1.few in
    omega (arith, c.path_counted.ensures.cost 16 (omega (arith, c.count-last.ensures, c.requires, all, size, few)))
