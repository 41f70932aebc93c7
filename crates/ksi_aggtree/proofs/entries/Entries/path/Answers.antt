use Rattle.std.proofs.Common.{◌≡◌, ◌∙◌, List, length, ap, sym, subst, arith}
use Rattle.std.proofs.lemmas.Result.{IfOk-weaker}
use Rattle.ksi_aggtree.specs.declared.item.Item.{Item}
use Rattle.ksi_aggtree.specs.declared.entries.Entry.{Entry}
use Rattle.ksi_aggtree.specs.Climbing.{Climbs}
use Rattle.ksi_aggtree.specs.Owned.{plain_links}
use Rattle.std.specs.Prelude.{IfSome}
use Rattle.ksi_aggtree.specs.Names.{IsName}
use Rattle.ksi_aggtree.specs.Rounds.{as_node, item_at, tree_of}
use Rattle.ksi_aggtree.specs.Paths.{chain_of, item_way}
use Rattle.ksi_aggtree.specs.Entries.{items_of}
use Rattle.ksi_aggtree.proofs.Beside.{beside_items, beside_count}
use Rattle.ksi_aggtree.proofs.entries.Entries.path.Goals as goal

pub path-requires : goal.path-requires
path-requires g c =
    let inside = c.self.inside in
    let count = ap (λ (entries : List Entry). length entries) c.self.view_is in
    omega (arith, c.requires, count, beside_count inside.origins.items inside.round c.self.invariant.count)

pub returns : goal.returns
returns g c =
    let inside = c.self.inside in
    let image = g.C.Compress.image in
    let k = c.args.k in
    let now = c.args.self.now in
    let items : inside.round ≡ items_of now = sym (beside_items inside.origins.items inside.round c.self.invariant.count) ∙ ap items_of c.self.view_is in
    record {
      links = IfOk-weaker c.path.result _ _ (λ links h. h ∙ ap (λ (items : List Item). chain_of image items k) items) c.path.ensures.links;
      climbs = IfOk-weaker c.path.result _ _ (λ links h. subst (λ (items : List Item). Climbs image (as_node (item_at items k)) (plain_links links) (tree_of image items)) items h) c.path.ensures.climbs;
      way = IfOk-weaker c.path.result _ _ (λ links h. h ∙ ap (λ (items : List Item). item_way items k) items) c.path.ensures.way;
      few = c.path.ensures.few;
      name = IfOk-weaker c.path.result _ _ (λ links h. subst (λ (items : List Item). IfSome (item_at items k).name IsName) items h) c.path.ensures.name;
    }
