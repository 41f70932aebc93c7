use Rattle.std.proofs.Common.{◌∙◌, List, ap, sym}
use Rattle.ksi_aggtree.specs.declared.item.Item.{Item}
use Rattle.ksi_aggtree.specs.declared.entries.Entry.{Entry}
use Rattle.ksi_aggtree.specs.Rounds.{root_of}
use Rattle.ksi_aggtree.specs.Entries.{items_of}
use Rattle.ksi_aggtree.proofs.Beside.{beside_items}
use Rattle.ksi_aggtree.proofs.entries.Entries.root.Goals as goal

pub returns : goal.returns
returns g c =
    let inside = c.self.inside in
    let image = g.C.Compress.image in
    c.root.ensures
    ∙ ap (λ (items : List Item). root_of image items) (sym (beside_items inside.origins.items inside.round c.self.invariant.count))
    ∙ ap (λ (entries : List Entry). root_of image (items_of entries)) c.self.view_is
