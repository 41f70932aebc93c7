use Rattle.std.proofs.Common.{◌∙◌, List, ap, sym, subst, arith}
use Rattle.ksi_aggtree.specs.declared.item.Item.{Item}
use Rattle.ksi_aggtree.specs.Paths.{chain_of}
use Rattle.ksi_aggtree.specs.Entries.{items_of}
use Rattle.ksi_signature.specs.Above.{AreRoundLinks}
use Rattle.ksi_aggregator.proofs.Items.{read_item, round_links, chain_like}
use Rattle.ksi_aggregator.proofs.responses.chain_at.Goals as goal

pub from_vec-requires : goal.from_vec-requires
from_vec-requires g c =
    subst AreRoundLinks (sym c.into_vec.ensures)
    (round_links (λ name is. (omega (arith, c.metas_are_even.ensures.least name is), c.metas_are_even.ensures.most name is)) g.C.Compress.image c.args.paths.now c.args.k c.in_ok-links.links
    c.in_ok-links.ensures.links c.in_ok-links.ensures.name c.in_ok-links.ensures.few)

pub returns : goal.returns
returns g c =
    chain_like g.C.Compress.image (items_of c.args.entries.now) c.args.k c.args.entry.now.item c.from_vec.result
    (sym (read_item c.args.entries.now c.args.k c.args.entry.now c.requires.entry)) (c.from_vec.ensures ∙ c.into_vec.ensures ∙ c.in_ok-links.ensures.links ∙ ap (λ (items : List Item). chain_of g.C.Compress.image items c.args.k) c.requires.paths)
