use Rattle.std.proofs.Common.{subst, sym, arith}
use Rattle.ksi_aggtree.specs.Entries.{items_of}
use Rattle.ksi_signature.specs.Above.{AreRoundLinks}
use Rattle.ksi_aggregator.proofs.Items.{round_links}
use Rattle.ksi_aggregator.proofs.round.issued_by.Goals as goal

pub issue-requires-clause-links : goal.issue-requires-clause-links
issue-requires-clause-links g c =
    subst AreRoundLinks (sym c.as_slice.ensures)
    (round_links (λ name is. (omega (arith, c.metas_are_even.ensures.least name is), c.metas_are_even.ensures.most name is)) g.C.Compress.image (items_of c.args.entries.now) c.args.place c.in_ok-links.links
    c.in_ok-links.ensures.links c.in_ok-links.ensures.name c.in_ok-links.ensures.few)
